-- The tests in their order, and what passes them. Assumes nothing.
use Prim.Native.Nat.{ℕ, ◌<◌}
use mathlib.Core.Path.{◌≡◌, sym, ◌∙◌}
use mathlib.Core.Bool.{◌&&◌, true≢false}
use mathlib.Core.List.{List}
use mathlib.Core.Logic.{◌≢◌, ◌⊎◌, ⊎_elim}
use native.Mathlib.Omega.{arith}
use lib.ListN.{length}
use lib.Dec.{eqb}
use borrow.Author.Tests.{eq-eqb, ne_eqb, eqb-true}
use Rattle.links.specs.Lists.{All}
use Rattle.links.specs.Graph.{vertex_count, rows_of, site_cause, OwnedLists}
use Rattle.links.specs.Owners.{from_owners}
use Rattle.links.proofs.ListLaws.{split, and_l, and_r, and-false, all-to}
use Rattle.links.proofs.ListTestLaws.{site-passed}
use Rattle.links.proofs.OwnerLaws.{assigned}
use Rattle.links.proofs.RowLaws.{length-rows}
use Rattle.compare.specs.Ordered.{Division}
use Rattle.compare.specs.Comparison.{first_cause, lengths_cause, comparison_cause}

-- ---- two causes

cause-stops : (a b : ℕ) → a ≢ 0 → a ≡ first_cause a b
cause-stops a b n = rw (ne_eqb a 0 n)

cause-passes : (a b : ℕ) → a ≡ 0 → b ≡ first_cause a b
cause-passes a b e = rw (eq-eqb a 0 e)

both-pass : (a b : ℕ) → first_cause a b ≡ 0 → (a ≡ 0) × (b ≡ 0)
both-pass a b e = split (eqb a 0)
    (λ p. (eqb-true a 0 p, rw p at e))
    (λ p. absurd (true≢false (sym (eq-eqb a 0 (rw p at e)) ∙ p)))

-- ---- the lengths

pub lengths_differ : (n : ℕ) (first second : List ℕ) → (length first ≢ n) ⊎ (length second ≢ n) → 18 ≡ lengths_cause n first second
unfolding lengths_cause
lengths_differ n first second d = ⊎_elim
    (λ h. rw (ne_eqb (length first) n h))
    (λ h. simp (ne_eqb (length second) n h, and-false))
    d

pub lengths-agree : (n : ℕ) (first second : List ℕ) → length first ≡ n → length second ≡ n → 0 ≡ lengths_cause n first second
unfolding lengths_cause
lengths-agree n first second d e = rw (eq-eqb (length first) n d, eq-eqb (length second) n e)

lengths-pass : (n : ℕ) (first second : List ℕ) → lengths_cause n first second ≡ 0 → (length first ≡ n) × (length second ≡ n)
unfolding lengths_cause
lengths-pass n first second e = split (eqb (length first) n && eqb (length second) n)
    (λ p. (eqb-true (length first) n (and_l (eqb (length first) n) (eqb (length second) n) p), eqb-true (length second) n (and_r (eqb (length first) n) (eqb (length second) n) p)))
    (λ p. let z : ◌≡◌ {A = ℕ} 18 0 = rw p at e in absurd (omega arith))

-- ---- the tests in their order

module _ (offsets neighbors : List ℕ) (k : ℕ) (first second : List ℕ) where
  pub cause-site : site_cause offsets neighbors ≢ 0 → site_cause offsets neighbors ≡ comparison_cause offsets neighbors k first second
  unfolding comparison_cause
  cause-site h = cause-stops (site_cause offsets neighbors) _ h

  module _ (site : site_cause offsets neighbors ≡ 0) where
    pub cause-first : from_owners k first ≢ 0 → from_owners k first ≡ comparison_cause offsets neighbors k first second
    unfolding comparison_cause
    cause-first h = cause-stops (from_owners k first) _ h ∙ cause-passes (site_cause offsets neighbors) _ site

    module _ (one : from_owners k first ≡ 0) where
      pub cause-second : from_owners k second ≢ 0 → from_owners k second ≡ comparison_cause offsets neighbors k first second
      unfolding comparison_cause
      cause-second h = cause-stops (from_owners k second) _ h ∙ cause-passes (from_owners k first) _ one ∙ cause-passes (site_cause offsets neighbors) _ site

      pub cause-lengths : from_owners k second ≡ 0 → lengths_cause (vertex_count offsets) first second ≡ comparison_cause offsets neighbors k first second
      unfolding comparison_cause
      cause-lengths other = cause-passes (from_owners k second) _ other ∙ cause-passes (from_owners k first) _ one ∙ cause-passes (site_cause offsets neighbors) _ site

  -- what passes: a site, and two divisions of it
  pub record Passed : Type 0 where
    pub site : site_cause offsets neighbors ≡ 0
    pub one : Division (rows_of offsets neighbors) k first
    pub other : Division (rows_of offsets neighbors) k second

  pub passed : comparison_cause offsets neighbors k first second ≡ 0 → Passed
  unfolding comparison_cause
  passed e =
      let a = both-pass (site_cause offsets neighbors) _ e in
      let b = both-pass (from_owners k first) _ a.1 in
      let c = both-pass (from_owners k second) _ b.1 in
      let d = lengths-pass (vertex_count offsets) first second c.1 in
      record {
        site = a.0;
        one = record { sized = d.0 ∙ sym (length-rows offsets neighbors); own = b.0 };
        other = record { sized = d.1 ∙ sym (length-rows offsets neighbors); own = c.0 };
      }

-- what a division is to the code
module _ (offsets neighbors : List ℕ) (k : ℕ) (owners : List ℕ) (site : site_cause offsets neighbors ≡ 0) (d : Division (rows_of offsets neighbors) k owners) where
  pub division-lists : OwnedLists offsets neighbors owners
  division-lists =
      let s = site-passed offsets neighbors site in
      let sized : length owners ≡ vertex_count offsets = d.sized ∙ length-rows offsets neighbors in
      record { lists = s.0; sized = sized; few = rw sized s.1; short = s.2 }

  pub division-ranks : All (λ o. o < 256) owners
  division-ranks = let a = assigned k owners d.own in all-to (λ o. o < k) (λ o. o < 256) (λ o h. omega (arith, a.few)) owners a.ranked
