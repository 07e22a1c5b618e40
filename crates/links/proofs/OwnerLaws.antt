-- Laws of owner lists: one owner more counted, met or marked; what the marks are worth; what the ranks own together. Assumes nothing.
use Prim.Native.Nat.{ℕ, zero, suc, ◌+◌, ◌-◌, ◌≤◌, ◌<◌}
use mathlib.Core.Path.{◌≡◌, refl, sym, ap, ◌∙◌}
use mathlib.Core.Bool.{Bool, true, false, ◌||◌, cond}
use mathlib.Core.List.{List, [], ◌∷◌}
use native.Mathlib.Omega.{arith}
use native.Mathlib.Numerals.{add-one}
use lib.ListN.{length, take, drop, set, replicate, length-set, length-take, length-replicate, get_or-replicate, get_or-eq_default}
use lib.Seq.{take-suc, take-length, take-add, get_or-set_same, get_or-set_other}
use lib.Dec.{leb, ltb, eqb}
use borrow.Author.Tests.{eq-eqb, ne_eqb, ltb-true, ltb-false, leb-false, eqb-true, eqb-false}
use Rattle.links.specs.Lists.{at, unassigned, any, elem, range, All}
use Rattle.links.specs.Parts.{table}
use Rattle.links.specs.Graph.{owned}
use Rattle.links.specs.Owners.{bad_ranks, too_many, counts_cause, stray_owner, empty_rank, from_owners, Marked}
use Rattle.links.proofs.ListLaws.{split, or_l, or_r, or-true, or-false, tally, count, count-cons, count-length, count-append, count-all, count-apart, all-to, to-all, any-ext, any_none, total, counted-below, counted, count-drop, none-counts, all-get_or, elem-take}
use Rattle.links.proofs.RangeLaws.{none_passes, range_snoc}
use Rattle.links.proofs.ChainLaws.{any-chain}
use Rattle.std.specs.List.{list_any}
use Rattle.std.proofs.lemmas.List.Folds.{list_any-append}
use Rattle.std.specs.Prelude.{Result, Ok, Err}
use Rattle.links.specs.Refusals.{number_of}
use Rattle.links.specs.declared.refusal.Refusal.{Refusal}
use Rattle.links.proofs.RefusalLaws.{refusal-some}
use Rattle.links.proofs.PartLaws.{length-table, get_or-table, table-zero, table-add}

module _ (owners : List ℕ) (i : ℕ) (h : i < length owners) where
  pub owned-drop : (r : ℕ) → owned (drop i owners) r ≡ tally (eqb r (at owners i)) + owned (drop (i + 1) owners) r
  unfolding owned
  owned-drop r = count-drop owners i 0 h (eqb r)

  pub owned-take : (r : ℕ) → owned (take (i + 1) owners) r ≡ owned (take i owners) r + tally (eqb r (at owners i))
  unfolding owned
  owned-take r = rw (add-one, take-suc owners i 0 h) (count-append (eqb r) (take i owners) (at owners i ∷ []) ∙ omega (arith, count-cons (eqb r) (at owners i) []))

-- with no stray owner, each is below k
pub all-below : (k : ℕ) (owners : List ℕ) → stray_owner k owners ≡ false → (i : ℕ) → i < length owners → at owners i < k
unfolding stray_owner
all-below k owners e i h = leb-false k (at owners i) (all-get_or owners i 0 h (λ x. leb k x ≡ false) (any_none (leb k) owners e))

pub marked-none : (marks : List ℕ) → Marked [] marks marks
marked-none marks = record { same_length = refl; entries = λ r h. refl }

pub marked_more : (marks' marks owners : List ℕ) (i : ℕ) → i < length owners → at owners i < length marks → Marked (take i owners) marks' marks
    → Marked (take (i + 1) owners) (set marks' (at owners i) 1) marks
marked_more marks' marks owners i h b m =
    record {
      same_length = length-set marks' (at owners i) 1 ∙ m.same_length;
      entries = λ r l. rw (elem-take r owners i h) (split (eqb r (at owners i))
          (λ p. let e = eqb-true r (at owners i) p in let g = m.same_length in
          simp (p, or-true) (rw e (get_or-set_same marks' (at owners i) 1 0 (omega arith))))
          (λ p. rw (p, get_or-set_other marks' (at owners i) r 1 0 (eqb-false r (at owners i) p)) (simp or-false (m.entries r l))));
    }

-- a rank is without a mark exactly when it owns nothing
pub unmarked : (owners marks : List ℕ) (n : ℕ) → Marked owners marks (replicate n 0) → (r : ℕ) → r < n → eqb (at marks r) 0 ≡ eqb (owned owners r) 0
unfolding owned
unmarked owners marks n m r h =
    let l : r < length {A = ℕ} (replicate n 0) = simp length-replicate h in
    rw (m.entries r l, get_or-replicate, none-counts)
    (split (elem r owners) (λ p. rw p) (λ p. rw p))

-- a test of the first k numbers of a list, by place
any-taken : (p : ℕ → Bool) (xs : List ℕ) (k : ℕ) → k ≤ length xs → list_any p (take k xs) ≡ list_any (λ r. p (at xs r)) (range 0 k)
any-taken p xs zero h = refl
any-taken p xs (suc k) h =
    ap (list_any p) (take-suc xs k 0 h)
    ∙ list_any-append p (take k xs) (at xs k ∷ [])
    ∙ ap (λ b. b || (p (at xs k) || false)) (any-taken p xs k (omega arith))
    ∙ sym (list_any-append (λ r. p (at xs r)) (range 0 k) (k ∷ []))
    ∙ sym (ap (λ ys. list_any (λ r. p (at xs r)) ys) (range_snoc 0 k k (omega arith)))

-- a rank without a vertex is a 0 among the first k marks
pub unmarked-empty : (owners marks : List ℕ) (n k : ℕ) → Marked owners marks (replicate n 0) → k ≤ n
    → list_any (λ y. eqb y 0) (take k marks) ≡ empty_rank k owners
unfolding empty_rank
unmarked-empty owners marks n k m h =
    let l : length marks ≡ n = m.same_length ∙ length-replicate n 0 in
    any-taken (λ y. eqb y 0) marks k (omega arith)
    ∙ any-chain (λ r. eqb (at marks r) 0) (range 0 k)
    ∙ any-ext (λ r. eqb (at marks r) 0) (λ r. eqb (owned owners r) 0) 0 k (λ r a b. unmarked owners marks n m r (omega arith))

pub counts-refused : (k : ℕ) (owners : List ℕ) → (counts_cause k (length owners) ≡ 0 → ⊥) → counts_cause k (length owners) ≡ from_owners k owners
unfolding from_owners counts_cause
counts-refused k owners h =
    split (bad_ranks k (length owners)) (λ p. simp p) (λ p. split (too_many k (length owners)) (λ q. simp (p, q)) (λ q. absurd (h (simp (p, q)))))

pub counts-passed : (k : ℕ) (owners : List ℕ) → counts_cause k (length owners) ≡ 0
    → cond (stray_owner k owners) 12 (cond (empty_rank k owners) 9 0) ≡ from_owners k owners
unfolding from_owners counts_cause
counts-passed k owners e = split (bad_ranks k (length owners))
    (λ p. let z : ◌≡◌ {A = ℕ} 2 0 = simp p at e in absurd (omega arith))
    (λ p. split (too_many k (length owners))
    (λ q. let z : ◌≡◌ {A = ℕ} 3 0 = simp (p, q) at e in absurd (omega arith))
    (λ q. simp (p, q)))

pub counts-limit : (k n : ℕ) → counts_cause k n ≡ 0 → k ≤ 256
unfolding counts_cause too_many
counts-limit k n e = split (bad_ranks k n)
    (λ p. let z : ◌≡◌ {A = ℕ} 2 0 = simp p at e in absurd (omega arith))
    (λ p. split (ltb 256 k)
    (λ q. let z : ◌≡◌ {A = ℕ} 3 0 = simp (p, q, or-true) at e in absurd (omega arith))
    (λ q. ltb-false 256 k q))

pub stray-refused : (k : ℕ) (owners : List ℕ) → counts_cause k (length owners) ≡ 0 → stray_owner k owners ≡ true → 12 ≡ from_owners k owners
stray-refused k owners e s = rw s at (counts-passed k owners e)

-- what a list is that passes: some ranks, few, no more than owners, each owner one of them, and none of them empty; and no refusal has a number above 12
pub record Assigned (k : ℕ) (owners : List ℕ) : Type 0 where
  pub some : 1 ≤ k
  pub enough : k ≤ length owners
  pub few : k ≤ 256
  pub ranked : All (λ x. x < k) owners
  pub filled : (r : ℕ) → r < k → 1 ≤ owned owners r

pub assigned : (k : ℕ) (owners : List ℕ) → from_owners k owners ≡ 0 → Assigned k owners
unfolding from_owners bad_ranks too_many stray_owner empty_rank
assigned k owners z = split (eqb k 0 || eqb k unassigned || ltb (length owners) k || eqb (length owners) 0)
    (λ p. let x : ◌≡◌ {A = ℕ} 2 0 = rw p at z in absurd (omega arith))
    (λ p. split (ltb 16384 (length owners) || ltb 256 k)
    (λ q. let x : ◌≡◌ {A = ℕ} 3 0 = rw (p, q) at z in absurd (omega arith))
    (λ q. split (any (leb k) owners)
    (λ r. let x : ◌≡◌ {A = ℕ} 12 0 = rw (p, q, r) at z in absurd (omega arith))
    (λ r. split (any (λ x. eqb (owned owners x) 0) (range 0 k))
    (λ s. let x : ◌≡◌ {A = ℕ} 9 0 = rw (p, q, r, s) at z in absurd (omega arith))
    (λ s.
    let enough = or_l (eqb k 0 || eqb k unassigned || ltb (length owners) k) (eqb (length owners) 0) p in
    let none = eqb-false k 0 (or_l (eqb k 0) (eqb k unassigned) (or_l (eqb k 0 || eqb k unassigned) (ltb (length owners) k) enough)) in
    record {
      some = omega arith;
      enough = ltb-false (length owners) k (or_r (eqb k 0 || eqb k unassigned) (ltb (length owners) k) enough);
      few = ltb-false 256 k (or_r (ltb 16384 (length owners)) (ltb 256 k) q);
      ranked = all-to (λ x. leb k x ≡ false) (λ x. x < k) (λ x e. leb-false k x e) owners (any_none (leb k) owners r);
      filled = λ x h. let e = eqb-false (owned owners x) 0 (none_passes (λ y. eqb (owned owners y) 0) k s x h) in omega arith;
    }))))

-- the case of an answer, by its number
module _ (k : ℕ) (owners : List ℕ) (r : Result (Unit {0}) Refusal) (t : number_of r ≡ from_owners k owners) where
  pub assignment-valid : (x : Unit {0}) → r ≡ Ok x → from_owners k owners ≡ 0
  assignment-valid x e = sym t ∙ ap number_of e

  pub assignment-refused : (e : Refusal) → r ≡ Err e → from_owners k owners ≡ 0 → ⊥
  assignment-refused e h z = refusal-some e (sym (ap number_of h) ∙ t ∙ z)

pub owners-numbers : (k : ℕ) (owners : List ℕ) → from_owners k owners ≤ 12
unfolding from_owners
owners-numbers k owners = split (bad_ranks k (length owners))
    (λ p. rw p (omega arith))
    (λ p. split (too_many k (length owners))
    (λ q. rw (p, q) (omega arith))
    (λ q. split (stray_owner k owners)
    (λ r. rw (p, q, r) (omega arith))
    (λ r. split (empty_rank k owners) (λ s. rw (p, q, r, s) (omega arith)) (λ s. rw (p, q, r, s) (omega arith)))))

-- ---- the counts of n ranks, one owner after the other

pub owned-counts-none : (n : ℕ) → table (owned []) n ≡ replicate n 0
unfolding owned
owned-counts-none n = table-zero (owned []) n (λ r h. refl)

module _ (owners : List ℕ) (v n : ℕ) where
  abbrev counts : List ℕ
  counts = table (owned (take v owners)) n

  sized : length counts ≡ n
  sized = length-table (owned (take v owners)) n

  entry : (r : ℕ) → r < n → at counts r ≡ owned (take v owners) r
  entry r h = get_or-table (owned (take v owners)) n r h

  -- the owner of v has one more
  pub owned-counts-more : v < length owners → set (table (owned (take v owners)) n) (at owners v) (at (table (owned (take v owners)) n) (at owners v) + 1)
      ≡ table (owned (take (v + 1) owners)) n
  owned-counts-more h = table-add (owned (take v owners)) (owned (take (v + 1) owners)) n (at owners v) 1 (λ r l. owned-take owners v h r)

  -- no more than are counted
  pub owned-counts-few : (r : ℕ) → at (table (owned (take v owners)) n) r ≤ v
  unfolding owned
  owned-counts-few r = split (ltb r n)
      (λ p. omega (arith, entry r (ltb-true r n p), count-length (eqb r) (take v owners), length-take v owners))
      (λ p. omega (arith, sized, ltb-false r n p, get_or-eq_default counts 0 {n = r} (omega (arith, sized, ltb-false r n p))))

-- ---- how many of a rank's vertices come before v

module _ (owners : List ℕ) (v : ℕ) (h : v < length owners) where
  -- before a later vertex, or the end, there is v too
  pub owned-later : (w : ℕ) → v < w → owned (take v owners) (at owners v) < owned (take w owners) (at owners v)
  unfolding owned
  owned-later w k =
      let o = at owners v in
      let e : v + 1 + (w - (v + 1)) ≡ w = omega arith in
      let more : count (eqb o) (take w owners) ≡ count (eqb o) (take (v + 1) owners) + count (eqb o) (take (w - (v + 1)) (drop (v + 1) owners)) =
      ap (λ (i : ℕ). count (eqb o) (take i owners)) (sym e) ∙ ap (count (eqb o)) (take-add (v + 1) (w - (v + 1)) owners) ∙ count-append (eqb o) (take (v + 1) owners) (take (w - (v + 1)) (drop (v + 1) owners)) in
      omega (arith, more, owned-self)
    where
      owned-self : count (eqb (at owners v)) (take (v + 1) owners) ≡ count (eqb (at owners v)) (take v owners) + 1
      owned-self = owned-take owners v h (at owners v) ∙ rw (eq-eqb (at owners v) (at owners v) refl)

  pub owned-before : owned (take v owners) (at owners v) < owned owners (at owners v)
  owned-before = omega (arith, owned-later (length owners) h, ap (λ (l : List ℕ). owned l (at owners v)) (take-length owners))

-- ---- what the ranks own together

-- with what nobody owns it is no more than there is
pub owned-most : (k : ℕ) → k ≤ unassigned → (owners : List ℕ) → total 0 k (owned owners) + count (eqb unassigned) owners ≤ length owners
unfolding owned
owned-most k h owners =
    let apart : (x : ℕ) → ltb x k ≡ true → eqb unassigned x ≡ false = λ x p. ne_eqb unassigned x (λ e. omega (arith, ltb-true x k p)) in
    omega (arith, counted-below (λ u. true) k owners, count-apart (λ u. ltb u k) (eqb unassigned) apart owners)

-- and all, where every owner is a rank
pub owned-all : (k : ℕ) (owners : List ℕ) → All (λ x. x < k) owners → total 0 k (owned owners) ≡ length owners
unfolding owned
owned-all k owners a = counted (λ u. true) k owners a ∙ count-all (λ u. true) owners (to-all (λ u. true ≡ true) (λ u. refl) owners)
