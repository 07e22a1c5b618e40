-- Growth that gets stuck: no rank has room for any group that is left; and where every weight is 1, it gets stuck exactly when the ranks together may
-- own fewer vertices than there are. Assumes nothing.
use Prim.Native.Nat.{ℕ, suc, ◌*◌, ◌≤◌, ◌<◌}
use mathlib.Core.Path.{◌≡◌, refl, sym, ap, ◌∙◌, subst}
use mathlib.Core.Logic.{◌↔◌}
use mathlib.Core.Bool.{true, false, false≢true}
use mathlib.Core.List.{List, [], ◌∷◌}
use native.Mathlib.Omega.{arith}
use lib.ListN.{length, replicate, get_or-replicate}
use lib.Dec.{ltb, eqb}
use borrow.Author.Tests.{ltb-true, ltb-false, le-ltb, eqb-true}
use Rattle.links.specs.Lists.{at, unassigned, any, foldl, range, All}
use Rattle.links.specs.Graph.{load, owned}
use Rattle.stages.specs.Seeds.{farthest_seeds}
use Rattle.stages.specs.Growth.{Turn, passes, after_choice, after_turn, turn, seed_owners, Growth, weighted_multisource, grown}
use Rattle.links.proofs.ListLaws.{split, any-counts, all_in, elem-range, none_any, total-le, total-same}
use Rattle.links.proofs.OwnerLaws.{owned-most, owned-all}
use Rattle.stages.proofs.StepLaws.{Along, along-suffix, foldl-append}
use Rattle.stages.proofs.GrowthLaws.{unowned-in, NoneFits, turn-fair, length-seeds, length-grown, growth-along, all_pass, growth-last}
use Rattle.stages.proofs.LoadLaws.{load-owned, growth-within}
use Rattle.stages.proofs.RankLaws.{all_replicate, grown-ranked}

-- ---- the last round, in which every rank passed

-- it left the owners as they were
quiet : (rs o : List ℕ) → foldl after_turn o (all_pass rs) ≡ o
unfolding after_choice
quiet [] o = refl
quiet (r ∷ rs) o = quiet rs o

module _ (cap : ℕ) (rows : List (List ℕ)) (weights : List ℕ) where
  -- "a crew passes exactly when no unowned group fits under its cap"
  abbrev Fair : List ℕ → Turn → Type 0
  Fair o t = (t.choice ≡ passes) ↔ NoneFits cap rows weights o t.rank

  -- so each met the same owners, of which none fits
  quiet_none : (rs o : List ℕ) → Along Fair after_turn o (all_pass rs) → All (NoneFits cap rows weights o) rs
  unfolding after_choice
  quiet_none [] o a = tt
  quiet_none (r ∷ rs) o a = (a.0.0 refl, quiet_none rs o a.1)

  -- a growth that leaves a group unowned leaves no rank room for any
  pub stuck-none
      : (k : ℕ)
      → k < unassigned
      → (let g = weighted_multisource cap rows weights (farthest_seeds rows k) in
      let o = grown g g.turns in
      any (eqb unassigned) o ≡ true → All (NoneFits cap rows weights o) (range 0 k))
  unfolding weighted_multisource grown turn
  stuck-none k few e =
      let seeds = farthest_seeds rows k in
      let turns = (weighted_multisource cap rows weights seeds).turns in
      let start = seed_owners (length rows) seeds 0 in
      let w = growth-last cap rows weights k few e in
      let before = w.0 in
      let round = all_pass (range 0 k) in
      let met = foldl after_turn start before in
      let last : foldl after_turn start turns ≡ met =
      ap (foldl after_turn start) w.1 ∙ foldl-append after_turn before round start ∙ quiet (range 0 k) met in
      let along = subst (Along Fair after_turn start) w.1 (growth-along cap rows weights Fair (turn-fair cap rows weights) seeds) in
      subst (λ (o : List ℕ). All (NoneFits cap rows weights o) (range 0 k)) (sym last)
      (quiet_none (range 0 k) met (along-suffix Fair after_turn before round start along))

-- ---- where every weight is 1

some-unowned : (o : List ℕ) → any (eqb unassigned) o ≡ true → (v : ℕ) × (at o v ≡ unassigned)
some-unowned [] e = absurd (false≢true e)
some-unowned (x ∷ o) e = split (eqb unassigned x)
    (λ p. (0, sym (eqb-true unassigned x p)))
    (λ p. let w = some-unowned o (rw p at e) in (suc w.0, w.1))

-- no vertex weighs more than the cap
pub ones-light : (cap n : ℕ) → 1 ≤ cap → any (ltb cap) (replicate n 1) ≡ false
ones-light cap n h = none_any (ltb cap) (replicate n 1) (all_replicate (λ x. ltb cap x ≡ false) n 1 (le-ltb cap 1 h))

module _ (cap : ℕ) (rows : List (List ℕ)) (k : ℕ) (few : k < unassigned) where
  abbrev ones : List ℕ
  ones = replicate (length rows) 1

  abbrev growth : Growth
  growth = weighted_multisource cap rows ones (farthest_seeds rows k)

  abbrev ends : List ℕ
  ends = grown growth growth.turns

  size : length ends ≡ length rows
  unfolding weighted_multisource
  size = length-grown growth growth.turns

  -- a load is the number owned
  load-ends : (r : ℕ) → load ones ends r ≡ owned ends r
  load-ends r = subst (λ (m : ℕ). load (replicate m 1) ends r ≡ owned ends r) size (load-owned ends r)

  -- stuck, each rank is full
  full : any (eqb unassigned) ends ≡ true → (r : ℕ) → r < k → cap ≤ owned ends r
  full e r h =
      let w = some-unowned ends e in
      let v = w.0 in
      let inside : v < length rows = omega (arith, unowned-in ends v w.1, size) in
      let one : at ones v ≡ 1 = get_or-replicate (length rows) v 1 0 inside in
      let none = all_in (NoneFits cap rows ones ends) (range 0 k) r (stuck-none cap rows ones k few e) (elem-range r 0 k (omega arith) (omega arith)) in
      split (ltb (owned ends r) cap)
      (λ p. absurd (none v inside w.1 (omega (arith, load-ends r, one, ltb-true (owned ends r) cap p))))
      (λ p. ltb-false (owned ends r) cap p)

  -- and a vertex is left over
  stuck-tight : any (eqb unassigned) ends ≡ true → k * cap < length rows
  stuck-tight e =
      omega (
        arith,
        total-same 0 k cap,
        total-le 0 k (λ r. cap) (owned ends) (λ r a b. full e r (omega arith)),
        owned-most k (omega arith) ends,
        any-counts (eqb unassigned) ends e,
        size,
      )

  -- not stuck, the ranks own all, and none more than the cap
  free_loose : 1 ≤ cap → any (eqb unassigned) ends ≡ false → length rows ≤ k * cap
  free_loose h e =
      let seeds = farthest_seeds rows k in
      let ranked = subst (λ (j : ℕ). All (λ x. x < j) ends) (length-seeds rows k) (grown-ranked cap rows ones seeds e) in
      let within : (r : ℕ) → r < k → owned ends r ≤ cap =
      λ r l. omega (arith, load-ends r, growth-within cap rows ones seeds (ones-light cap (length rows) h) r (λ q. omega arith)) in
      omega (arith, total-same 0 k cap, total-le 0 k (owned ends) (λ r. cap) (λ r a b. within r (omega arith)), owned-all k ends ranked, size)

  -- growth leaves a vertex unowned exactly when the ranks together may own fewer than there are
  pub growth-stuck : 1 ≤ cap → (any (eqb unassigned) ends ≡ true) ↔ (k * cap < length rows)
  growth-stuck h = (stuck-tight, λ t. split (any (eqb unassigned) ends) (λ p. p) (λ p. absurd (omega (arith, free_loose h p, t))))
