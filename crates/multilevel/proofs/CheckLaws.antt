-- The from_owners check: what its number says; and after a level's moves, where every owner is a rank still, that it finds an empty rank or nothing.
-- Assumes nothing.
use Prim.Native.Nat.{ℕ, zero, suc, ◌≤◌, ◌<◌}
use mathlib.Core.Path.{◌≡◌, refl, sym, ◌∙◌, subst}
use mathlib.Core.Logic.{◌≢◌}
use mathlib.Core.Bool.{Bool, true, false, cond, false≢true}
use mathlib.Core.List.{List, [], ◌∷◌, map}
use native.Mathlib.Omega.{arith}
use lib.ListN.{length, set}
use lib.Dec.{leb, eqb}
use borrow.Author.Tests.{ne_eqb, eqb-true, le-ltb, lt-leb}
use Rattle.links.specs.Lists.{at, unassigned, any, foldl, range, elem, All}
use Rattle.links.specs.Loads.{Balance}
use Rattle.links.specs.Graph.{owned}
use Rattle.links.specs.Owners.{bad_ranks, too_many, stray_owner, empty_rank, from_owners}
use Rattle.stages.specs.Moves.{Step, move, swap, after, refine_by_cut}
use Rattle.links.proofs.ListLaws.{split, all_set, all-to, all-range, all_in, any_of, none_any}
use Rattle.stages.proofs.StepLaws.{Along, along-to, Swapped, destination-of, moves-along}
use Rattle.stages.proofs.TargetLaws.{target-rank}

-- ---- every owner is a rank

-- a move to a rank; a swap brings no other owner
abbrev Into : ℕ → Step → Type 0
Into k (move v r) = r < k
Into k (swap u v) = Unit {0}

moves-in
    : (b : Balance) (rows : List (List ℕ)) (ws : List ℕ) (passes : ℕ) (o : List ℕ)
    → Along (λ o s. Into b.ranks s) after o (refine_by_cut b rows ws passes o).steps
moves-in b rows ws passes o =
    moves-along b rows ws (λ o s. Into b.ranks s) (λ o v r h e. target-rank b rows ws o v r (destination-of b rows ws o v r e).1) passes o

-- what stands at any place, since past the end is 0
owner-ranked : (k : ℕ) (o : List ℕ) (v : ℕ) → 1 ≤ k → All (λ x. x < k) o → at o v < k
owner-ranked k [] v h a = h
owner-ranked k (x ∷ o) zero h a = a.0
owner-ranked k (x ∷ o) (suc v) h a = owner-ranked k o v h a.1

steps-ranked
    : (k : ℕ)
    → 1 ≤ k
    → (ss : List Step) (o : List ℕ)
    → Along (λ o s. Into k s) after o ss
    → All (λ x. x < k) o
    → All (λ x. x < k) (foldl after o ss)
unfolding after
steps-ranked k some-ranks [] o a h = h
steps-ranked k some-ranks (move v r ∷ ss) o a h = steps-ranked k some-ranks ss (set o v r) a.1 (all_set (λ x. x < k) o v r a.0 h)
steps-ranked k some-ranks (swap u v ∷ ss) o a h =
    let low : ℕ → Type 0 = λ x. x < k in
    let one = all_set low o u (at o v) (owner-ranked k o v some-ranks h) h in
    steps-ranked k some-ranks ss (set (set o u (at o v)) v (at o u)) a.1 (all_set low (set o u (at o v)) v (at o u) (owner-ranked k o u some-ranks h) one)

-- moves leave every owner a rank
pub moves-ranked
    : (b : Balance) (rows : List (List ℕ)) (ws : List ℕ) (passes : ℕ) (o : List ℕ)
    → 1 ≤ b.ranks
    → All (λ x. x < b.ranks) o
    → All (λ x. x < b.ranks) (foldl after o (refine_by_cut b rows ws passes o).steps)
moves-ranked b rows ws passes o some-ranks h =
    steps-ranked b.ranks some-ranks (refine_by_cut b rows ws passes o).steps o (moves-in b rows ws passes o) h

-- so do swaps
pub swaps-ranked
    : (cap : ℕ) (rows : List (List ℕ)) (weights : List ℕ) (k : ℕ)
    → 1 ≤ k
    → (ss : List Step) (o : List ℕ)
    → Along (Swapped cap rows weights) after o ss
    → All (λ x. x < k) o
    → All (λ x. x < k) (foldl after o ss)
swaps-ranked cap rows weights k some-ranks ss o a h =
    steps-ranked k some-ranks ss o (along-to (Swapped cap rows weights) (λ o s. Into k s) after brings ss o a) h
  where
    brings : (o : List ℕ) (s : Step) → Swapped cap rows weights o s → Into k s
    brings o (move v r) e = absurd e
    brings o (swap u v) e = tt

-- and a take-over
pub taken-all : (k : ℕ) (o group : List ℕ) → 1 ≤ k → All (λ x. x < k) o → All (λ x. x < k) (map (at o) group)
taken-all k o [] h a = tt
taken-all k o (g ∷ gs) h a = (owner-ranked k o g h a, taken-all k o gs h a)

-- ---- the check

-- the first of its four causes that holds
abbrev checked_of : Bool → Bool → Bool → Bool → ℕ
checked_of c2 c3 c12 c9 = cond c2 2 (cond c3 3 (cond c12 12 (cond c9 9 0)))

-- its numbers, 0 for none
abbrev pub check_numbers : List ℕ
check_numbers = 0 ∷ 2 ∷ 3 ∷ 12 ∷ 9 ∷ []

abbrev Verdict : Bool → ℕ → Type 0
Verdict empty number = (elem number check_numbers ≡ true) × (number ≡ 9 → empty ≡ true) × (number ≡ 0 → empty ≡ false)

verdict : (x y z w : Bool) → Verdict w (checked_of x y z w)
verdict true y z w = (refl, (λ e. absurd (omega arith)), (λ e. absurd (omega arith)))
verdict false true z w = (refl, (λ e. absurd (omega arith)), (λ e. absurd (omega arith)))
verdict false false true w = (refl, (λ e. absurd (omega arith)), (λ e. absurd (omega arith)))
verdict false false false true = (refl, (λ e. refl), (λ e. absurd (omega arith)))
verdict false false false false = (refl, (λ e. absurd (omega arith)), (λ e. refl))

-- what the check's number says of an empty rank
pub checked : (k : ℕ) (o : List ℕ) → Verdict (empty_rank k o) (from_owners k o)
unfolding from_owners
checked k o = verdict (bad_ranks k (length o)) (too_many k (length o)) (stray_owner k o) (empty_rank k o)

-- it is none of growth's
pub unchecked : (k : ℕ) (o : List ℕ) (number : ℕ) → elem number check_numbers ≡ false → from_owners k o ≢ number
unchecked k o number d e = false≢true (sym d ∙ subst (λ (x : ℕ). elem x check_numbers ≡ true) e (checked k o).0)

module _
    (k : ℕ) (o : List ℕ) (some-ranks : 1 ≤ k) (few-ranks : k ≤ 256) (enough : k ≤ length o) (few : length o ≤ 16384)
    (ranked : All (λ x. x < k) o) where
  -- the check answers 9 or 0
  check-is : from_owners k o ≡ cond (empty_rank k o) 9 0
  unfolding from_owners bad_ranks too_many stray_owner
  check-is =
      let stray : any (leb k) o ≡ false = none_any (leb k) o (all-to (λ x. x < k) (λ x. leb k x ≡ false) (λ x h. lt-leb k x h) o ranked) in
      let counts = ne_eqb k unassigned (λ e. omega arith) in
      let some = ne_eqb (length o) 0 (λ e. omega arith) in
      rw (ne_eqb k 0 (λ e. omega arith), counts, le-ltb (length o) k enough, some, le-ltb 16384 (length o) few, le-ltb 256 k few-ranks, stray)

  -- where it is not 0, it is 9, and a rank owns nothing
  pub check-empty : from_owners k o ≢ 0 → (from_owners k o ≡ 9) × ((r : ℕ) × (r < k) × (owned o r ≡ 0))
  unfolding empty_rank
  check-empty d = split (any (λ r. eqb (owned o r) 0) (range 0 k))
      (λ p.
      let w = any_of (λ r. eqb (owned o r) 0) (range 0 k) p in
      let low : All (λ r. r < k) (range 0 k) = all-range (λ r. r < k) 0 k (λ x h j. omega arith) in
      (check-is ∙ rw p, (w.0, all_in (λ r. r < k) (range 0 k) w.0 low w.1, eqb-true (owned o w.0) 0 w.2)))
      (λ p. absurd (d (check-is ∙ rw p)))
