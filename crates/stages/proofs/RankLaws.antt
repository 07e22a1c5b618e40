-- Every owner is a rank: what growth and a take-over leave. Assumes nothing.
use Prim.Native.Nat.{ℕ, zero, suc, ◌+◌, ◌≤◌, ◌<◌}
use mathlib.Core.Path.{◌≡◌, refl, sym}
use mathlib.Core.Logic.{◌⊎◌, inl, inr, ⊎_elim}
use mathlib.Core.Bool.{false, not}
use mathlib.Core.List.{List, [], ◌∷◌, map}
use native.Mathlib.Omega.{arith}
use lib.ListN.{length, replicate}
use lib.Dec.{eqb}
use borrow.Author.Tests.{eqb-false}
use Rattle.links.specs.Lists.{at, unassigned, any, foldl, range, All}
use Rattle.links.proofs.ListLaws.{split, all_append, all_set, all-range, any_none}
use Rattle.links.proofs.RowLaws.{all-place}
use Rattle.stages.specs.Growth.{Growing, Turn, Choice, passes, claims, restarts, is_pass, after_choice, after_turn, turn, round, rounds, seed_owners, seeded, weighted_multisource, grown}

-- a rank, or no owner yet
abbrev Owned : ℕ → ℕ → Type 0
Owned k x = (x < k) ⊎ (x ≡ unassigned)

pub all_replicate : (P : ℕ → Type 0) (n x : ℕ) → P x → All P (replicate n x)
all_replicate P zero x p = tt
all_replicate P (suc n) x p = (p, all_replicate P n x p)

seeds-owned : (k n : ℕ) (seeds : List ℕ) (r : ℕ) → r + length seeds ≤ k → All (Owned k) (seed_owners n seeds r)
unfolding seed_owners
seeds-owned k n [] r h = all_replicate (Owned k) n unassigned (inr refl)
seeds-owned k n (s ∷ ss) r h = all_set (Owned k) (seed_owners n ss (suc r)) s r (inl (omega arith)) (seeds-owned k n ss (suc r) (omega arith))

choice-owned : (k : ℕ) (o : List ℕ) (r : ℕ) (c : Choice) → r < k → All (Owned k) o → All (Owned k) (after_choice o r c)
unfolding after_choice
choice-owned k o r passes h a = a
choice-owned k o r (claims g) h a = all_set (Owned k) o g r (inl h) a
choice-owned k o r (restarts g) h a = all_set (Owned k) o g r (inl h) a

turns-owned : (k : ℕ) (ts : List Turn) (o : List ℕ) → All (λ t. t.rank < k) ts → All (Owned k) o → All (Owned k) (foldl after_turn o ts)
turns-owned k [] o h a = a
turns-owned k (t ∷ ts) o h a = turns-owned k ts (after_turn o t) h.1 (choice-owned k o t.rank t.choice h.0 a)

module _ (cap : ℕ) (rows : List (List ℕ)) (weights : List ℕ) (k : ℕ) where
  round-ranks : (s : Growing) (rs : List ℕ) → All (λ r. r < k) rs → All (λ t. t.rank < k) (round cap rows weights s rs).turns
  unfolding round turn
  round-ranks s [] h = tt
  round-ranks s (r ∷ rs) h = (h.0, round-ranks (turn cap rows weights s r).state rs h.1)

  rounds-ranks : (f : ℕ) (s : Growing) → All (λ t. t.rank < k) (rounds cap rows weights f k s)
  unfolding rounds
  rounds-ranks zero s = tt
  rounds-ranks (suc f) s =
      let r = round cap rows weights s (range 0 k) in
      let now = round-ranks s (range 0 k) (all-range (λ r. r < k) 0 k (λ x p q. omega arith)) in
      split (any (eqb unassigned) s.owners)
      (λ p. split (any (λ t. not (is_pass t.choice)) r.turns)
      (λ q. rw (p, q) (all_append (λ t. t.rank < k) r.turns (rounds cap rows weights f k r.state) now (rounds-ranks f r.state)))
      (λ q. rw (p, q) now))
      (λ p. rw p tt)

-- after a growth that leaves no group unowned, every owner is a rank
pub grown-ranked
    : (cap : ℕ) (rows : List (List ℕ)) (weights seeds : List ℕ)
    → any (eqb unassigned) (grown (weighted_multisource cap rows weights seeds) (weighted_multisource cap rows weights seeds).turns) ≡ false
    → All (λ x. x < length seeds) (grown (weighted_multisource cap rows weights seeds) (weighted_multisource cap rows weights seeds).turns)
unfolding weighted_multisource grown
grown-ranked cap rows weights seeds e =
    let k = length seeds in
    let ts = rounds cap rows weights (length rows) k (seeded rows seeds) in
    let o = foldl after_turn (seed_owners (length rows) seeds 0) ts in
    both k o (turns-owned k ts (seed_owners (length rows) seeds 0) (rounds-ranks cap rows weights k (length rows) (seeded rows seeds)) (seeds-owned k (length rows) seeds 0 (omega arith))) (any_none (eqb unassigned) o e)
  where
    both : (k : ℕ) (o : List ℕ) → All (Owned k) o → All (λ x. eqb unassigned x ≡ false) o → All (λ x. x < k) o
    both k [] a b = tt
    both k (x ∷ o) a b = (⊎_elim (λ h. h) (λ z. absurd (eqb-false unassigned x b.0 (sym z))) a.0, both k o a.1 b.1)

-- owners that are taken over by groups
pub taken-ranked : (k : ℕ) (oc group : List ℕ) → All (λ x. x < k) oc → All (λ g. g < length oc) group → All (λ x. x < k) (map (at oc) group)
taken-ranked k oc [] a b = tt
taken-ranked k oc (g ∷ gs) a b = (all-place (λ x. x < k) oc g a b.0, taken-ranked k oc gs a b.1)
