-- Rule 2: assignment. Of an answer stand here its number and its value in 01's terms. Assumes nothing.
use Rattle.std.specs.Prelude.{ℕ, ◌<◌, ◌≡◌, Bool, ◌||◌, cond, List, length, leb, ltb, eqb, Result, Ok, Err}
use Rattle.links.specs.Lists.{at, unassigned, any, elem, range}
use Rattle.links.specs.Graph.{owned}
use Rattle.links.specs.Refusals.{number_of}
use Rattle.links.specs.declared.refusal.Refusal.{Refusal}
use Rattle.links.specs.declared.refusal.Refusal.TheVariants.{VertexOutOfRange, RankOutOfRange}

-- 2: "k is 0 or 2^32 − 1, or fewer owners than k, or no owners"
unfoldable pub bad_ranks : ℕ → ℕ → Bool
bad_ranks k n = eqb k 0 || eqb k unassigned || ltb n k || eqb n 0

-- 3: the limits of n and k
unfoldable pub too_many : ℕ → ℕ → Bool
too_many k n = ltb 16384 n || ltb 256 k

-- the first of the two, or 0
unfoldable pub counts_cause : ℕ → ℕ → ℕ
counts_cause k n = cond (bad_ranks k n) 2 (cond (too_many k n) 3 0)

-- 12: "an owner ≥ k"
unfoldable pub stray_owner : ℕ → List ℕ → Bool
stray_owner k owners = any (leb k) owners

-- 9: "a crew empty"
unfoldable pub empty_rank : ℕ → List ℕ → Bool
empty_rank k owners = any (λ r. eqb (owned owners r) 0) (range 0 k)

-- the "order of `from_owners`": 2, "3, 12 for an owner ≥ k, 9"; 0 if none
unfoldable pub from_owners : ℕ → List ℕ → ℕ
from_owners k owners =
    cond (bad_ranks k (length owners)) 2 (cond (too_many k (length owners)) 3 (cond (stray_owner k owners) 12 (cond (empty_rank k owners) 9 0)))

-- 11: "turbine index out of range"
unfoldable pub owner_cause : List ℕ → ℕ → ℕ
owner_cause owners v = cond (ltb v (length owners)) 0 11

-- 12: "crew number out of range"
unfoldable pub count_cause : ℕ → ℕ → ℕ
count_cause k r = cond (ltb r k) 0 12

-- ---- the answers: each case's number and value

abbrev pub value_of : Result ℕ Refusal → ℕ
value_of (Ok x) = x
value_of (Err e) = 0

pub record OwnerTold (owners : List ℕ) (v : ℕ) (r : Result ℕ Refusal) : Type 0 where
  pub answer : r ≡ cond (ltb v (length owners)) (Ok (at owners v)) (Err VertexOutOfRange)
  pub number : number_of r ≡ owner_cause owners v
  pub value : value_of r ≡ at owners v

pub record CountTold (k : ℕ) (owners : List ℕ) (rank : ℕ) (r : Result ℕ Refusal) : Type 0 where
  pub answer : r ≡ cond (ltb rank k) (Ok (owned owners rank)) (Err RankOutOfRange)
  pub number : number_of r ≡ count_cause k rank
  pub value : value_of r ≡ cond (ltb rank k) (owned owners rank) 0

-- what marking a list's owners leaves: 1 at each of them, and elsewhere what stood there
pub record Marked (owners marks' marks : List ℕ) : Type 0 where
  pub same_length : length marks' ≡ length marks
  pub entries : (r : ℕ) → r < length marks → at marks' r ≡ cond (elem r owners) 1 (at marks r)
