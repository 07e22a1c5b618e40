-- The stages over numbers and slices: what each leaves of a lent level. Nothing is promised of the rest of the work slice. Assumes nothing.
use Rattle.std.specs.Prelude.{ℕ, ◌+◌, ◌≡◌, false, cond, List, length, eqb, None}
use Rattle.links.specs.Lists.{foldl}
use Rattle.links.specs.Loads.{Balance}
use Rattle.links.specs.Options.{bad_list_length}
use Rattle.links.specs.Parts.{part}
use Rattle.links.specs.Graph.{vertex_count}
use Rattle.links.specs.Owners.{from_owners}
use Rattle.stages.specs.Coarsen.{Coarse, coarsen_once}
use Rattle.stages.specs.Seeds.{farthest_seeds}
use Rattle.stages.specs.Growth.{Growth, weighted_multisource, grown, restart_count}
use Rattle.stages.specs.Moves.{Step, after, refine_by_cut}
use Rattle.stages.specs.Swaps.{refine_fine_pair_swaps}
use Rattle.stages.specs.Level.{rows_at, weights_at, group_at, owners_at}
use Rattle.stages.specs.CoarsenCode.{next_of, answer_of, coarsened_values}
use Rattle.stages.specs.SeedsCode.{seeds_at}
use Rattle.stages.specs.GrowthCode.{too_heavy, too_few_groups, left_cause}
use Rattle.bridge_stages.specs.Lent.{Lent, rows_in, place_of, lent_cause}

-- the first number if it is not 0, else the second
abbrev pub or_else : ℕ → ℕ → ℕ
or_else x y = cond (eqb x 0) y x

-- ---- rule 3

abbrev pub step_of : Lent → Coarse
step_of s = coarsen_once (rows_in s) s.weights

pub record CoarsenedHere (s : Lent) (w w' counts : List ℕ) (number : ℕ) : Type 0 where
  pub number_is : number ≡ lent_cause s (length w)
  pub refused : (number ≡ 0 → ⊥) → w' ≡ w
  pub counts-are : counts ≡ cond (eqb number 0) (coarsened_values (answer_of (step_of s) (vertex_count s.offsets))) (coarsened_values None)
  pub group : number ≡ 0 → group_at w' (place_of s).level ≡ (step_of s).group
  pub rows : number ≡ 0 → rows_at w' (next_of (place_of s).next (step_of s)) ≡ (step_of s).rows
  pub weights : number ≡ 0 → weights_at w' (next_of (place_of s).next (step_of s)) ≡ (step_of s).weights

-- ---- rule 4

-- 7: fewer vertices than ranks
abbrev pub seeds_cause : Lent → ℕ → ℕ
seeds_cause s work = or_else (lent_cause s work) (cond (too_few_groups (rows_in s) s.ranks) 7 0)

abbrev pub seeds_in : Lent → List ℕ → List ℕ
seeds_in s w = let a = seeds_at (place_of s).level (place_of s).scratch in part w a (a + s.ranks)

pub record SeededHere (s : Lent) (w w' : List ℕ) (number : ℕ) : Type 0 where
  pub number_is : number ≡ seeds_cause s (length w)
  pub refused : (lent_cause s (length w) ≡ 0 → ⊥) → w' ≡ w
  pub seeds : number ≡ 0 → seeds_in s w' ≡ farthest_seeds (rows_in s) s.ranks

-- ---- rule 5

abbrev pub growth_of : Lent → ℕ → Growth
growth_of s cap = weighted_multisource cap (rows_in s) s.weights (farthest_seeds (rows_in s) s.ranks)

abbrev pub grown_of : Lent → ℕ → List ℕ
grown_of s cap = grown (growth_of s cap) (growth_of s cap).turns

-- 6 before 7 before 8
abbrev pub growth_cause_of : Lent → ℕ → ℕ
growth_cause_of s cap = cond (too_heavy cap s.weights) 6 (cond (too_few_groups (rows_in s) s.ranks) 7 (left_cause (grown_of s cap)))

pub record GrownHere (s : Lent) (cap : ℕ) (w w' : List ℕ) (restarts number : ℕ) : Type 0 where
  pub number_is : number ≡ or_else (lent_cause s (length w)) (growth_cause_of s cap)
  pub refused : (lent_cause s (length w) ≡ 0 → ⊥) → w' ≡ w
  pub restarts-are : restarts ≡ cond (eqb number 0) (restart_count (growth_of s cap).turns) 0
  pub owners
      : lent_cause s (length w) ≡ 0
      → too_heavy cap s.weights ≡ false
      → too_few_groups (rows_in s) s.ranks ≡ false
      → owners_at w' (place_of s).level ≡ grown_of s cap

-- ---- rules 6 and 7

abbrev pub balance_of : Lent → ℕ → ℕ → Balance
balance_of s floor cap = record { ranks = s.ranks; cap = cap; floor = floor }

abbrev pub moves_of : Lent → ℕ → ℕ → ℕ → List Step
moves_of s floor cap passes = (refine_by_cut (balance_of s floor cap) (rows_in s) s.weights passes s.owners).steps

abbrev pub moved_of : Lent → ℕ → ℕ → ℕ → List ℕ
moved_of s floor cap passes = foldl after s.owners (moves_of s floor cap passes)

pub record MovedHere (s : Lent) (floor cap passes : ℕ) (w w' : List ℕ) (moves number : ℕ) : Type 0 where
  pub number_is : number ≡ or_else (lent_cause s (length w)) (from_owners s.ranks (moved_of s floor cap passes))
  pub refused : (lent_cause s (length w) ≡ 0 → ⊥) → w' ≡ w
  pub moves-are : moves ≡ cond (eqb number 0) (length (moves_of s floor cap passes)) 0
  pub owners : lent_cause s (length w) ≡ 0 → owners_at w' (place_of s).level ≡ moved_of s floor cap passes

abbrev pub swaps_of : Lent → (floor cap passes list_length : ℕ) → List Step
swaps_of s floor cap passes list_length = (refine_fine_pair_swaps (balance_of s floor cap) (rows_in s) s.weights list_length passes s.owners).steps

-- 17 for a list length out of its range, before all else
abbrev pub swaps_cause : Lent → ℕ → ℕ → ℕ
swaps_cause s list_length work = cond (bad_list_length list_length) 17 (lent_cause s work)

pub record SwappedHere (s : Lent) (floor cap passes list_length : ℕ) (w w' : List ℕ) (swaps number : ℕ) : Type 0 where
  pub number_is : number ≡ swaps_cause s list_length (length w)
  pub refused : (number ≡ 0 → ⊥) → w' ≡ w
  pub swaps-are : swaps ≡ cond (eqb number 0) (length (swaps_of s floor cap passes list_length)) 0
  pub owners : number ≡ 0 → owners_at w' (place_of s).level ≡ foldl after s.owners (swaps_of s floor cap passes list_length)
