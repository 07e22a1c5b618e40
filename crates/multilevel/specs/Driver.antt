-- The division as the driver meets it, level by level. Assumes nothing.
use Rattle.std.specs.Prelude.{ℕ, ◌+◌, ◌*◌, ◌≤◌, ◌≡◌, List, map, length, Result, Ok}
use Rattle.links.specs.Lists.{foldl, sum}
use Rattle.links.specs.Loads.{Balance}
use Rattle.links.specs.Refusals.{number_of}
use Rattle.links.specs.declared.refusal.Refusal.{Refusal}
use Rattle.links.specs.declared.options.AbtmMultilevelStats.{AbtmMultilevelStats}
use Rattle.stages.specs.Coarsen.{Coarse}
use Rattle.stages.specs.Growth.{restart_count}
use Rattle.stages.specs.Moves.{Step, after, refine_by_cut}
use Rattle.stages.specs.Swaps.{refine_fine_pair_swaps}
use Rattle.stages.specs.declared.swaps.Swapping.{Swapping}
use Rattle.multilevel.specs.Division.{Level, Trace, solve, steps_of, coarsest_rows, no_swapping}

-- a level and those coarser than it, before any swap
unfoldable pub solved : Balance → ℕ → List (List ℕ) → List ℕ → List Coarse → Trace
solved b passes rows weights cs = solve b passes no_swapping rows weights cs

-- the moves of a level from these owners, and the owners that they leave
unfoldable pub moves_from : Balance → ℕ → List (List ℕ) → List ℕ → List ℕ → List Step
moves_from b passes rows weights owners = (refine_by_cut b rows weights passes owners).steps

unfoldable pub moved_from : Balance → ℕ → List (List ℕ) → List ℕ → List ℕ → List ℕ
moved_from b passes rows weights owners = foldl after owners (moves_from b passes rows weights owners)

-- the swaps of the finest level, on the owners that its moves left
unfoldable pub finest_swaps : Balance → Swapping → List (List ℕ) → List ℕ → Trace → List Step
finest_swaps b swapping rows weights t = (refine_fine_pair_swaps b rows weights swapping.list_length swapping.passes t.owners).steps

unfoldable pub step_count : List Level → ℕ
step_count levels = sum (map (λ l. length (steps_of l)) levels)

-- the stats so far: all but cut and volume, which are 0
unfoldable pub stats_so_far : List (List ℕ) → List Coarse → Trace → AbtmMultilevelStats
stats_so_far rows cs t =
    record {
      levels_built = length cs;
      coarsest_vertices = length (coarsest_rows rows cs);
      matched_pairs = sum (map (λ c. c.pairs) cs);
      singleton_aggregates = sum (map (λ c. c.singletons) cs);
      coarse_restarts = restart_count t.growth.turns;
      refinement_moves = step_count t.levels;
      final_cut_nnz = 0;
      final_communication_volume = 0;
    }

-- ---- what a level tells

-- the answer of a level: its stats so far, or the refusal with its number
pub record AnswerFor (refusal : ℕ) (s : AbtmMultilevelStats) (a : Result AbtmMultilevelStats Refusal) : Type 0 where
  pub number : number_of a ≡ refusal
  pub stats : refusal ≡ 0 → a ≡ Ok s

-- the counts of a level and those coarser than it, of which `left` may be made: none comes near 2^64
pub record Small (left : ℕ) (cs : List Coarse) (t : Trace) : Type 0 where
  pub levels : length cs ≤ left
  pub pairs : sum (map (λ c. c.pairs) cs) ≤ left * 16384
  pub singletons : sum (map (λ c. c.singletons) cs) ≤ left * 16384
  pub steps : step_count t.levels ≤ (left + 1) * 131072

-- a level with these lists, once its moves are made: its answer, its owners, and its counts
pub record Told (b : Balance) (passes : ℕ) (rows : List (List ℕ)) (weights : List ℕ) (cs : List Coarse) (left : ℕ) (owners : List ℕ) (a : Result AbtmMultilevelStats Refusal) : Type 0 where
  pub answer-is : AnswerFor (solved b passes rows weights cs).refusal (stats_so_far rows cs (solved b passes rows weights cs)) a
  pub owners-are : (solved b passes rows weights cs).refusal ≡ 0 → owners ≡ (solved b passes rows weights cs).owners
  pub small : (solved b passes rows weights cs).refusal ≡ 0 → Small left cs (solved b passes rows weights cs)
