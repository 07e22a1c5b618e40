-- The division over numbers and slices. Assumes nothing.
use Rattle.std.specs.Prelude.{ℕ, ◌≡◌, List, [], ◌∷◌, Result}
use Rattle.links.specs.Lists.{at}
use Rattle.links.specs.declared.options.AbtmMultilevelOptions.{AbtmMultilevelOptions}
use Rattle.links.specs.declared.options.AbtmMultilevelStats.{AbtmMultilevelStats}
use Rattle.links.specs.declared.refusal.Refusal.{Refusal}
use Rattle.multilevel.specs.Causes.{Call}
use Rattle.multilevel.specs.Division.{division}
use Rattle.multilevel.specs.Contract.{outcome_number, outcome_stats, Partitioned}

-- the options as six numbers, in their order
abbrev pub options_from : List ℕ → AbtmMultilevelOptions
options_from xs =
    record {
      max_levels = at xs 0;
      coarse_vertices_per_rank = at xs 1;
      imbalance_per_mille = at xs 2;
      refinement_passes = at xs 3;
      swap_list_length = at xs 4;
      swap_pass_factor = at xs 5;
    }

-- the eight stats, in their order
abbrev pub stats_numbers : AbtmMultilevelStats → List ℕ
stats_numbers s =
    s.levels_built
    ∷ s.coarsest_vertices
    ∷ s.matched_pairs
    ∷ s.singleton_aggregates
    ∷ s.coarse_restarts
    ∷ s.refinement_moves
    ∷ s.final_cut_nnz
    ∷ s.final_communication_volume
    ∷ []

-- the answer as its number and eight numbers, all 0 on a refusal; what it writes is the division's own promise, of the answer that the
-- outcome asks for
pub record DividedAsNumbers (c : Call) (owners owners' work work' stats' : List ℕ) (r : ℕ) : Type 0 where
  pub number : r ≡ outcome_number (division c).outcome
  pub stats : stats' ≡ stats_numbers (outcome_stats (division c).outcome)
  pub lent : (answer : Result AbtmMultilevelStats Refusal) × Partitioned c owners owners' work work' answer
