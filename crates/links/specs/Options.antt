-- The options and the stats of a division, as the structs of src/options.rt have them. Assumes nothing.
use Rattle.std.specs.Prelude.{ℕ, ◌+◌, ◌*◌, max, Bool, not, ◌||◌, cond, ltb, eqb}
use Rattle.links.specs.Lists.{between}
use Rattle.links.specs.Loads.{saturating}
use Rattle.links.specs.declared.options.AbtmMultilevelOptions.{AbtmMultilevelOptions}
use Rattle.links.specs.declared.options.AbtmMultilevelStats.{AbtmMultilevelStats}

-- cause 1: "L, coarse_vertices_per_rank or passes 0, or t > 500"
unfoldable pub bad_options : AbtmMultilevelOptions → Bool
bad_options o =
    eqb o.max_levels 0 || eqb o.coarse_vertices_per_rank 0 || eqb o.refinement_passes 0 || ltb 500 o.imbalance_per_mille

-- "list length 1 to 12"
unfoldable pub bad_list_length : ℕ → Bool
bad_list_length n = not (between 1 12 n)

-- cause 17: "17 for either outside its range", "list length 1 to 12, factor 1 to 8"
unfoldable pub bad_swaps : AbtmMultilevelOptions → Bool
bad_swaps o = bad_list_length o.swap_list_length || not (between 1 8 o.swap_pass_factor)

-- 17 "after 1"
unfoldable pub options_cause : AbtmMultilevelOptions → ℕ
options_cause o = cond (bad_options o) 1 (cond (bad_swaps o) 17 0)

-- "defaults 8 and 4", which the link file keeps
abbrev pub default_list_length : ℕ
default_list_length = 8

abbrev pub default_pass_factor : ℕ
default_pass_factor = 4

-- rule 8: "max(k, k × coarse_vertices_per_rank), saturating"
unfoldable pub stop_size : AbtmMultilevelOptions → ℕ → ℕ
stop_size o k = max k (saturating (k * o.coarse_vertices_per_rank))

-- "zero stats", as every refusal returns them
unfoldable pub zero_stats : AbtmMultilevelStats
zero_stats =
    record {
      levels_built = 0;
      coarsest_vertices = 0;
      matched_pairs = 0;
      singleton_aggregates = 0;
      coarse_restarts = 0;
      refinement_moves = 0;
      final_cut_nnz = 0;
      final_communication_volume = 0;
    }

-- a kept coarsening step's counts; as in the Rust, a count that would pass 2^64 − 1 stays there
unfoldable pub added_pairs : AbtmMultilevelStats → ℕ → ℕ → AbtmMultilevelStats
added_pairs s pairs singletons =
    record {
      levels_built = saturating (s.levels_built + 1);
      coarsest_vertices = s.coarsest_vertices;
      matched_pairs = saturating (s.matched_pairs + pairs);
      singleton_aggregates = saturating (s.singleton_aggregates + singletons);
      coarse_restarts = s.coarse_restarts;
      refinement_moves = s.refinement_moves;
      final_cut_nnz = s.final_cut_nnz;
      final_communication_volume = s.final_communication_volume;
    }

-- the moves of a level, "moves include swaps"
unfoldable pub added_moves : AbtmMultilevelStats → ℕ → AbtmMultilevelStats
added_moves s moves =
    record {
      levels_built = s.levels_built;
      coarsest_vertices = s.coarsest_vertices;
      matched_pairs = s.matched_pairs;
      singleton_aggregates = s.singleton_aggregates;
      coarse_restarts = s.coarse_restarts;
      refinement_moves = saturating (s.refinement_moves + moves);
      final_cut_nnz = s.final_cut_nnz;
      final_communication_volume = s.final_communication_volume;
    }

-- the groups of the coarsest level, and growth's restarts
unfoldable pub grown_stats : AbtmMultilevelStats → ℕ → ℕ → AbtmMultilevelStats
grown_stats s coarsest restarts =
    record {
      levels_built = s.levels_built;
      coarsest_vertices = coarsest;
      matched_pairs = s.matched_pairs;
      singleton_aggregates = s.singleton_aggregates;
      coarse_restarts = restarts;
      refinement_moves = s.refinement_moves;
      final_cut_nnz = s.final_cut_nnz;
      final_communication_volume = s.final_communication_volume;
    }

-- the cut and the volume of the owners written
unfoldable pub measured_stats : AbtmMultilevelStats → ℕ → ℕ → AbtmMultilevelStats
measured_stats s cut volume =
    record {
      levels_built = s.levels_built;
      coarsest_vertices = s.coarsest_vertices;
      matched_pairs = s.matched_pairs;
      singleton_aggregates = s.singleton_aggregates;
      coarse_restarts = s.coarse_restarts;
      refinement_moves = s.refinement_moves;
      final_cut_nnz = cut;
      final_communication_volume = volume;
    }
