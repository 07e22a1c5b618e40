-- Rule 8: the whole division, with its run: growth's turns, each level's start, moves and swaps, and how it ends. Assumes nothing.
use Rattle.std.specs.Prelude.{ℕ, zero, suc, ◌*◌, Bool, cond, List, [], ◌∷◌, ◌++◌, map, length, leb, ltb, eqb}
use Rattle.links.specs.Lists.{at, unassigned, any, foldl, sum}
use Rattle.links.specs.Loads.{Balance, balance, saturating}
use Rattle.links.specs.Graph.{rows_of, cut_entries, volume}
use Rattle.links.specs.Owners.{from_owners}
use Rattle.links.specs.Options.{stop_size}
use Rattle.links.specs.declared.options.AbtmMultilevelOptions.{AbtmMultilevelOptions}
use Rattle.links.specs.declared.options.AbtmMultilevelStats.{AbtmMultilevelStats}
use Rattle.stages.specs.Coarsen.{Coarse, coarsen_once}
use Rattle.stages.specs.Seeds.{farthest_seeds}
use Rattle.stages.specs.Growth.{Growth, weighted_multisource, grown, restart_count}
use Rattle.stages.specs.Moves.{Step, after, refine_by_cut}
use Rattle.stages.specs.Swaps.{refine_fine_pair_swaps}
use Rattle.stages.specs.declared.swaps.Swapping.{Swapping}
use Rattle.multilevel.specs.Causes.{Call, early_cause}

-- how a division ends: "zero stats" and the number; or the owners written, and the stats
pub data Outcome : Type 0 where
  refused : ℕ → Outcome
  divided : List ℕ → AbtmMultilevelStats → Outcome

-- a level's part of a run: its lists, each vertex's group on the next coarser level (none on the coarsest), the owners "before any move", its moves,
-- whether they ended with a pass that moved none, and its swaps
pub record Level : Type 0 where
  pub rows : List (List ℕ)
  pub weights : List ℕ
  pub group : List ℕ
  pub start : List ℕ
  pub moves : List Step
  pub settled : Bool
  pub swaps : List Step

-- all that a division does: growth, the levels from the coarsest to the finest, and how it ends
pub record Run : Type 0 where
  pub growth : Growth
  pub levels : List Level
  pub outcome : Outcome

-- a division on its way: what it has done, its refusal so far (0: none), and the owners that the last level ended with
pub record Trace : Type 0 where
  pub growth : Growth
  pub levels : List Level
  pub refusal : ℕ
  pub owners : List ℕ

abbrev pub no_growth : Growth
no_growth = record { rows = []; weights = []; seeds = []; turns = [] }

-- refused before any growth
abbrev pub stopped : ℕ → Trace
stopped number = record { growth = no_growth; levels = []; refusal = number; owners = [] }

-- ---- coarsening

-- "coarsen while levels < L and groups > max(k, k × coarse_vertices_per_rank)"; "a step that does not shrink is discarded and its counts with it".
-- The steps kept, finest first
unfoldable pub coarsenings : ℕ → ℕ → List (List ℕ) → List ℕ → List Coarse
coarsenings zero stop rows weights = []
coarsenings (suc l) stop rows weights =
    let c = coarsen_once rows weights in
    let more = c ∷ coarsenings l stop c.rows c.weights in
    let next = cond (ltb (length c.rows) (length rows)) more [] in
    cond (leb (length rows) stop) [] next

abbrev pub coarsest_rows : List (List ℕ) → List Coarse → List (List ℕ)
coarsest_rows rows [] = rows
coarsest_rows rows (c ∷ cs) = coarsest_rows c.rows cs

-- ---- growth, moves and swaps

-- "each finer level in turn takes over its groups' owners"
abbrev pub take_over : List ℕ → Trace → Trace
take_over group t = record { growth = t.growth; levels = t.levels; refusal = t.refusal; owners = map (at t.owners) group }

-- rule 7's numbers: "first 8", the list length, and "up to 4 × refinement_passes (saturating)", where the 4 is the pass factor; "both become options"
abbrev pub swapping_of : AbtmMultilevelOptions → Swapping
swapping_of o = record { list_length = o.swap_list_length; passes = saturating (o.swap_pass_factor * o.refinement_passes) }

-- no swaps, as on all levels but the finest
abbrev pub no_swapping : Swapping
no_swapping = record { list_length = 0; passes = 0 }

module _ (b : Balance) (passes : ℕ) where
  -- a level "makes its moves", "then the `from_owners` check"; then its swaps, for which the "finest level only" has passes
  unfoldable pub refine : Swapping → List (List ℕ) → List ℕ → List ℕ → Trace → Trace
  refine swapping rows weights group t =
      let m = refine_by_cut b rows weights passes t.owners in
      let moved = foldl after t.owners m.steps in
      let refusal = from_owners b.ranks moved in
      let made = (refine_fine_pair_swaps b rows weights swapping.list_length swapping.passes moved).steps in
      let swaps = cond (eqb refusal 0) made [] in
      let level : Level =
      record { rows = rows; weights = weights; group = group; start = t.owners; moves = m.steps; settled = m.settled; swaps = swaps } in
      record { growth = t.growth; levels = t.levels ++ (level ∷ []); refusal = refusal; owners = foldl after moved swaps }

  -- growth on the coarsest level. 6: "group weight above cap"; 7: "fewer groups than k"; 8: "growth round without a claim"
  unfoldable pub grow : List (List ℕ) → List ℕ → Trace
  grow rows weights =
      let g = weighted_multisource b.cap rows weights (farthest_seeds rows b.ranks) in
      let owners = grown g g.turns in
      let run : Trace = record { growth = g; levels = []; refusal = cond (any (eqb unassigned) owners) 8 0; owners = owners } in
      cond (any (ltb b.cap) weights) (stopped 6) (cond (ltb (length rows) b.ranks) (stopped 7) run)

  -- "growth and moves on the coarsest level; each finer level in turn takes over its groups' owners and makes its moves; swaps come last"
  unfoldable pub solve : Swapping → List (List ℕ) → List ℕ → List Coarse → Trace
  solve swapping rows weights [] =
      let t = grow rows weights in
      let on = refine swapping rows weights [] t in
      cond (eqb t.refusal 0) on t
  solve swapping rows weights (c ∷ cs) =
      let t = solve no_swapping c.rows c.weights cs in
      let on = refine swapping rows weights c.group (take_over c.group t) in
      cond (eqb t.refusal 0) on t

-- ---- stats

-- the moves and swaps of a level
abbrev pub steps_of : Level → List Step
steps_of l = l.moves ++ l.swaps

-- "stats as `AbtmMultilevelStats`; moves include swaps"
unfoldable pub stats_of : List (List ℕ) → ℕ → List Coarse → Trace → AbtmMultilevelStats
stats_of rows k cs t =
    record {
      levels_built = length cs;
      coarsest_vertices = length (coarsest_rows rows cs);
      matched_pairs = sum (map (λ c. c.pairs) cs);
      singleton_aggregates = sum (map (λ c. c.singletons) cs);
      coarse_restarts = restart_count t.growth.turns;
      refinement_moves = sum (map (λ l. length (steps_of l)) t.levels);
      final_cut_nnz = cut_entries rows t.owners;
      final_communication_volume = volume rows t.owners k;
    }

-- ---- the whole

-- of lists that passed the tests, with the finest weights
unfoldable pub abtm_multilevel_partition : AbtmMultilevelOptions → List (List ℕ) → List ℕ → ℕ → Run
abtm_multilevel_partition o rows weights k =
    let cs = coarsenings o.max_levels (stop_size o k) rows weights in
    let b = balance (sum weights) k o.imbalance_per_mille in
    let t = solve b o.refinement_passes (swapping_of o) rows weights cs in
    let done = divided t.owners (stats_of rows k cs t) in
    record { growth = t.growth; levels = t.levels; outcome = cond (eqb t.refusal 0) done (refused t.refusal) }

unfoldable pub division : Call → Run
division c =
    let rows = rows_of c.offsets c.neighbors in
    let run = abtm_multilevel_partition c.options rows c.workloads c.ranks in
    cond (eqb (early_cause c) 0) run (record { growth = no_growth; levels = []; outcome = refused (early_cause c) })
