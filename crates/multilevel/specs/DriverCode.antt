-- The division in the work slice: what the driver's functions take as given, and what they leave. Assumes nothing.
use Rattle.std.specs.Prelude.{ℕ, ◌+◌, ◌*◌, ◌≤◌, ◌≡◌, List, [], length, Result}
use Rattle.links.specs.Lists.{foldl, sum}
use Rattle.links.specs.Parts.{Kept}
use Rattle.links.specs.Loads.{load_cap, minimum_load}
use Rattle.links.specs.Graph.{vertex_count, cut_entries, volume}
use Rattle.links.specs.Owners.{from_owners}
use Rattle.links.specs.declared.refusal.Refusal.{Refusal}
use Rattle.links.specs.Options.{stop_size, added_moves, measured_stats}
use Rattle.links.specs.declared.options.AbtmMultilevelOptions.{AbtmMultilevelOptions}
use Rattle.links.specs.declared.options.AbtmMultilevelStats.{AbtmMultilevelStats}
use Rattle.stages.specs.Level.{rows_at, weights_at, owners_at, Ready, balance_in, level_at}
use Rattle.stages.specs.Moves.{after}
use Rattle.stages.specs.MovesCode.{Ranked}
use Rattle.stages.specs.SwapsCode.{swaps_at}
use Rattle.stages.specs.declared.level.HierarchyLevel.{HierarchyLevel}
use Rattle.multilevel.specs.declared.driver.Rules.{Rules}
use Rattle.multilevel.specs.Causes.{Call, need_of, early_cause}
use Rattle.multilevel.specs.Division.{coarsenings, swapping_of, division}
use Rattle.multilevel.specs.Room.{unit_of}
use Rattle.multilevel.specs.Contract.{Answers, owners_after}
use Rattle.multilevel.specs.Driver.{moves_from, moved_from, AnswerFor, Told}

-- a level lies in its room, and `left` more may lie above it, below the stages' own room
pub record Placed (w : List ℕ) (l : HierarchyLevel) (q : Rules) (left : ℕ) : Type 0 where
  pub ready : Ready w l (l.offsets + q.unit)
  pub above : l.offsets + (left + 1) * q.unit ≤ q.scratch
  pub room : q.scratch + (4 * l.vertices + 8 * q.limits.ranks) ≤ length w
  pub some-ranks : 1 ≤ q.limits.ranks
  pub few-ranks : q.limits.ranks ≤ 256

-- a level that has owners
pub record Refining (w : List ℕ) (l : HierarchyLevel) (q : Rules) : Type 0 where
  pub placed : Placed w l q 0
  pub ranked : Ranked w l q.limits.ranks

-- its moves are made
pub record LevelRefined (w w' : List ℕ) (l : HierarchyLevel) (q : Rules) (s : AbtmMultilevelStats) (a : Result AbtmMultilevelStats Refusal) : Type 0 where
  pub owners-are : owners_at w' l ≡ moved_from (balance_in q.limits) q.passes (rows_at w l) (weights_at w l) (owners_at w l)
  pub answer-is
      : AnswerFor (from_owners q.limits.ranks (moved_from (balance_in q.limits) q.passes (rows_at w l) (weights_at w l) (owners_at w l)))
      (added_moves s (length (moves_from (balance_in q.limits) q.passes (rows_at w l) (weights_at w l) (owners_at w l))))
      a
  pub few : length (moves_from (balance_in q.limits) q.passes (rows_at w l) (weights_at w l) (owners_at w l)) ≤ 131072
  pub kept : Kept l.owners (length w) w' w

-- growth and moves on the coarsest level
pub record LevelGrown (w w' : List ℕ) (l : HierarchyLevel) (q : Rules) (a : Result AbtmMultilevelStats Refusal) : Type 0 where
  pub told : (left : ℕ) → Told (balance_in q.limits) q.passes (rows_at w l) (weights_at w l) [] left (owners_at w' l) a
  pub kept : Kept l.owners (length w) w' w

-- a level and those coarser than it, of which `left` may be made
pub record LevelSolved (w w' : List ℕ) (l : HierarchyLevel) (q : Rules) (left : ℕ) (a : Result AbtmMultilevelStats Refusal) : Type 0 where
  pub told
      : Told (balance_in q.limits) q.passes (rows_at w l) (weights_at w l) (coarsenings left q.stop (rows_at w l) (weights_at w l)) left (owners_at w' l) a
  pub kept : Kept l.fine_to_coarse (length w) w' w

-- ---- the whole division

-- what a division of n vertices and m entries, of this total load, goes by
abbrev pub rules_with : ℕ → ℕ → ℕ → ℕ → AbtmMultilevelOptions → Rules
rules_with n m total k options =
    record {
      limits = record { ranks = k; floor = minimum_load total k options.imbalance_per_mille; cap = load_cap total k options.imbalance_per_mille };
      passes = options.refinement_passes;
      swapping = swapping_of options;
      stop = stop_size options k;
      unit = unit_of n m;
      scratch = (options.max_levels + 1) * unit_of n m;
    }

abbrev pub rules_for : Call → Rules
rules_for c = rules_with (vertex_count c.offsets) (length c.neighbors) (sum c.workloads) c.ranks c.options

-- where its finest level lies
abbrev pub site_level : Call → HierarchyLevel
site_level c = level_at (vertex_count c.offsets) (length c.neighbors) 0

-- a call that passed the early tests, on a work slice of the length that it needs
pub record Divisible (c : Call) (w : List ℕ) : Type 0 where
  pub passed : early_cause c ≡ 0
  pub exact : length w ≡ need_of c

-- the answer and the owners that the division asks for
pub record SiteDivided (c : Call) (owners owners' : List ℕ) (a : Result AbtmMultilevelStats Refusal) : Type 0 where
  pub answer-is : Answers (division c).outcome a
  pub owners-are : owners' ≡ owners_after (division c).outcome owners

-- ---- the finest level's end

-- a level with owners, the stages' own room, and the lists of candidates beyond it
pub record Finishing (w : List ℕ) (l : HierarchyLevel) (q : Rules) (lists : ℕ) : Type 0 where
  pub ready : Ready w l q.scratch
  pub room : q.scratch + l.vertices + 2 * q.limits.ranks ≤ lists
  pub lists-in : lists + 24 * (q.limits.ranks * q.limits.ranks) ≤ length w
  pub some-listed : 1 ≤ q.swapping.list_length
  pub few-listed : q.swapping.list_length ≤ 12
  pub few-ranks : q.limits.ranks ≤ 256
  pub ranked : Ranked w l q.limits.ranks

-- its swaps are made, and it is measured
pub record LevelFinished (w w' : List ℕ) (l : HierarchyLevel) (q : Rules) (s r : AbtmMultilevelStats) : Type 0 where
  pub owners-are : owners_at w' l ≡ foldl after (owners_at w l) (swaps_at w l q.limits q.swapping)
  pub few : length (swaps_at w l q.limits q.swapping) ≤ 131072
  pub stats-are
      : r
      ≡ measured_stats (added_moves s (length (swaps_at w l q.limits q.swapping)))
      (cut_entries (rows_at w l) (owners_at w' l))
      (volume (rows_at w l) (owners_at w' l) q.limits.ranks)
  pub same_length : length w' ≡ length w
