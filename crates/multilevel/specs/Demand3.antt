-- Demand 3 of the mission, in the terms that document 01 gives it: "one claim about a whole division, from first seed to last swap or to refusal 8 or
-- 9, and not one for each turn, move, swap or stage". Each field stands under its sentence; what is in quotation marks is the mission's or 01's own.
-- The theorem that every division has it is proofs/Demand3Laws.antt. Assumes nothing.
use Rattle.std.specs.Prelude.{ℕ, ◌+◌, ◌*◌, ◌/◌, ◌≤◌, ◌<◌, ◌≡◌, ◌↔◌, ◌⊎◌, true, List, [], ◌∷◌, ◌++◌, map, length, replicate}
use Rattle.links.specs.Lists.{at, unassigned, foldl, range, sum, elem, All}
use Rattle.links.specs.Loads.{Balance, balance}
use Rattle.links.specs.Graph.{vertex_count, rows_of, load, owned, links_cut}
use Rattle.links.specs.Options.{stop_size}
use Rattle.links.specs.declared.options.AbtmMultilevelStats.{AbtmMultilevelStats}
use Rattle.stages.specs.Coarsen.{Coarse}
use Rattle.stages.specs.Seeds.{farthest_seeds}
use Rattle.stages.specs.Growth.{Turn, passes, Growth, weighted_multisource, grown}
use Rattle.stages.specs.Moves.{Step, move, after, gain, refine_by_cut}
use Rattle.stages.specs.Swaps.{refine_fine_pair_swaps}
use Rattle.multilevel.specs.Causes.{Call}
use Rattle.multilevel.specs.Division.{Run, Level, Outcome, refused, divided, no_growth, coarsenings, swapping_of, steps_of}

-- ---- what a call gives: the site's rows, its balance, its passes, and the coarsening steps kept

abbrev pub site_rows : Call → List (List ℕ)
site_rows c = rows_of c.offsets c.neighbors

abbrev pub balance_of : Call → Balance
balance_of c = balance (sum c.workloads) c.ranks c.options.imbalance_per_mille

abbrev pub passes_of : Call → ℕ
passes_of c = c.options.refinement_passes

abbrev pub kept_steps : Call → List Coarse
kept_steps c = coarsenings c.options.max_levels (stop_size c.options c.ranks) (site_rows c) c.workloads

-- ---- levels

-- a level's lists: rows, weights, and each vertex's group on the next coarser level
pub record Lists : Type 0 where
  pub rows : List (List ℕ)
  pub weights : List ℕ
  pub group : List ℕ

abbrev pub lists_of : Level → Lists
lists_of l = record { rows = l.rows; weights = l.weights; group = l.group }

-- "a level is the site's own lists or those of a coarsening step that was kept": from the coarsest on
abbrev pub ladder : List (List ℕ) → List ℕ → List Coarse → List Lists
ladder rows weights [] = record { rows = rows; weights = weights; group = [] } ∷ []
ladder rows weights (c ∷ cs) = ladder c.rows c.weights cs ++ record { rows = rows; weights = weights; group = c.group } ∷ []

-- the owners after a level's moves, and at its end
abbrev pub moved : Level → List ℕ
moved l = foldl after l.start l.moves

abbrev pub ended : Level → List ℕ
ended l = foldl after l.start (steps_of l)

-- the gains of steps made one after the other, each "from the owners just before"
unfoldable pub gains : List (List ℕ) → List ℕ → List Step → ℕ
gains rows owners [] = 0
gains rows owners (s ∷ ss) = gain rows owners s + gains rows (after owners s) ss

-- ---- "the turns, moves and swaps are those that rules 3 to 8 give on the lent lists, options and crew count"

-- the turns: rule 5's growth on the coarsest level, from rule 4's seeds
abbrev pub growth_on : Balance → List (List ℕ) → List ℕ → List Coarse → Growth
growth_on b rows weights [] = weighted_multisource b.cap rows weights (farthest_seeds rows b.ranks)
growth_on b rows weights (c ∷ cs) = growth_on b c.rows c.weights cs

-- the swaps of a level that these finer ones follow: rule 7's, from the owners after the moves, on the finest level of an accepted division; none
-- on a level that another follows, and none in a division that is refused
abbrev pub swaps_due : Call → Outcome → List Level → Level → List Step
swaps_due c (divided owners s) [] l =
    let q = swapping_of c.options in
    (refine_fine_pair_swaps (balance_of c) l.rows l.weights q.list_length q.passes (moved l)).steps
swaps_due c (divided owners s) (m ∷ finer) l = []
swaps_due c (refused number) finer l = []

-- ---- a turn, and a level

-- "At every turn in growth, a crew passes exactly when no unowned group fits under its cap": a turn that meets these owners.
pub record FairTurn (cap : ℕ) (g : Growth) (owners : List ℕ) (t : Turn) : Type 0 where
  pub passing
      : (t.choice ≡ passes)
      ↔ ((v : ℕ) → v < length g.rows → at owners v ≡ unassigned → ¬ (load g.weights owners t.rank + at g.weights v ≤ cap))

pub record FairLevel (b : Balance) (refinement_passes : ℕ) (l : Level) : Type 0 where
  -- The moves are rule 6's, from the level's start; and it is rule 6 that says whether they "end with a pass that moved none".
  pub moves-are : l.moves ≡ (refine_by_cut b l.rows l.weights refinement_passes l.start).steps
  pub settled_is : l.settled ≡ (refine_by_cut b l.rows l.weights refinement_passes l.start).settled
  -- "On every level, after each of its moves and swaps in the order made, cut links at the level's start = cut links now + gains so far,"
  pub account
      : (done left : List Step)
      → steps_of l ≡ done ++ left
      → links_cut l.rows l.start ≡ links_cut l.rows (foldl after l.start done) + gains l.rows l.start done
  -- "each gain at least 1,"
  pub gainful : (done left : List Step) (s : Step) → steps_of l ≡ done ++ s ∷ left → 1 ≤ gain l.rows (foldl after l.start done) s
  -- "so a level makes no more moves and swaps together than it had cut links at its start".
  pub bounded : length (steps_of l) ≤ links_cut l.rows l.start
  -- "And when a level's moves end with a pass that moved none, every single move then permitted would leave its cut links at least as many." A single
  -- move "is permitted if the load it leaves, less its weight, is at least the floor, and the load it joins, plus its weight, is within the cap";
  -- "on the finest level the last sentence speaks of the owners after the moves and before the swaps".
  pub settling
      : l.settled ≡ true
      → (v r : ℕ)
      → v < length l.rows
      → r < b.ranks
      → b.floor + at l.weights v ≤ load l.weights (moved l) (at (moved l) v)
      → load l.weights (moved l) r + at l.weights v ≤ b.cap
      → links_cut l.rows (moved l) ≤ links_cut l.rows (after (moved l) (move v r))

-- ---- how a division ends

-- "If the division is accepted":
pub record FairShares (c : Call) (levels : List Level) (owners : List ℕ) (s : AbtmMultilevelStats) : Type 0 where
  -- There is "an owner for each turbine", and it is a crew.
  pub size : length owners ≡ vertex_count c.offsets
  pub ranked : All (λ r. r < c.ranks) owners
  -- "A crew's bound is then on its summed workload, and it still owns at least one turbine"; "the total in cap and floor is the sum of workloads".
  pub least : (r : ℕ) → r < c.ranks → 1 ≤ owned owners r
  pub most
      : (r : ℕ)
      → r < c.ranks
      → load c.workloads owners r ≤ sum c.workloads * (1000 + c.options.imbalance_per_mille) / (1000 * c.ranks)
  -- Where all workloads are 1, "each of k crews owns from 1 to floor(n × (1000 + t) / (1000 × k)) of the n turbines, t being the imbalance per mille".
  pub ones
      : c.workloads ≡ replicate (vertex_count c.offsets) 1
      → (r : ℕ)
      → r < c.ranks
      → owned owners r ≤ vertex_count c.offsets * (1000 + c.options.imbalance_per_mille) / (1000 * c.ranks)
  -- All levels were made, and "the owners written are those at the end of the finest level", the last, on the site's own lists.
  pub whole : map lists_of levels ≡ ladder (site_rows c) c.workloads (kept_steps c)
  pub finest : (coarser : List Level) × (l : Level) × (levels ≡ coarser ++ l ∷ []) × (l.rows ≡ site_rows c) × (owners ≡ ended l)
  -- "the moves that an accepted division reports are those of all levels, swaps included".
  pub moves : s.refinement_moves ≡ sum (map (λ l. length (steps_of l)) levels)

-- the refusals that come before growth, in the order of their tests; one that is added later and comes before growth stands here too
abbrev pub early_numbers : List ℕ
early_numbers = 1 ∷ 17 ∷ 2 ∷ 3 ∷ 4 ∷ 13 ∷ 5 ∷ 6 ∷ 7 ∷ []

abbrev pub Early : ℕ → Type 0
Early number = elem number early_numbers ≡ true

-- "a crew empty after moves": those of the last level made, which need not be the finest
abbrev pub Emptied : ℕ → List Level → Type 0
Emptied k levels = (coarser : List Level) × (l : Level) × (r : ℕ) × (levels ≡ coarser ++ l ∷ []) × (r < k) × (owned (moved l) r ≡ 0)

-- a division that comes to growth
pub record WithGrowth (c : Call) (run : Run) : Type 0 where
  pub growth : run.growth ≡ growth_on (balance_of c) (site_rows c) c.workloads (kept_steps c)
  -- It goes on "to last swap or to refusal 8 or 9": it is accepted; or refused by 8, and then no level was made; or by 9.
  pub refusal
      : (number : ℕ)
      → run.outcome ≡ refused number
      → ((number ≡ 8) × (run.levels ≡ [])) ⊎ ((number ≡ 9) × Emptied c.ranks run.levels)

-- a division that does not: its number is an early one
pub record WithoutGrowth (run : Run) : Type 0 where
  pub number : ℕ
  pub early : Early number
  pub refusal : run.outcome ≡ refused number
  pub growth : run.growth ≡ no_growth
  pub levels : run.levels ≡ []

-- ---- the whole

pub record Demand3 (c : Call) (run : Run) : Type 0 where
  pub shares : (owners : List ℕ) (s : AbtmMultilevelStats) → run.outcome ≡ divided owners s → FairShares c run.levels owners s
  pub growth : WithGrowth c run ⊎ WithoutGrowth run
  -- Every turn of growth is fair; it "meets the owners that the turn before left".
  pub turns
      : (before later : List Turn) (t : Turn)
      → run.growth.turns ≡ before ++ t ∷ later
      → FairTurn (balance_of c).cap run.growth (grown run.growth before) t
  -- "Refusal 8 comes only after a round in which every crew passed."
  pub last_round
      : run.outcome ≡ refused 8
      → (before : List Turn) × (run.growth.turns ≡ before ++ map (λ r. record { rank = r; choice = passes }) (range 0 c.ranks))
  -- The levels are the site's own lists and those of the kept steps, in order, from the coarsest on, as far as the division came.
  pub ladders : (rest : List Lists) × (map lists_of run.levels ++ rest ≡ ladder (site_rows c) c.workloads (kept_steps c))
  -- Each level is fair, with rule 6's moves; and the swaps are rule 7's, on the "finest level only".
  pub levels : (coarser finer : List Level) (l : Level) → run.levels ≡ coarser ++ l ∷ finer → FairLevel (balance_of c) (passes_of c) l
  pub swaps
      : (coarser finer : List Level) (l : Level)
      → run.levels ≡ coarser ++ l ∷ finer
      → l.swaps ≡ swaps_due c run.outcome finer l
  -- "The coarsest level starts from growth's owners, a finer one from the owners its groups ended with".
  pub coarsest : (l : Level) (finer : List Level) → run.levels ≡ l ∷ finer → l.start ≡ grown run.growth run.growth.turns
  pub takeover : (coarser finer : List Level) (l m : Level) → run.levels ≡ coarser ++ l ∷ m ∷ finer → m.start ≡ map (at (ended l)) m.group
