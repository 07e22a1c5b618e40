-- A coarsening step in the work slice: what it is given, and what it leaves. Assumes nothing.
use Rattle.std.specs.Prelude.{ℕ, ◌+◌, ◌*◌, ◌≤◌, ◌<◌, ◌≡◌, cond, List, [], ◌∷◌, map, length, ltb, Option, Some, None}
use Rattle.links.specs.Lists.{at, sum}
use Rattle.links.specs.Parts.{Kept}
use Rattle.stages.specs.Coarsen.{Coarse, coarsen_once}
use Rattle.stages.specs.Level.{rows_at, weights_at, group_at, Laid, Ready, resized}
use Rattle.stages.specs.declared.level.HierarchyLevel.{HierarchyLevel}
use Rattle.stages.specs.declared.coarsen.Smaller.{Smaller}

-- a level, room for one as large after it, and three numbers a vertex from scratch on
pub record Coarsenable (w : List ℕ) (l next : HierarchyLevel) (scratch : ℕ) : Type 0 where
  pub ready : Ready w l next.offsets
  pub laid : Laid next scratch
  pub vertices : l.vertices ≤ next.vertices
  pub entries : l.entries ≤ next.entries
  pub inside : scratch + 3 * l.vertices ≤ length w

-- the step that rule 3 defines for the level
abbrev pub step_of : List ℕ → HierarchyLevel → Coarse
step_of w l = coarsen_once (rows_at w l) (weights_at w l)

-- how many entries a step's lists have
abbrev pub entries_of : Coarse → ℕ
entries_of c = sum (map length c.rows)

-- the level that a step makes
abbrev pub next_of : HierarchyLevel → Coarse → HierarchyLevel
next_of next c = resized next (length c.weights) (entries_of c)

-- the answer for a step from n vertices: none where it has no fewer groups
abbrev pub answer_of : Coarse → ℕ → Option Smaller
answer_of c n =
    let groups = length c.weights in
    let smaller : Smaller = record { groups = groups; entries = entries_of c; pairs = c.pairs; singletons = c.singletons } in
    cond (ltb groups n) (Some smaller) None

-- the answer's number, always 0, for no step is refused: "A step that does not shrink is discarded"
abbrev pub coarsened_number : Option Smaller → ℕ
coarsened_number None = 0
coarsened_number (Some s) = 0

-- its values: groups, entries, pairs and singletons, all 0 for a step that is discarded
abbrev pub coarsened_values : Option Smaller → List ℕ
coarsened_values None = 0 ∷ 0 ∷ 0 ∷ 0 ∷ []
coarsened_values (Some s) = s.groups ∷ s.entries ∷ s.pairs ∷ s.singletons ∷ []

-- those of a step
abbrev pub values_of : Coarse → List ℕ
values_of c = length c.weights ∷ entries_of c ∷ c.pairs ∷ c.singletons ∷ []

pub record CoarsenedOnce (w w' : List ℕ) (l next : HierarchyLevel) (scratch : ℕ) (a : Option Smaller) : Type 0 where
  pub answer : a ≡ answer_of (step_of w l) l.vertices
  pub number : coarsened_number a ≡ 0
  pub values : coarsened_values a ≡ cond (ltb (length (step_of w l).weights) l.vertices) (values_of (step_of w l)) (0 ∷ 0 ∷ 0 ∷ 0 ∷ [])
  pub group : group_at w' l ≡ (step_of w l).group
  pub rows : rows_at w' (next_of next (step_of w l)) ≡ (step_of w l).rows
  pub weights : weights_at w' (next_of next (step_of w l)) ≡ (step_of w l).weights
  pub ready : Ready w' (next_of next (step_of w l)) scratch
  pub grouped : (v : ℕ) → v < l.vertices → at (group_at w' l) v < length (step_of w l).weights
  pub fewer : length (step_of w l).weights ≤ l.vertices
  pub shorter : entries_of (step_of w l) ≤ l.entries
  pub total : sum (step_of w l).weights ≡ sum (weights_at w l)
  pub kept : Kept l.fine_to_coarse (scratch + 3 * l.vertices) w' w
