-- Rule 8's volume, as it is counted: for each vertex the ranks to which it is a foreign neighbor. Assumes nothing.
use Rattle.std.specs.Prelude.{ℕ, ◌+◌, ◌≤◌, ◌<◌, ◌≡◌, Bool, not, ◌&&◌, cond, List, map, length, set, eqb}
use Rattle.links.specs.Lists.{at, All, filter, range, elem}
use Rattle.links.specs.Parts.{part, Kept}
use Rattle.links.specs.Graph.{row, cut_entries, volume}
use Rattle.stages.specs.Level.{rows_at, owners_at, Ready}
use Rattle.stages.specs.declared.level.HierarchyLevel.{HierarchyLevel}
use Rattle.multilevel.specs.declared.measure.Measures.{Measures}

abbrev pub Below : List ℕ → ℕ → Type 0
Below xs n = All (λ x. x < n) xs

-- ---- the volume

-- the ranks other than home among these owners, each once
unfoldable pub other_ranks : ℕ → ℕ → List ℕ → List ℕ
other_ranks ranks home owners = filter (λ r. not (eqb home r) && elem r owners) (range 0 ranks)

-- the ranks to which v is a foreign neighbor, of sound rows: those other than its own that own a neighbor of v
abbrev pub ranks_met : List (List ℕ) → List ℕ → ℕ → ℕ → List ℕ
ranks_met rows owners ranks v = other_ranks ranks (at owners v) (map (at owners) (row rows v))

-- no rank has a mark above v
abbrev pub Marked : List ℕ → ℕ → ℕ → ℕ → Type 0
Marked w seen ranks v = (r : ℕ) → r < ranks → at w (seen + r) ≤ v

-- whether a rank is not home and has no mark yet
abbrev pub unmarked : List ℕ → ℕ → ℕ → ℕ → ℕ → Bool
unmarked w rank home seen mark = not (eqb rank home) && not (eqb (at w (seen + rank)) mark)

pub record Met (w w' : List ℕ) (rank home seen mark r : ℕ) : Type 0 where
  pub marked : w' ≡ cond (unmarked w rank home seen mark) (set w (seen + rank) mark) w
  pub counted : r ≡ cond (unmarked w rank home seen mark) 1 0

-- a row of the work slice from a up to e, of vertices whose owners lie from own on, below the marks; and no mark of now among these
pub record Legible (w : List ℕ) (own seen ranks a e mark : ℕ) : Type 0 where
  pub from-to : a ≤ e
  pub under : e ≤ seen
  pub inside : seen + ranks ≤ length w
  pub owners-under : (i : ℕ) → a ≤ i → i < e → own + at w i < seen
  pub owners-ranks : (i : ℕ) → a ≤ i → i < e → at w (own + at w i) < ranks
  pub unmarked-yet : (r : ℕ) → r < ranks → at w (seen + r) < mark

-- the owners of the row's vertices
abbrev pub row_owners : List ℕ → ℕ → ℕ → ℕ → List ℕ
row_owners w own a e = map (λ u. at w (own + u)) (part w a e)

pub record RowMet (w w' : List ℕ) (own seen ranks a e home mark r : ℕ) : Type 0 where
  pub counted : r ≡ length (other_ranks ranks home (row_owners w own a e))
  pub marks : Marked w' seen ranks mark
  pub frame : Kept seen (seen + ranks) w' w

-- a level with an owner for each vertex, below the place of the marks
pub record Measurable (w : List ℕ) (l : HierarchyLevel) (seen ranks : ℕ) : Type 0 where
  pub ready : Ready w l seen
  pub owned : Below (owners_at w l) ranks
  pub few-ranks : ranks ≤ 256
  pub inside : seen + ranks ≤ length w

pub record VertexMet (w w' : List ℕ) (l : HierarchyLevel) (seen ranks v r : ℕ) : Type 0 where
  pub counted : r ≡ length (ranks_met (rows_at w l) (owners_at w l) ranks v)
  pub marks : Marked w' seen ranks (v + 1)
  pub frame : Kept seen (seen + ranks) w' w

pub record VolumeMet (w w' : List ℕ) (l : HierarchyLevel) (seen ranks r : ℕ) : Type 0 where
  pub counted : r ≡ volume (rows_at w l) (owners_at w l) ranks
  pub frame : Kept seen (seen + ranks) w' w

-- "cut = neighbour entries joining two crews; volume = for each crew its distinct foreign neighbours, summed"
pub record Measured (w w' : List ℕ) (l : HierarchyLevel) (seen ranks : ℕ) (r : Measures) : Type 0 where
  pub cut-counted : r.cut ≡ cut_entries (rows_at w l) (owners_at w l)
  pub volume-counted : r.volume ≡ volume (rows_at w l) (owners_at w l) ranks
  pub frame : Kept seen (seen + ranks) w' w
