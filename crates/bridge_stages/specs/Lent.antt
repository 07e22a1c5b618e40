-- A level as it is lent: its lists, weights and owners, and the number of ranks. What of it is refused, and where the rest is laid in the work
-- slice. Assumes nothing.
use Rattle.std.specs.Prelude.{ℕ, ◌+◌, ◌*◌, ◌≤◌, ◌^◌, ◌≡◌, Bool, not, ◌||◌, cond, List, length, leb, ltb, eqb}
use Rattle.links.specs.Lists.{sum}
use Rattle.links.specs.Graph.{rows_of, vertex_count, bad_lists}
use Rattle.links.specs.Owners.{stray_owner}
use Rattle.stages.specs.Level.{offsets_at, neighbors_at, weights_at, owners_at, level_at, Laid, Ready}
use Rattle.stages.specs.MovesCode.{Ranked}
use Rattle.stages.specs.declared.level.HierarchyLevel.{HierarchyLevel}
use Rattle.bridge_stages.specs.declared.lent.LentLevel.{LentLevel}
use Rattle.bridge_stages.specs.declared.lent.Place.{Place}

pub record Lent : Type 0 where
  pub offsets : List ℕ
  pub neighbors : List ℕ
  pub weights : List ℕ
  pub owners : List ℕ
  pub ranks : ℕ

abbrev pub lent : List ℕ → List ℕ → List ℕ → List ℕ → ℕ → Lent
lent offsets neighbors weights owners ranks =
    record { offsets = offsets; neighbors = neighbors; weights = weights; owners = owners; ranks = ranks }

-- what the caller's slices hold
abbrev pub slices_of : LentLevel → Lent
slices_of s = lent s.offsets.now s.neighbors.now s.weights.now s.owners.now s.ranks

abbrev pub rows_in : Lent → List (List ℕ)
rows_in s = rows_of s.offsets s.neighbors

-- ---- where it lies

-- the room of a level
abbrev pub unit_of : ℕ → ℕ → ℕ
unit_of n m = 4 * n + m + 1

-- the level, room for the next, the stages' own room, and that of the candidates' lists
abbrev pub place_for : ℕ → ℕ → ℕ → Place
place_for n m k =
    record {
      level = level_at n m 0;
      next = level_at n m (unit_of n m);
      scratch = 2 * unit_of n m;
      lists = 2 * unit_of n m + 3 * n + 6 * k;
    }

abbrev pub need_for : ℕ → ℕ → ℕ → ℕ
need_for n m k = 2 * unit_of n m + 3 * n + 6 * k + 24 * (k * k)

abbrev pub place_of : Lent → Place
place_of s = place_for (vertex_count s.offsets) (length s.neighbors) s.ranks

abbrev pub need_of : Lent → ℕ
need_of s = need_for (vertex_count s.offsets) (length s.neighbors) s.ranks

-- ---- what is refused

-- 3: document 01's limits, and weights that add up to 2^31 or more
unfoldable pub over_limits : Lent → Bool
over_limits s =
    ltb 16384 (vertex_count s.offsets) || ltb 131072 (length s.neighbors) || ltb 256 s.ranks || leb (2 ^ 31) (sum s.weights)

-- 5: not a weight and an owner for each vertex, or a work slice that is too short
unfoldable pub misfit : Lent → ℕ → Bool
misfit s work =
    not (eqb (length s.weights) (vertex_count s.offsets)) || not (eqb (length s.owners) (vertex_count s.offsets)) || ltb work (need_of s)

-- 3 before 4 before 5 before 12
unfoldable pub lent_cause : Lent → ℕ → ℕ
lent_cause s work =
    cond (over_limits s) 3 (cond (bad_lists s.offsets s.neighbors) 4 (cond (misfit s work) 5 (cond (stray_owner s.ranks s.owners) 12 0)))

-- ---- what is laid

pub record Limited (n m k : ℕ) : Type 0 where
  pub few-vertices : n ≤ 16384
  pub few-entries : m ≤ 131072
  pub few-ranks : k ≤ 256

-- what is copied fits a level's parts
pub record LevelFits (w : List ℕ) (l : HierarchyLevel) (offsets neighbors weights owners : List ℕ) : Type 0 where
  pub parts : Laid l (length w)
  pub offsets-sized : length offsets ≡ l.vertices + 1
  pub neighbors-sized : length neighbors ≡ l.entries
  pub weights-sized : length weights ≡ l.vertices
  pub owners-sized : length owners ≡ l.vertices

pub record LevelLaid (w w' : List ℕ) (l : HierarchyLevel) (offsets neighbors weights owners : List ℕ) : Type 0 where
  pub offsets-laid : offsets_at w' l ≡ offsets
  pub neighbors-laid : neighbors_at w' l ≡ neighbors
  pub weights-laid : weights_at w' l ≡ weights
  pub owners-laid : owners_at w' l ≡ owners
  pub same_length : length w' ≡ length w

-- a lent level that a stage can work on
pub record LevelIn (s : Lent) (w : List ℕ) : Type 0 where
  pub limits : Limited (vertex_count s.offsets) (length s.neighbors) s.ranks
  pub room : need_of s ≤ length w
  pub ready : Ready w (place_of s).level (place_of s).next.offsets
  pub ranked : Ranked w (place_of s).level s.ranks
  pub offsets_are : offsets_at w (place_of s).level ≡ s.offsets
  pub neighbors-are : neighbors_at w (place_of s).level ≡ s.neighbors
  pub weights-are : weights_at w (place_of s).level ≡ s.weights
  pub owners-are : owners_at w (place_of s).level ≡ s.owners

-- a refused level is not laid
pub record Entered (s : Lent) (w w' : List ℕ) (number : ℕ) : Type 0 where
  pub cause : number ≡ lent_cause s (length w)
  pub refused : (number ≡ 0 → ⊥) → w' ≡ w
  pub laid : number ≡ 0 → LevelIn s w'
