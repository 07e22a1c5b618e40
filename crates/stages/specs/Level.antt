-- A level in the work slice: where its parts lie, what they hold, and what a stage may take as given. Assumes nothing.
use Rattle.std.specs.Prelude.{ℕ, ◌+◌, ◌≤◌, ◌<◌, ◌^◌, List, length}
use Rattle.links.specs.Lists.{sum}
use Rattle.links.specs.Loads.{Balance}
use Rattle.links.specs.Parts.{part}
use Rattle.links.specs.Graph.{rows_of, SoundLists}
use Rattle.stages.specs.declared.level.HierarchyLevel.{HierarchyLevel}
use Rattle.stages.specs.declared.level.Limits.{Limits}

abbrev pub offsets_at : List ℕ → HierarchyLevel → List ℕ
offsets_at w l = part w l.offsets (l.offsets + (l.vertices + 1))

abbrev pub neighbors_at : List ℕ → HierarchyLevel → List ℕ
neighbors_at w l = part w l.neighbors (l.neighbors + l.entries)

abbrev pub rows_at : List ℕ → HierarchyLevel → List (List ℕ)
rows_at w l = rows_of (offsets_at w l) (neighbors_at w l)

abbrev pub weights_at : List ℕ → HierarchyLevel → List ℕ
weights_at w l = part w l.weights (l.weights + l.vertices)

abbrev pub group_at : List ℕ → HierarchyLevel → List ℕ
group_at w l = part w l.fine_to_coarse (l.fine_to_coarse + l.vertices)

abbrev pub owners_at : List ℕ → HierarchyLevel → List ℕ
owners_at w l = part w l.owners (l.owners + l.vertices)

-- a level at base: its parts one after the other
abbrev pub level_at : ℕ → ℕ → ℕ → HierarchyLevel
level_at n m base =
    record {
      vertices = n;
      entries = m;
      offsets = base;
      neighbors = base + (n + 1);
      weights = base + (n + 1) + m;
      fine_to_coarse = base + (n + 1) + m + n;
      owners = base + (n + 1) + m + n + n;
    }

-- the same level, further up
abbrev pub moved_up : HierarchyLevel → ℕ → HierarchyLevel
moved_up l unit =
    record {
      vertices = l.vertices;
      entries = l.entries;
      offsets = l.offsets + unit;
      neighbors = l.neighbors + unit;
      weights = l.weights + unit;
      fine_to_coarse = l.fine_to_coarse + unit;
      owners = l.owners + unit;
    }

-- the level at the same places with n vertices and m entries
abbrev pub resized : HierarchyLevel → ℕ → ℕ → HierarchyLevel
resized l n m =
    record {
      vertices = n;
      entries = m;
      offsets = l.offsets;
      neighbors = l.neighbors;
      weights = l.weights;
      fine_to_coarse = l.fine_to_coarse;
      owners = l.owners;
    }

-- the parts lie one after the other, and end by `end`
pub record Laid (l : HierarchyLevel) (end : ℕ) : Type 0 where
  pub offsets-in : l.offsets + (l.vertices + 1) ≤ l.neighbors
  pub neighbors-in : l.neighbors + l.entries ≤ l.weights
  pub weights-in : l.weights + l.vertices ≤ l.fine_to_coarse
  pub map-in : l.fine_to_coarse + l.vertices ≤ l.owners
  pub owners-in : l.owners + l.vertices ≤ end

-- a level that a stage can work on: its lists are sound and within the limits, and its weights add up to less than 2^31
pub record Ready (w : List ℕ) (l : HierarchyLevel) (end : ℕ) : Type 0 where
  pub laid : Laid l end
  pub inside : end ≤ length w
  pub lists : SoundLists (offsets_at w l) (neighbors_at w l)
  pub few : l.vertices ≤ 16384
  pub short : l.entries ≤ 131072
  pub light : sum (weights_at w l) < 2 ^ 31

abbrev pub balance_in : Limits → Balance
balance_in b = record { ranks = b.ranks; cap = b.cap; floor = b.floor }
