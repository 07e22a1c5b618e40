-- Where a division's levels lie in the work slice, and what is written there between the stages. Assumes nothing.
use Rattle.std.specs.Prelude.{ℕ, ◌+◌, ◌*◌, ◌≤◌, ◌<◌, ◌≡◌, List, map, length}
use Rattle.links.specs.Lists.{at, All}
use Rattle.links.specs.Parts.{Kept}
use Rattle.stages.specs.Level.{offsets_at, neighbors_at, weights_at, group_at, owners_at, Laid}
use Rattle.stages.specs.declared.level.HierarchyLevel.{HierarchyLevel}

-- the room of one level, of which "work needs (L + 6)": a site of n vertices and m entries, and every level coarser, lies in it
abbrev pub unit_of : ℕ → ℕ → ℕ
unit_of n m = 4 * n + 2 * m + 2

-- ---- the site's own lists

-- they fit the level that they are laid into
pub record SiteFits (w : List ℕ) (l : HierarchyLevel) (offsets neighbors workloads : List ℕ) : Type 0 where
  pub laid : Laid l (length w)
  pub offsets-sized : length offsets ≡ l.vertices + 1
  pub neighbors-sized : length neighbors ≡ l.entries
  pub workloads-sized : length workloads ≡ l.vertices

-- "on the site's own lists each turbine is a group by itself": its weight is its workload
pub record SiteLaid (w w' : List ℕ) (l : HierarchyLevel) (offsets neighbors workloads : List ℕ) : Type 0 where
  pub offsets-laid : offsets_at w' l ≡ offsets
  pub neighbors-laid : neighbors_at w' l ≡ neighbors
  pub weights-laid : weights_at w' l ≡ workloads
  pub frame : Kept l.offsets (l.weights + l.vertices) w' w

-- ---- "each finer level in turn takes over its groups' owners"

-- the coarser level's owners lie above the finer one's, and each group is a vertex of the coarser level
pub record Stacked (w : List ℕ) (l coarse : HierarchyLevel) : Type 0 where
  pub map-in : l.fine_to_coarse + l.vertices ≤ l.owners
  pub above : l.owners + l.vertices ≤ coarse.owners
  pub inside : coarse.owners + coarse.vertices ≤ length w
  pub groups : All (λ g. g < coarse.vertices) (group_at w l)

pub record TakenOver (w w' : List ℕ) (l coarse : HierarchyLevel) : Type 0 where
  pub owners : owners_at w' l ≡ map (at (owners_at w coarse)) (group_at w l)
  pub frame : Kept l.owners (l.owners + l.vertices) w' w
