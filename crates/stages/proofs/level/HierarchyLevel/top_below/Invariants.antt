-- The invariant: the top so far, and the vertices that are left, give the top. Assumes nothing.
use Prim.Native.Nat.{◌+◌, ◌-◌}
use mathlib.Core.Path.{◌≡◌}
use Rattle.links.specs.Lists.{at}
use Rattle.stages.specs.Level.{offsets_at}
use Rattle.stages.specs.CoarsenParts.{top_below}
use Rattle.stages.proofs.CoarsenOrderLaws.{raised_by}
use Rattle.stages.proofs.level.HierarchyLevel.top_below.Given as goal

abbrev pub invariant-loop-v : goal.invariant-loop-v
invariant-loop-v l =
    raised_by (λ u. at (offsets_at l.work l.self) (u + 1) - at (offsets_at l.work l.self) u) l.b l.above l.v (l.self.vertices - l.v)
    ≡ top_below (offsets_at l.work l.self) l.b
