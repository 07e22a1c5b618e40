-- The loop keeps what is left of the choice over all vertices; while the best is a seed, it is vertex 0. Assumes nothing.
use Prim.Native.Nat.{◌<◌}
use mathlib.Core.Path.{◌≡◌}
use mathlib.Core.Option.{get_or}
use Rattle.links.proofs.BestLaws.{left}
use Rattle.stages.specs.Found.{found}
use Rattle.stages.specs.SeedsCode.{from, ahead, unseeded, standing, farthest, degree_at}
use Rattle.stages.proofs.seeds.next_seed.Given as goal

abbrev pub invariant-loop-i : goal.invariant-loop-i
invariant-loop-i l =
    (l.best < l.i)
    × (from l.work l.scratch l.best ≡ 0 → l.best ≡ 0)
    ×
    (get_or (left (ahead (from l.work l.scratch) (degree_at l.work l.l)) (unseeded (from l.work l.scratch)) l.l.vertices l.i (found (standing (from l.work l.scratch) l.best))) 0 ≡ farthest (from l.work l.scratch) (degree_at l.work l.l) l.l.vertices)
