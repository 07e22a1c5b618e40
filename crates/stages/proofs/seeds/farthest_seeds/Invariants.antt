-- The loop keeps the first seeds and the distances to them. Assumes nothing.
use Prim.Native.Nat.{ℕ}
use mathlib.Core.Path.{◌≡◌}
use mathlib.Core.List.{List}
use Rattle.stages.specs.Level.{rows_at}
use Rattle.stages.specs.SeedsCode.{Seedable, SeededTo}
use Rattle.stages.proofs.SeedsLaws.{unreached}
use Rattle.stages.proofs.seeds.farthest_seeds.Given as goal

abbrev pub invariant-loop-r : goal.invariant-loop-r
invariant-loop-r l =
    (w : List ℕ) → Seedable w l.l l.scratch l.ranks → l.initial.work ≡ unreached w l.l l.scratch → SeededTo (rows_at w l.l) w l.work l.l l.scratch l.ranks l.r
