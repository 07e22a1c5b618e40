-- The invariant: what is left of the pass leads to the same end. Assumes nothing.
use Prim.Native.Nat.{◌≤◌}
use Rattle.stages.proofs.MovesPassLaws.{Passing}
use Rattle.stages.proofs.moves.pass.Given as goal

abbrev pub invariant-loop-v : goal.invariant-loop-v
invariant-loop-v l = (l.moved ≤ l.v) × Passing l.initial.work l.work l.s.level l.s.scratch l.s.limits l.moved l.v
