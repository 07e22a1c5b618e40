-- The invariant: with what is left from v on, the numbers are the loads. Assumes nothing.
use Rattle.stages.proofs.LoadSliceLaws.{WeighTo}
use Rattle.stages.proofs.moves.weigh.Given as goal

abbrev pub invariant-loop-v : goal.invariant-loop-v
invariant-loop-v l = WeighTo l.initial.work l.work l.l l.loads l.ranks l.v
