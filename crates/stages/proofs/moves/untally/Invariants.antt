-- The invariant: a rank without a neighbor from entry i on has the tally 0. Assumes nothing.
use Rattle.stages.proofs.TallySliceLaws.{ClearFrom}
use Rattle.stages.proofs.moves.untally.Given as goal

abbrev pub invariant-loop-i : goal.invariant-loop-i
invariant-loop-i l = ClearFrom l.initial.work l.work l.l l.tallies l.ranks l.v l.i
