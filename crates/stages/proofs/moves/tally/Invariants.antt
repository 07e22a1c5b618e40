-- The invariant: the tallies are the entries before i, counted by their owners. Assumes nothing.
use Rattle.stages.proofs.TallySliceLaws.{TallyTo}
use Rattle.stages.proofs.moves.tally.Given as goal

abbrev pub invariant-loop-i : goal.invariant-loop-i
invariant-loop-i l = TallyTo l.initial.work l.work l.l l.tallies l.ranks l.v l.i
