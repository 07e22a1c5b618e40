-- The invariant: with the vertices from v on, the count is the volume. Assumes nothing.
use Rattle.multilevel.proofs.MeasureLaws.{Summing}
use Rattle.multilevel.proofs.measure.volume_in.Given as goal

abbrev pub invariant-loop-v : goal.invariant-loop-v
invariant-loop-v l = Summing l.initial.work l.l l.seen l.ranks l.work l.x l.v
