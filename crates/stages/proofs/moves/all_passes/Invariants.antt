-- The invariant: what is left of the passes leads to the same end. The moves are at most the neighbor entries, so the count fits. Assumes nothing.
use Rattle.stages.proofs.MovesPassLaws.{Repeating}
use Rattle.stages.proofs.moves.all_passes.Given as goal

abbrev pub invariant-loop : goal.invariant-loop
invariant-loop l = Repeating l.initial.work l.work l.s.level l.s.scratch l.s.limits l.passes l.total l.counter
