-- The invariant: what is done and what is left of the passes make up all swaps. Assumes nothing.
use Rattle.stages.proofs.SwapPassLaws.{Repeating}
use Rattle.stages.proofs.swaps.swap_passes.Given as goal

abbrev pub invariant-loop : goal.invariant-loop
invariant-loop l = Repeating l.initial.work l.work l.s l.passes l.total l.counter
