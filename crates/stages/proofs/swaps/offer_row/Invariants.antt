-- The invariant: each other rank is still to be met among the entries from i on, or v was offered to it. Assumes nothing.
use Rattle.stages.specs.SwapsCode.{Offering, AllSorted}
use Rattle.stages.proofs.swaps.offer_row.Given as goal

abbrev pub invariant-loop-i : goal.invariant-loop-i
invariant-loop-i l = Offering l.initial.work l.work l.s l.a l.v l.i l.i-end × AllSorted l.work l.s
