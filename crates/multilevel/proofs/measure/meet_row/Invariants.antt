-- The invariant: the ranks of the entries before i are marked and counted, each once. Assumes nothing.
use Prim.Native.Nat.{◌-◌}
use Rattle.multilevel.proofs.MeasureLaws.{Meeting}
use Rattle.multilevel.proofs.measure.meet_row.Given as goal

abbrev pub invariant-loop-i : goal.invariant-loop-i
invariant-loop-i l = Meeting l.initial.work l.by.own l.by.seen l.by.ranks l.a l.e l.by.home l.by.mark l.work l.x (l.i - l.a)
