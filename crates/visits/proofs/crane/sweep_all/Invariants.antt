-- The invariant: as many steps were made as the two places add up to. Assumes nothing.
use Prim.Native.Nat.{◌+◌, ◌-◌, ◌*◌}
use lib.ListN.{length}
use Rattle.visits.proofs.CraneLaws.{Onward}
use Rattle.visits.proofs.crane.sweep_all.Given as goal

abbrev pub invariant-loop-s : goal.invariant-loop-s
invariant-loop-s l = Onward l.w l.days l.s

abbrev pub decreases-loop-s : goal.decreases-loop-s
decreases-loop-s l = 2 * length l.days - (l.s.from + l.s.to)
