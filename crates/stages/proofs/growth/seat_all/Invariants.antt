-- The loop keeps the seeds of the ranks from r on seated. Assumes nothing.
use Rattle.stages.specs.GrowthCode.{Seated}
use Rattle.stages.proofs.growth.seat_all.Given as goal

abbrev pub invariant-loop-r : goal.invariant-loop-r
invariant-loop-r l = Seated l.room l.initial.work l.work l.r
