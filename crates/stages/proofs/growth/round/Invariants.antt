-- The loop keeps what the first ranks' turns made. Assumes nothing.
use Rattle.stages.specs.GrowthCode.{Rounded, Behind}
use Rattle.stages.proofs.growth.round.Given as goal

abbrev pub invariant-loop-r : goal.invariant-loop-r
invariant-loop-r l = Rounded l.room l.cap l.initial.work l.work l.r l.claims l.restarts × Behind l.cap l.room l.work l.cursors
