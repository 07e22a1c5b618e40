-- The loop keeps what the rounds made, and that the definition's rounds from there are the rest. Assumes nothing.
use Rattle.stages.specs.GrowthCode.{Behind}
use Rattle.stages.proofs.GrowthRoundLaws.{Underway}
use Rattle.stages.proofs.growth.grow.Given as goal

abbrev pub invariant-loop-left : goal.invariant-loop-left
invariant-loop-left l = Underway l.room l.cap l.initial.work l.work l.left l.restarts × Behind l.cap l.room l.work l.cursors

abbrev pub decreases-loop-left : goal.decreases-loop-left
decreases-loop-left l = l.left
