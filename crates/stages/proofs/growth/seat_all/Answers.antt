use Rattle.stages.proofs.GrowthStartLaws.{seated-start, seat-next, seated-next}
use Rattle.stages.proofs.growth.seat_all.Goals as goal

pub loop-r-init : goal.loop-r-init
loop-r-init c = seated-start c.requires

pub seat-requires : goal.seat-requires
seat-requires c = seat-next c.requires c.loop-r.r c.loop-r-test.true c.loop-r.auto.r c.loop-r.invariant

pub loop-r-preserved : goal.loop-r-preserved
loop-r-preserved c = seated-next c.requires c.loop-r.r c.loop-r-test.true c.loop-r.auto.r c.loop-r.invariant c.seat.ensures
