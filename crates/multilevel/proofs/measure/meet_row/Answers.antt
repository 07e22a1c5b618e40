use Rattle.std.proofs.Common.{arith}
use Rattle.multilevel.proofs.MeasureLaws.{meeting-few, met-once, meeting-none, meeting-more}
use Rattle.multilevel.proofs.measure.meet_row.Goals as goal

pub loop-i-init : goal.loop-i-init
loop-i-init c = meeting-none _ _ _ _ _ _ _ _ c.requires

pub overflow_add-x : goal.overflow_add-x
overflow_add-x c =
    omega (arith, meeting-few _ _ _ _ _ _ _ _ _ _ _ c.loop-i.invariant, met-once _ _ _ _ _ _ _ c.meet-x.ensures, c.requires.inside, c.well_formed)

pub loop-i-preserved : goal.loop-i-preserved
loop-i-preserved c =
    let l = c.loop-i in
    meeting-more _ _ _ _ _ _ _ _ c.requires l.work l.x l.i l.invariant (omega arith) (omega arith) c.meet-x.new.work c.meet-x.result c.meet-x.ensures
