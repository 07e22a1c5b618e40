use native.Mathlib.Omega.{arith}
use Rattle.multilevel.proofs.MeasureLaws.{measurable-kept, summing-none, summing-more, summing-done}
use Rattle.multilevel.proofs.measure.volume_in.Goals as goal

pub loop-v-init : goal.loop-v-init
loop-v-init c = summing-none _ _ _ _ c.requires.0 c.requires.1

pub meet_vertex-x-requires : goal.meet_vertex-x-requires
meet_vertex-x-requires c =
    (measurable-kept _ _ _ _ _ c.loop-v.invariant.frame c.requires.0, omega arith, c.loop-v.invariant.marks)

pub overflow_add-x : goal.overflow_add-x
overflow_add-x c =
    let t = summing-more _ _ _ _ c.requires.0 c.loop-v.work c.loop-v.x c.loop-v.v c.loop-v.invariant (omega arith) c.meet_vertex-x.new.work c.meet_vertex-x.result c.meet_vertex-x.ensures in
    omega (arith, t.small, c.requires.0.ready.few)

pub loop-v-preserved : goal.loop-v-preserved
loop-v-preserved c =
    summing-more _ _ _ _ c.requires.0 c.loop-v.work c.loop-v.x c.loop-v.v c.loop-v.invariant (omega arith) c.meet_vertex-x.new.work c.meet_vertex-x.result c.meet_vertex-x.ensures

pub returns : goal.returns
returns c = summing-done _ _ _ _ c.requires.0 c.loop-v.work c.loop-v.x c.loop-v.v c.loop-v.invariant (omega arith)
