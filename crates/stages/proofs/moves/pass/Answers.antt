use native.Mathlib.Omega.{arith}
use Rattle.stages.proofs.MovesPassLaws.{pass-starts, turn-few, turn-goes, pass-done}
use Rattle.stages.proofs.moves.pass.Goals as goal

pub loop-v-init : goal.loop-v-init
loop-v-init c = (omega arith, pass-starts c.args.s.limits c.requires)

pub overflow_add-moved : goal.overflow_add-moved
overflow_add-moved c =
    let d = turn-few c.args.s.limits c.requires c.loop-v.invariant.1 c.loop-v-test.true c.visit-moved.ensures in
    omega (arith, c.loop-v.invariant.0, c.requires.weighed.ready.few)

pub loop-v-preserved : goal.loop-v-preserved
loop-v-preserved c =
    let d = turn-few c.args.s.limits c.requires c.loop-v.invariant.1 c.loop-v-test.true c.visit-moved.ensures in
    (omega (arith, c.loop-v.invariant.0), turn-goes c.args.s.limits c.requires c.loop-v.invariant.1 c.loop-v-test.true c.visit-moved.ensures)

pub returns : goal.returns
returns c = pass-done c.args.s.limits c.requires c.loop-v-test.false c.loop-v.invariant.1
