use native.Mathlib.Omega.{arith}
use Rattle.stages.proofs.MovesPassLaws.{repeat-starts, repeat-goes, repeat-stops, repeat-done, total-few}
use Rattle.stages.proofs.moves.all_passes.Goals as goal

pub loop-init : goal.loop-init
loop-init c = repeat-starts c.args.s.limits c.requires c.args.passes

pub overflow_add-total : goal.overflow_add-total
overflow_add-total c =
    let d = repeat-goes c.args.s.limits c.requires c.args.passes c.loop.invariant c.loop-test.true c.pass-moved.ensures c.if-moved-eq0.false in
    let f = total-few c.args.s.limits c.requires c.args.passes d in
    omega arith

pub loop-preserved : goal.loop-preserved
loop-preserved c =
    repeat-goes c.args.s.limits c.requires c.args.passes c.loop.invariant c.loop-test.true c.pass-moved.ensures c.if-moved-eq0.false

pub returns-after-loop : goal.returns-after-loop
returns-after-loop c = repeat-done c.args.s.limits c.requires c.args.passes c.loop-test.false c.loop.invariant

pub returns-then-moved-eq0 : goal.returns-then-moved-eq0
returns-then-moved-eq0 c =
    repeat-stops c.args.s.limits c.requires c.args.passes c.loop.invariant c.loop-test.true c.pass-moved.ensures c.if-moved-eq0.true
