use native.Mathlib.Omega.{arith}
use Rattle.stages.proofs.SwapPassLaws.{repeat-starts, repeat-goes, repeat-stops, repeat-done, total-few}
use Rattle.stages.proofs.swaps.swap_passes.Goals as goal

pub loop-init : goal.loop-init
loop-init c = repeat-starts c.requires.0 c.args.passes c.requires.1

pub overflow_add-total : goal.overflow_add-total
overflow_add-total c =
    let n = repeat-goes c.requires.0 c.args.passes c.loop.invariant c.loop-test.true c.swap_pass-swaps.ensures c.if-swaps-eq0.false in
    omega (arith, total-few c.requires.0 c.args.passes n)

pub loop-preserved : goal.loop-preserved
loop-preserved c =
    rw c.from-total.ensures (repeat-goes c.requires.0 c.args.passes c.loop.invariant c.loop-test.true c.swap_pass-swaps.ensures c.if-swaps-eq0.false)

pub returns-after-loop : goal.returns-after-loop
returns-after-loop c = repeat-done c.requires.0 c.args.passes c.loop-test.false c.loop.invariant

pub returns-then-swaps-eq0 : goal.returns-then-swaps-eq0
returns-then-swaps-eq0 c =
    repeat-stops c.requires.0 c.args.passes c.loop.invariant c.loop-test.true c.swap_pass-swaps.ensures c.if-swaps-eq0.true
