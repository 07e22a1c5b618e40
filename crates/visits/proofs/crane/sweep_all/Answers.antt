use Rattle.visits.proofs.CraneLaws.{onward-start, onward-ready, onward-step, onward-less}
use Rattle.visits.proofs.crane.sweep_all.Goals as goal

pub loop-s-init : goal.loop-s-init
loop-s-init c = onward-start c.args.w c.args.days.now c.default-s.result c.default-s.ensures

pub step-s-requires : goal.step-s-requires
step-s-requires c =
    onward-ready c.args.w c.args.days.now c.loop-s.s c.loop-s.invariant c.requires.0 c.requires.1 c.loop-s-test.true

pub loop-s-smaller : goal.loop-s-smaller
loop-s-smaller c =
    rw c.step-s.ensures (onward-less c.args.w c.args.days.now c.loop-s.s c.loop-s.invariant c.requires.0 c.loop-s-test.true)

pub loop-s-preserved : goal.loop-s-preserved
loop-s-preserved c =
    rw c.step-s.ensures (onward-step c.args.w c.args.days.now c.loop-s.s c.loop-s.invariant c.requires.0 c.loop-s-test.true)
