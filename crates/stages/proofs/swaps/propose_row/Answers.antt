use native.Mathlib.Omega.{arith}
use Rattle.stages.specs.Slots.{proposal, slots}
use Rattle.stages.proofs.KeyLaws.{walk_end, walk-stop, walk_here, walk_turn}
use Rattle.stages.proofs.swaps.propose_row.Goals as goal

pub returns-then-y-eq0 : goal.returns-then-y-eq0
returns-then-y-eq0 c = walk-stop c.loop-y.invariant c.if-y-eq0.true

pub propose-requires : goal.propose-requires
propose-requires c = (c.requires.0, omega arith, c.requires.2, walk_here c.loop-y.invariant (omega arith) c.if-y-eq0.false)

pub loop-y-preserved : goal.loop-y-preserved
loop-y-preserved c =
    walk_turn c.loop-y.invariant (omega arith) c.if-y-eq0.false (slots proposal c.args.room c.propose.new.list) c.propose.ensures

pub returns : goal.returns
returns c = walk_end c.loop-y.invariant (omega arith)
