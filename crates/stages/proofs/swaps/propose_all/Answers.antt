use native.Mathlib.Omega.{arith}
use Rattle.stages.specs.Slots.{proposal, slots}
use Rattle.stages.proofs.KeyLaws.{walk_end, walk-stop, walk_here, walk_turn}
use Rattle.stages.proofs.swaps.propose_all.Goals as goal

pub returns-then-x-eq0 : goal.returns-then-x-eq0
returns-then-x-eq0 c = walk-stop c.loop-x.invariant c.if-x-eq0.true

pub propose_row-requires : goal.propose_row-requires
propose_row-requires c = (c.requires.0, omega arith, walk_here c.loop-x.invariant (omega arith) c.if-x-eq0.false, c.requires.3)

pub loop-x-preserved : goal.loop-x-preserved
loop-x-preserved c =
    walk_turn c.loop-x.invariant (omega arith) c.if-x-eq0.false (slots proposal c.args.room c.propose_row.new.list) c.propose_row.ensures

pub returns : goal.returns
returns c = walk_end c.loop-x.invariant (omega arith)
