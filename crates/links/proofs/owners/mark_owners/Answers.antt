use native.Mathlib.Omega.{arith}
use Rattle.links.proofs.OwnerLaws.{marked-none, marked_more}
use Rattle.links.proofs.owners.mark_owners.Goals as goal

pub loop-owner-init : goal.loop-owner-init
loop-owner-init c = marked-none c.args.marks.now

pub loop-owner-preserved : goal.loop-owner-preserved
loop-owner-preserved c =
    let owners = c.args.owners.now in
    let i = c.loop-owner.owner-index in
    marked_more c.loop-owner.marks c.args.marks.now owners i (omega arith) (omega (arith, c.requires.1 i (omega arith))) c.loop-owner.invariant
