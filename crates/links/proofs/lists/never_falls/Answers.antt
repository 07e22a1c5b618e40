use Rattle.std.proofs.Common.{◌∙◌, arith}
use Rattle.links.proofs.ListTestLaws.{falls-start, apart_next}
use Rattle.links.proofs.lists.never_falls.Goals as goal

pub loop-x-init : goal.loop-x-init
loop-x-init c = falls-start c.args.xs.now

pub loop-x-preserved : goal.loop-x-preserved
loop-x-preserved c =
    let l = c.loop-x in
    apart_next (λ x. x) (λ x. omega arith) l.least c.args.xs.now l.x-index (omega arith) (omega arith) ∙ l.invariant
