use Rattle.std.proofs.Common.{◌<◌, refl, arith}
use Rattle.links.proofs.RowLaws.{all-place}
use Rattle.compare.proofs.NumberLaws.{numbering-none, numbering-few, numbering-more}
use Rattle.compare.proofs.numbers.numbers_of.Goals as goal

pub loop-owner-init : goal.loop-owner-init
loop-owner-init c = numbering-none c.args.owners.now

pub meet-count-requires : goal.meet-count-requires
meet-count-requires c =
    let low = all-place (λ o. o < 256) c.args.owners.now c.loop-owner.owner-index c.requires.0 c.loop-owner-test.true in
    (omega arith, omega (arith, numbering-few _ _ _ _ c.loop-owner.invariant, c.requires.1))

pub loop-owner-preserved : goal.loop-owner-preserved
loop-owner-preserved c =
    let low = all-place (λ o. o < 256) c.args.owners.now c.loop-owner.owner-index c.requires.0 c.loop-owner-test.true in
    numbering-more _ _ _ _ c.loop-owner.invariant c.loop-owner-test.true low c.requires.1 _ _ _ refl c.meet-count.ensures.numbers c.meet-count.ensures.count
