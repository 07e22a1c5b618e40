-- The cut links decide, else the renumbered owners. Assumes nothing.
use Rattle.std.proofs.Common.{◌≡◌, false, rules}
use Rattle.compare.specs.declared.order.Order.TheVariants.{Same}
use Rattle.compare.specs.Order.{is_same}
use Rattle.compare.proofs.ComparisonLaws.{cut-decides, owners-decide}
use Rattle.compare.proofs.division.order_of.Goals as goal

pub returns-then-ne : goal.returns-then-ne
returns-then-ne c =
    let p = c.requires in
    let other : is_same c.lesser_first-order.result ≡ false = search rules in
    cut-decides _ _ _ _ p.0 p.1 _ _ c.cut_entries-a.ensures c.cut_entries-b.ensures _ c.lesser_first-order.ensures other

pub returns : goal.returns
returns c =
    let p = c.requires in
    let same : c.lesser_first-order.result ≡ Same = search rules in
    owners-decide _ _ _ _ p.0 p.1 _ _ c.cut_entries-a.ensures c.cut_entries-b.ensures _ c.lesser_first-order.ensures same _ c.by_owners.ensures
