-- The cause, or the order and its renaming; and the theorem on the order. Assumes nothing.
use Rattle.std.proofs.Common.{◌≡◌, ap, sym, ◌∙◌, false, rules}
use Rattle.std.specs.Prelude.{Some}
use Rattle.compare.specs.declared.order.Order.TheVariants.{Same}
use Rattle.compare.specs.Order.{is_same, renaming_of}
use Rattle.links.proofs.OwnerLaws.{assigned}
use Rattle.compare.proofs.CauseLaws.{passed, division-lists, division-ranks}
use Rattle.compare.proofs.ComparisonLaws.{renaming-none, renaming-some, compared-refused, compared-told}
use Rattle.compare.proofs.division.compare_divisions.Goals as goal

pub returns-in_err-comparison_cause : goal.returns-in_err-comparison_cause
returns-in_err-comparison_cause c =
    let a = c.args in
    compared-refused a.offsets.now a.neighbors.now a.ranks a.first.now a.second.now c.from_residual.result _ c.from_residual.ensures.1 c.in_err-comparison_cause.ensures

pub order_of-order-requires : goal.order_of-order-requires
order_of-order-requires c =
    let a = c.args in
    let p = passed a.offsets.now a.neighbors.now a.ranks a.first.now a.second.now (sym c.in_ok-comparison_cause.ensures) in (
      division-lists _ _ _ _ p.site p.one,
      division-lists _ _ _ _ p.site p.other,
      division-ranks _ _ _ _ p.site p.one,
      division-ranks _ _ _ _ p.site p.other,
    )

pub renaming_of-renaming-requires : goal.renaming_of-renaming-requires
renaming_of-renaming-requires c =
    let a = c.args in
    let p = passed a.offsets.now a.neighbors.now a.ranks a.first.now a.second.now (sym c.in_ok-comparison_cause.ensures) in
    (division-ranks _ _ _ _ p.site p.one, p.one.sized ∙ sym p.other.sized)

pub returns-then-eq : goal.returns-then-eq
returns-then-eq c =
    let a = c.args in
    let z = sym c.in_ok-comparison_cause.ensures in
    let p = passed a.offsets.now a.neighbors.now a.ranks a.first.now a.second.now z in
    let same : c.order_of-order.result ≡ Same = search rules in
    compared-told a.offsets.now a.neighbors.now a.ranks a.first.now a.second.now z _ c.order_of-order.ensures
    (c.renaming_of-renaming.ensures ∙ renaming-some a.ranks a.first.now a.second.now (assigned a.ranks a.first.now p.one.own).ranked ∙ sym (ap (λ o. renaming_of a.ranks a.first.now a.second.now (Some o)) same))

pub returns-else-eq : goal.returns-else-eq
returns-else-eq c =
    let a = c.args in
    let other : is_same c.order_of-order.result ≡ false = search rules in
    compared-told a.offsets.now a.neighbors.now a.ranks a.first.now a.second.now (sym c.in_ok-comparison_cause.ensures) _ c.order_of-order.ensures
    (renaming-none a.ranks a.first.now a.second.now (Some c.order_of-order.result) other)
