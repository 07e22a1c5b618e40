use Rattle.std.proofs.Common.{◌≡◌, ◌∙◌, false, rules, arith}
use Rattle.links.specs.Lists.{at}
use Rattle.compare.specs.declared.order.Order.TheVariants.{Same}
use Rattle.compare.specs.Order.{lesser_first, is_same}
use Rattle.compare.proofs.NumberLaws.{by-decided, by-more, by-done}
use Rattle.compare.proofs.numbers.by_numbers.Goals as goal

pub returns : goal.returns
returns c =
    let a = c.args in
    by-done (at a.one.now) (at a.other.now) a.first.now a.second.now _ c.loop-v.v c.loop-v.invariant (omega arith)

pub returns-then-ne : goal.returns-then-ne
returns-then-ne c =
    let a = c.args in
    let key : c.lesser_first-order.result ≡ lesser_first (at a.one.now (at a.first.now c.loop-v.v)) (at a.other.now (at a.second.now c.loop-v.v)) =
    c.lesser_first-order.ensures ∙ rw (c.number_in.ensures, c.number_in-in-loop-v.ensures) in
    let other : is_same c.lesser_first-order.result ≡ false = search rules in
    by-decided (at a.one.now) (at a.other.now) a.first.now a.second.now _ c.loop-v.v c.loop-v.invariant c.loop-v-test.true c.requires.2 _ key other

pub loop-v-preserved : goal.loop-v-preserved
loop-v-preserved c =
    let a = c.args in
    let key : c.lesser_first-order.result ≡ lesser_first (at a.one.now (at a.first.now c.loop-v.v)) (at a.other.now (at a.second.now c.loop-v.v)) =
    c.lesser_first-order.ensures ∙ rw (c.number_in.ensures, c.number_in-in-loop-v.ensures) in
    let same : c.lesser_first-order.result ≡ Same = search rules in
    by-more (at a.one.now) (at a.other.now) a.first.now a.second.now _ c.loop-v.v c.loop-v.invariant c.loop-v-test.true c.requires.2 _ key same
