use Rattle.std.proofs.Common.{◌<◌, ◌≡◌, sym, ◌∙◌, false, ◌&&◌, length, ltb, eqb, arith}
use Rattle.std.specs.Prelude.{not}
use borrow.Author.Tests.{le-ltb, eq-eqb}
use Rattle.links.specs.Lists.{at}
use Rattle.links.proofs.ListLaws.{and-false}
use Rattle.links.proofs.ListTestLaws.{valid-start, valid-next, valid-low, valid-stray, valid-end}
use Rattle.links.proofs.lists.valid_row.Goals as goal
use Rattle.links.proofs.lists.valid_row.Goals.{then-u-least-via-then-u-least, then-u-least-via-else-u-least+then-n-u, then-u-least-via-else-u-least+else-n-u+then-u-v}

pub loop-x-init : goal.loop-x-init
loop-x-init c = valid-start c.args.n c.args.v c.args.row.now

pub returns-then-u-least : goal.returns-then-u-least
returns-then-u-least c =
    let a = c.args in
    let l = c.loop-x in
    let i : l.x-index < length a.row.now = c.loop-x-test.true in
    let u = at a.row.now l.x-index in
    elim c.then-u-least.branch [
      | then-u-least-via-then-u-least w ↦ sym (valid-low a.n a.v l.least a.row.now l.x-index i w.if-u-least.true) ∙ l.invariant
      | then-u-least-via-else-u-least+then-n-u w ↦
          let e : (ltb u a.n && not (eqb u a.v)) ≡ false = rw (le-ltb u a.n w.if-n-u.true) in
          sym (valid-stray a.n a.v l.least a.row.now l.x-index i e) ∙ l.invariant
      | then-u-least-via-else-u-least+else-n-u+then-u-v w ↦
          let e : (ltb u a.n && not (eqb u a.v)) ≡ false = rw (eq-eqb u a.v w.if-u-v.true) (and-false (ltb u a.n)) in
          sym (valid-stray a.n a.v l.least a.row.now l.x-index i e) ∙ l.invariant
    ]

pub loop-x-preserved : goal.loop-x-preserved
loop-x-preserved c =
    let l = c.loop-x in
    valid-next c.args.n c.args.v l.least c.args.row.now l.x-index (omega arith) (omega arith) (omega arith) c.if-u-v.false ∙ l.invariant

pub returns : goal.returns
returns c =
    let l = c.loop-x in
    sym (valid-end c.args.n c.args.v l.least c.args.row.now l.x-index (omega arith)) ∙ l.invariant
