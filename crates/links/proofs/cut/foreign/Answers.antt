use Rattle.std.proofs.Common.{◌≡◌, arith, true, false, eqb}
use lib.ListN.{drop_of_length-le}
use borrow.Author.Tests.{eq-eqb, ne_eqb}
use Rattle.links.specs.Lists.{at}
use Rattle.links.specs.Graph.{foreign_in}
use Rattle.links.proofs.CutLaws.{foreign-drop}
use Rattle.links.proofs.cut.foreign.Goals as goal
use Rattle.links.proofs.cut.foreign.Goals.{then-number_at-home, else-number_at-home}

pub loop-u-preserved : goal.loop-u-preserved
loop-u-preserved c =
    let a = c.args in
    let row = a.row.now in
    let owners = a.owners.now in
    let i = c.loop-u.u-index in
    let e = foreign-drop row owners a.home i (omega arith) in
    elim c.if-number_at-home.branch [
      | then-number_at-home w ↦
          let t : eqb (at owners (at row i)) a.home ≡ false = ne_eqb (at owners (at row i)) a.home (λ q. omega (arith, w.if-number_at-home.true, c.number_at.ensures)) in
          omega (arith, rw t at e)
      | else-number_at-home w ↦
          let t : eqb (at owners (at row i)) a.home ≡ true = eq-eqb (at owners (at row i)) a.home (omega (arith, c.number_at.ensures, w.if-number_at-home.false)) in
          omega (arith, rw t at e)
    ]

pub returns : goal.returns
unfolding foreign_in
returns c =
    let e = drop_of_length-le c.args.row.now {i = c.loop-u.u-index} (omega arith) in
    omega (arith, rw e at c.loop-u.invariant.1)
