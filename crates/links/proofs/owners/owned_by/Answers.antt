use Rattle.std.proofs.Common.{◌≡◌, sym, arith, true, false, eqb}
use lib.ListN.{drop_of_length-le}
use borrow.Author.Tests.{eq-eqb, ne_eqb}
use Rattle.links.specs.Lists.{at}
use Rattle.links.specs.Graph.{owned}
use Rattle.links.proofs.OwnerLaws.{owned-drop}
use Rattle.links.proofs.owners.owned_by.Goals as goal
use Rattle.links.proofs.owners.owned_by.Goals.{then-owner-rank, else-owner-rank}

pub loop-owner-preserved : goal.loop-owner-preserved
loop-owner-preserved c =
    let owners = c.args.owners.now in
    let rank = c.args.rank in
    let i = c.loop-owner.owner-index in
    let e = owned-drop owners i (omega arith) rank in
    elim c.if-owner-rank.branch [
      | then-owner-rank w ↦
          let t : eqb rank (at owners i) ≡ true = eq-eqb rank (at owners i) (sym w.if-owner-rank.true) in
          omega (arith, rw t at e)
      | else-owner-rank w ↦
          let t : eqb rank (at owners i) ≡ false = ne_eqb rank (at owners i) (λ p. w.if-owner-rank.false (sym p)) in
          omega (arith, rw t at e)
    ]

pub returns : goal.returns
unfolding owned
returns c =
    let e = drop_of_length-le c.args.owners.now {i = c.loop-owner.owner-index} (omega arith) in
    omega (arith, rw e at c.loop-owner.invariant.1)
