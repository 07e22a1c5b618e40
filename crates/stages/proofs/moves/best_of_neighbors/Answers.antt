use Prim.Native.Nat.{◌<◌}
use mathlib.Core.Path.{◌≡◌, refl}
use native.Mathlib.Omega.{arith}
use lib.ListN.{length}
use Rattle.links.specs.Lists.{at}
use Rattle.links.specs.Graph.{row}
use Rattle.stages.specs.Level.{rows_at, owners_at}
use Rattle.stages.proofs.MovesTurnLaws.{weighed-whole, owner-ranked, best-turn, best-end}
use Rattle.stages.proofs.moves.best_of_neighbors.Goals.{In-loop-u}
use Rattle.stages.proofs.moves.best_of_neighbors.Goals as goal

-- the neighbor is a vertex, and its owner a rank
ranked
    : (c : In-loop-u)
    → (at c.row-u-items.result.now c.loop-u.u-index < c.args.s.level.vertices)
    × (at (owners_at c.args.work.now c.args.s.level) (at c.row-u-items.result.now c.loop-u.u-index) < c.args.s.limits.ranks)
ranked c = owner-ranked c.requires.0 c.args.v c.requires.1 c.row-u-items.result.now c.row-u-items.ensures c.loop-u.u-index c.loop-u-test.true

pub owner_in-r-requires : goal.owner_in-r-requires
owner_in-r-requires c = (weighed-whole c.requires.0, (ranked (goal.at.owner_in-r-requires c).In-loop-u).0)

pub offer_at-requires : goal.offer_at-requires
offer_at-requires c = (c.requires.0.room, omega (arith, ranked (goal.at.offer_at-requires c).In-loop-u, c.owner_in-r.ensures))

pub loop-u-preserved : goal.loop-u-preserved
loop-u-preserved c =
    let e = c.row-u-items.ensures in
    let r = c.owner_in-r in
    best-turn c.args.s.limits c.requires.0 c.args.v c.requires.1 c.requires.2 c.owner_in-mine.result c.weight_in-weight.result _ c.loop-u.u-index
    r.result c.loop-u.best c.offer_at.result c.better-best.result
    c.owner_in-mine.ensures c.weight_in-weight.ensures refl (rw e at c.loop-u-test.true) (rw e at r.ensures)
    (omega (arith, ranked (goal.at.loop-u-preserved c).In-loop-u, r.ensures)) c.loop-u.invariant c.offer_at.ensures c.better-best.ensures

pub returns : goal.returns
returns c =
    let n : c.loop-u.u-index ≡ length (row (rows_at c.args.work.now c.args.s.level) c.args.v) = rw (← c.row-u-items.ensures) (omega (arith, c.loop-u-test.false)) in
    rw (c.loop-u.invariant, n) (best-end c.args.s.limits c.requires.0 c.args.v c.requires.1)
