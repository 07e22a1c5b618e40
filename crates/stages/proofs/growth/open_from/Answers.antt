-- The search on the parts that are lent for it. Assumes nothing.
use native.Mathlib.Omega.{arith}
use Rattle.stages.proofs.GrowthSliceLaws.{order-groups, order-inside, open-post}
use Rattle.stages.proofs.growth.open_from.Goals as goal

pub first_open-requires : goal.first_open-requires
first_open-requires c =
    let a = c.args in
    let p = c.requires in
    let k = c.claimant_at.ensures in
    rw (k.weights, k.owners) (order-groups a.cap a.r p.0 p.1, omega (arith, order-inside a.cap a.r p.0 p.1, p.2))

pub returns : goal.returns
returns c =
    let a = c.args in
    let k = c.claimant_at.ensures in
    open-post c.requires.0 a.r c.requires.1 a.cap a.from c.first_open.result
    (rw (k.weights, k.owners, k.load, k.cap) at c.first_open.ensures)
