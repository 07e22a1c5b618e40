-- The owners and the flags change, then the loads. Assumes nothing.
use Rattle.stages.proofs.SwapStepLaws.{tradable, swapped}
use Rattle.stages.proofs.swaps.swap.Goals as goal

pub trade-requires : goal.trade-requires
trade-requires c =
    let p = c.requires in
    let a = c.args in
    tradable p.0 a.u a.v p.1 p.2 c.owner_in-a.result c.owner_in-b.result c.weight_in-x.result c.weight_in-y.result
    c.owner_in-a.ensures c.owner_in-b.ensures c.weight_in-x.ensures c.weight_in-y.ensures c.change.new.work c.change.ensures

pub returns : goal.returns
returns c =
    let p = c.requires in
    let a = c.args in
    swapped p.0 a.u a.v p.1 p.2 c.owner_in-a.result c.owner_in-b.result c.weight_in-x.result c.weight_in-y.result
    c.owner_in-a.ensures c.owner_in-b.ensures c.weight_in-x.ensures c.weight_in-y.ensures c.change.new.work c.change.ensures
    c.trade.new.work c.trade.ensures
