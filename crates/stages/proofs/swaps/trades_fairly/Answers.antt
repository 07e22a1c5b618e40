-- The load in the work slice is the rank's. Assumes nothing.
use Rattle.stages.proofs.SwapStepLaws.{gives_less}
use Rattle.stages.proofs.swaps.trades_fairly.Goals as goal

pub fair_trade-requires : goal.fair_trade-requires
fair_trade-requires c =
    let o = c.owner_in-r in
    gives_less c.requires.0 c.args.u o.result c.weight_in-x.result c.requires.1 o.ensures c.weight_in-x.ensures
