-- std's word for the chain is ours. Assumes nothing.
use Rattle.std.proofs.Common.{◌∙◌, ltb, rules, tests}
use Rattle.std.proofs.lemmas.Iterator.{YieldsList-from_slice}
use Rattle.std.proofs.lemmas.Iterator.Search.{any_from_yields_List}
use Rattle.links.proofs.ChainLaws.{any-chain}
use Rattle.stages.specs.Level.{weights_at}
use Rattle.stages.proofs.growth.heavy_in.Goals as goal

pub returns : goal.returns
returns c =
    let p = ltb c.args.cap in
    let weights = weights_at c.args.w.now c.args.l in
    any_from_yields_List p _ _ _ c.any.ensures.ran (YieldsList-from_slice weights cc) (λ x b q k. search (rules, tests)) ∙ any-chain p weights
