use Rattle.std.proofs.Common.{◌∙◌, leb, rules, tests}
use Rattle.std.proofs.lemmas.Iterator.{YieldsList-from_slice}
use Rattle.std.proofs.lemmas.Iterator.Search.{any_from_yields_List}
use Rattle.links.proofs.ChainLaws.{any-chain}
use Rattle.links.proofs.lists.any_from.Goals as goal

pub returns : goal.returns
returns c =
    let p = leb c.args.least in
    any_from_yields_List p _ _ _ c.any.ensures.ran (YieldsList-from_slice c.args.xs.now cc) (λ x b q k. search (rules, tests)) ∙ any-chain p c.args.xs.now
