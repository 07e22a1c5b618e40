use Rattle.std.proofs.Common.{◌∙◌, rules, tests}
use Rattle.std.proofs.lemmas.Iterator.{YieldsList-from_slice}
use Rattle.std.proofs.lemmas.Iterator.Search.{any_from_yields_List}
use Rattle.links.specs.Workloads.{bad_workload}
use Rattle.links.proofs.ChainLaws.{any-chain}
use Rattle.links.proofs.workloads.stray_workload.Goals as goal

pub returns : goal.returns
returns c =
    let workloads = c.args.workloads.now in
    any_from_yields_List bad_workload _ _ _ c.any.ensures.ran (YieldsList-from_slice workloads cc) (λ x b q k. search (rules, tests)) ∙ any-chain bad_workload workloads
