use Rattle.std.proofs.Common.{◌≡◌, ◌∙◌, rules}
use Rattle.std.specs.List.{sum}
use Rattle.links.proofs.ChainLaws.{sum-chain}
use Rattle.multilevel.proofs.causes.total_of.Goals as goal

pub returns : goal.returns
returns c = let e : c.sum.result ≡ sum c.args.workloads.now = search rules in e ∙ sum-chain c.args.workloads.now
