-- std's count is ours. Assumes nothing.
use Rattle.std.proofs.Common.{◌≡◌, ◌∙◌, eqb, rules}
use Rattle.std.specs.List.{count_by}
use Rattle.links.specs.Lists.{unassigned}
use Rattle.links.proofs.ChainLaws.{count-chain}
use Rattle.stages.specs.Level.{owners_at}
use Rattle.stages.specs.FrontierCode.{memory, memory_in}
use Rattle.stages.proofs.growth.vacant_in.Goals as goal

pub returns : goal.returns
unfolding memory_in memory
returns c =
    let p = eqb unassigned in
    let owners = owners_at c.args.w.now c.args.room.level in
    let e : c.count.result ≡ count_by p owners = search rules in
    e ∙ count-chain p owners
