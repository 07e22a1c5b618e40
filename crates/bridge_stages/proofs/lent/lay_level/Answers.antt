-- Four copies, each of which leaves those before it. Assumes nothing.
use Rattle.bridge_stages.proofs.LentLaws.{level-laid}
use Rattle.bridge_stages.proofs.lent.lay_level.Goals as goal

pub returns : goal.returns
returns c =
    let s = c.args.s in
    level-laid c.args.work.now _ _ _ _ c.args.l s.offsets.now s.neighbors.now s.weights.now s.owners.now c.requires c.copy_part.ensures c.copy_part-2.ensures c.copy_part-3.ensures c.copy_part-4.ensures
