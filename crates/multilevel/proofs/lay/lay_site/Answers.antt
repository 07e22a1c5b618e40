-- Three copies, each of which leaves those before it. Assumes nothing.
use Rattle.multilevel.proofs.LayLaws.{site-laid}
use Rattle.multilevel.proofs.lay.lay_site.Goals as goal

pub returns : goal.returns
returns c =
    let a = c.args in
    site-laid a.work.now c.copy_part.new.work c.copy_part-2.new.work c.copy_part-3.new.work a.l a.offsets.now a.neighbors.now a.workloads.now c.requires c.copy_part.ensures c.copy_part-2.ensures c.copy_part-3.ensures
