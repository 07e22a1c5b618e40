-- The chain from the first open candidate on has the same open candidates. Assumes nothing.
use Rattle.stages.proofs.GrowthSliceLaws.{found-pre, advance-is}
use Rattle.stages.proofs.growth.advance.Goals as goal

pub found-g-requires : goal.found-g-requires
found-g-requires c =
    let a = c.args in
    (c.requires.0, found-pre a.cap a.r c.requires.0 c.requires.1 c.sought-here.ensures)

pub returns : goal.returns
returns c =
    let a = c.args in
    advance-is a.cap a.r c.requires.0
    c.requires.1 c.sought-here.ensures
    c.found-g.result c.found-g.ensures c.park.ensures
