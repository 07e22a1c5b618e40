-- The search goes on from the cursor, and takes it along. Assumes nothing.
use Rattle.stages.proofs.GrowthSliceLaws.{cursor-behind, restart-there, restart-nowhere}
use Rattle.stages.proofs.growth.restart_for.Goals as goal

pub returns-then-p-room : goal.returns-then-p-room
returns-then-p-room c =
    let a = c.args in
    let p = c.requires in
    let f = c.open_from-p.ensures in
    (restart-there a.cap a.r p.0 p.1 p.2 f c.if-p-room.true, cursor-behind a.cap a.r p.0 p.1 p.2 f)

pub returns-else-p-room : goal.returns-else-p-room
returns-else-p-room c =
    let a = c.args in
    let p = c.requires in
    let f = c.open_from-p.ensures in
    (restart-nowhere a.cap a.r p.0 p.1 p.2 f c.if-p-room.false, cursor-behind a.cap a.r p.0 p.1 p.2 f)
