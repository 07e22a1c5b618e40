use Rattle.std.proofs.Common.{arith}
use Rattle.multilevel.proofs.RoomLaws.{taking-all}
use Rattle.multilevel.proofs.takeover.take_over.Goals as goal

pub returns : goal.returns
returns c = taking-all _ _ _ c.requires c.loop-v.work c.loop-v.v c.loop-v.invariant (omega arith)
