-- The search on the parts that are lent for it. Assumes nothing.
use Rattle.stages.proofs.GrowthSliceLaws.{lent, links-length, chain-pre, seek-post}
use Rattle.stages.proofs.growth.sought.Goals as goal

pub seek-requires : goal.seek-requires
seek-requires c =
    let a = c.args in
    let d = c.requires.0 in
    let k = c.claimant_at.ensures in
    rw (k.weights, k.owners) (lent a.room a.w.now d.laid d.lists, links-length a.room a.w.now d.laid, chain-pre d a.r c.requires.1)

pub returns : goal.returns
returns c =
    let a = c.args in
    let s = c.seek.result in
    let k = c.claimant_at.ensures in
    seek-post c.requires.0 a.r c.requires.1 a.cap s.head s.place s.count
    (rw (k.weights, k.owners, k.load, k.cap) at c.seek.ensures)
