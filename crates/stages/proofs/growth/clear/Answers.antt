-- Three fills: the owners, the loads and the counts. Assumes nothing.
use Prim.Native.Nat.{◌+◌}
use mathlib.Core.Path.{ap}
use Rattle.links.specs.Parts.{put_back, filled_part}
use Rattle.stages.proofs.GrowthStartLaws.{clear-is}
use Rattle.stages.proofs.growth.clear.Goals as goal

pub returns : goal.returns
unfolding filled_part
returns c =
    let room = c.args.room in
    let l = room.level in
    clear-is c.requires
    (ap (put_back _ l.owners (l.owners + l.vertices)) (c.fill.ensures.after (λ y e. e)))
    (ap (put_back _ room.loads (room.loads + room.ranks)) (c.fill-2.ensures.after (λ y e. e)))
    (ap (put_back _ room.counts (room.counts + room.ranks)) (c.fill-3.ensures.after (λ y e. e)))
