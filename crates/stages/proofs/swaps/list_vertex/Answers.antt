-- A vertex on no border is listed nowhere. Assumes nothing.
use Rattle.stages.proofs.ListingLaws.{unlisted}
use Rattle.stages.proofs.swaps.list_vertex.Goals as goal

pub returns-else-borders : goal.returns-else-borders
returns-else-borders c =
    let p = c.requires in
    unlisted p.0 p.1 c.borders.result c.borders.ensures c.if-borders.false p.2 p.3
