-- Cleared, seated, grown: the growth that is defined. Assumes nothing.
use Rattle.stages.proofs.GrowthStartLaws.{multisource-is, multisource-after}
use Rattle.stages.proofs.growth.multisource.Goals as goal

pub returns : goal.returns
returns c =
    let b = c.clear.ensures in
    multisource-after c.requires b.outside
    (multisource-is b.blank c.seat_all.ensures c.grow.ensures)
