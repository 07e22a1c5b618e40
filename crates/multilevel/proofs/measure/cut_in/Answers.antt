-- The level's lists are lent as parts. Assumes nothing.
use Rattle.links.proofs.CutLaws.{cut_fits}
use Rattle.multilevel.proofs.MeasureLaws.{level-owned}
use Rattle.multilevel.proofs.measure.cut_in.Goals as goal

pub returns : goal.returns
returns c = cut_fits _ _ _ (level-owned _ _ _ c.requires) _ c.cut_entries.ensures
