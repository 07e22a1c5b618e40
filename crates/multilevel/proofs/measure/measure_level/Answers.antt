-- The cut is counted, and the volume over marks that are cleared. Assumes nothing.
use native.Mathlib.Omega.{arith}
use Rattle.links.proofs.PartLaws.{filled-kept, filled_at}
use Rattle.multilevel.proofs.MeasureLaws.{measurable-kept, measured}
use Rattle.multilevel.proofs.measure.measure_level.Goals as goal

pub volume_in-volume-requires : goal.volume_in-volume-requires
volume_in-volume-requires c =
    let a = c.args in
    let w = c.fill_part.new.work in
    let e = c.fill_part.ensures in
    (measurable-kept _ _ _ _ _ (filled-kept a.work.now w a.scratch a.ranks 0 c.requires.inside e) c.requires, λ r h. omega (arith, filled_at a.work.now w a.scratch a.ranks 0 c.requires.inside e r h))

pub returns : goal.returns
returns c =
    let a = c.args in
    let w = c.fill_part.new.work in
    let e = c.fill_part.ensures in
    measured _ _ _ _ _ _ _ c.requires (filled-kept a.work.now w a.scratch a.ranks 0 c.requires.inside e) c.cut_in-cut.ensures c.volume_in-volume.ensures
