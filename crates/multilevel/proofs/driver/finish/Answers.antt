-- Swaps, and measures of what they leave. Assumes nothing.
use Rattle.multilevel.proofs.EndLaws.{measurable, finished}
use Rattle.multilevel.proofs.driver.finish.Goals as goal

pub measure_level-m-requires : goal.measure_level-m-requires
measure_level-m-requires c =
    let a = c.args in
    measurable a.work.now a.l a.q a.lists c.requires _ _ c.refine_fine_pair_swaps-swaps.ensures

pub returns : goal.returns
returns c =
    let a = c.args in
    finished a.work.now a.l a.q a.lists c.requires _ _ c.refine_fine_pair_swaps-swaps.ensures _ c.measure_level-m.result a.s c.added_moves.result c.measured.result c.measure_level-m.ensures c.added_moves.ensures c.measured.ensures
