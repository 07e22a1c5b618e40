-- The row is rising, so that the search finds what is there. Assumes nothing.
use mathlib.Core.Path.{◌≡◌, ◌∙◌}
use native.Mathlib.Omega.{arith}
use Rattle.std.proofs.lemmas.Grind.{common_steps}
use Rattle.links.specs.Lists.{elem}
use Rattle.links.specs.Graph.{row}
use Rattle.links.proofs.HalvingLaws.{found-elem}
use Rattle.stages.specs.Level.{rows_at}
use Rattle.stages.specs.Moves.{linked}
use Rattle.stages.proofs.SwapsSliceLaws.{row-sorted}
use Rattle.stages.proofs.swaps.linked.Goals as goal

pub returns : goal.returns
unfolding linked
returns c =
    let a = c.args in
    let r = row (rows_at a.w.now a.s.level) a.u in
    let told : c.holds.result ≡ elem a.v r = c.holds.ensures ∙ rw c.row.ensures (found-elem r a.v (row-sorted c.requires.0 a.u c.requires.1)) in
    grind (arith, common_steps, told)
