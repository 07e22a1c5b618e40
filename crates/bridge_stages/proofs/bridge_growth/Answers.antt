-- A level that was tested and laid is one that the stage takes; its answer is told in numbers. Assumes nothing.
use Rattle.std.proofs.Common.{ap, ◌∙◌}
use Rattle.bridge_stages.specs.Lent.{lent, place_of}
use Rattle.bridge_stages.proofs.StageLaws.{grown-told}
use Rattle.bridge_stages.proofs.bridge_growth.Goals as goal

pub returns-in_default-grown : goal.returns-in_default-grown
returns-in_default-grown c =
    let a = c.args in
    let s = lent a.offsets.now a.neighbors.now a.weights.now a.owners.now a.ranks in
    let g = c.weighted_multisource_partition-grown in
    rw (c.number_of-in_default-grown.ensures, c.in_default-grown.is)
    (grown-told s _ _ (rw c.new-level.ensures at c.in-Ok.ensures.entered) _ (c.in-Ok.ensures.place ∙ ap place_of c.new-level.ensures) a.cap _ _ (rw c.in_default-grown.is at g.ensures))

pub returns : goal.returns
returns c =
    let a = c.args in
    let s = lent a.offsets.now a.neighbors.now a.weights.now a.owners.now a.ranks in
    grown-told s _ _ (rw c.new-level.ensures at c.in-Ok.ensures.entered) _ (c.in-Ok.ensures.place ∙ ap place_of c.new-level.ensures) a.cap _ _ (rw c.in-Ok-grown.is at c.weighted_multisource_partition-grown.ensures)
