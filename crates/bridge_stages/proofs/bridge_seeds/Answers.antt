-- A level that was tested and laid is one that the stage takes, if it has a vertex for each rank. Assumes nothing.
use Rattle.std.proofs.Common.{ap, ◌∙◌}
use Rattle.bridge_stages.specs.Lent.{lent, place_of}
use Rattle.bridge_stages.proofs.StageLaws.{too_few, seeded}
use Rattle.bridge_stages.proofs.bridge_seeds.Goals as goal

pub returns-then-p-ranks : goal.returns-then-p-ranks
returns-then-p-ranks c =
    let a = c.args in
    let s = lent a.offsets.now a.neighbors.now a.weights.now a.owners.now a.ranks in
    rw c.number.ensures (too_few s _ _ (rw c.new-level.ensures at c.in-Ok.ensures.entered) _ (c.in-Ok.ensures.place ∙ ap place_of c.new-level.ensures) c.if-p-ranks.true)

pub returns : goal.returns
returns c =
    let a = c.args in
    let s = lent a.offsets.now a.neighbors.now a.weights.now a.owners.now a.ranks in
    seeded s _ _ (rw c.new-level.ensures at c.in-Ok.ensures.entered) _ (c.in-Ok.ensures.place ∙ ap place_of c.new-level.ensures) _ c.if-p-ranks.false c.farthest_seeds.ensures
