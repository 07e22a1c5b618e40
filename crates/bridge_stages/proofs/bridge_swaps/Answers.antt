-- A level that was tested and laid is one that the stage takes, with a list length in its range. Assumes nothing.
use Rattle.std.proofs.Common.{ap, sym, ◌∙◌}
use Rattle.links.specs.Options.{bad_list_length}
use Rattle.bridge_stages.specs.Lent.{lent, place_of}
use Rattle.bridge_stages.proofs.StageLaws.{swappable}
use Rattle.bridge_stages.proofs.bridge_swaps.Goals as goal

pub refine_fine_pair_swaps-requires : goal.refine_fine_pair_swaps-requires
refine_fine_pair_swaps-requires c =
    let a = c.args in
    let s = lent a.offsets.now a.neighbors.now a.weights.now a.owners.now a.ranks in
    swappable s _ _ (rw c.new-level.ensures at c.in-Ok.ensures.entered) _ (c.in-Ok.ensures.place ∙ ap place_of c.new-level.ensures) a.list_length
    (ap bad_list_length (sym c.from.ensures) ∙ sym c.bad_list_length.ensures ∙ c.if-bad_list_length.false)
