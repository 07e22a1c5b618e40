-- Along the ranks or along the row it is the target. Assumes nothing.
use mathlib.Core.Path.{refl, ap, ◌∙◌}
use Rattle.stages.specs.MovesCode.{offered}
use Rattle.stages.proofs.MovesTurnLaws.{ranks-end}
use Rattle.stages.proofs.moves.best_offer.Goals.{After-owner_in-mine}
use Rattle.stages.proofs.moves.best_offer.Goals as goal

pub returns-then-s-degree : goal.returns-then-s-degree
returns-then-s-degree c =
    ap offered c.best_of_ranks.ensures
    ∙ ranks-end c.args.s.limits c.requires.0 c.args.v c.requires.1 c.requires.2 c.owner_in-mine.result c.weight_in-weight.result _
    c.owner_in-mine.ensures c.weight_in-weight.ensures refl
