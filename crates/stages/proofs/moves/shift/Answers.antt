-- Three stores: the loads after them are those of the new owners. Assumes nothing.
use mathlib.Core.Path.{refl}
use native.Mathlib.Omega.{arith}
use Rattle.stages.proofs.MovesTurnLaws.{load-covers, more-fits, shifted}
use Rattle.stages.proofs.moves.shift.Goals as goal

pub overflow_sub-work : goal.overflow_sub-work
overflow_sub-work c =
    load-covers c.requires.0 c.args.v c.requires.1 c.owner_in-home.result c.weight_in-weight.result c.owner_in-home.ensures
    c.weight_in-weight.ensures

pub overflow_add-work-3 : goal.overflow_add-work-3
overflow_add-work-3 c =
    let f = more-fits c.requires.0 c.args.v c.requires.1 c.args.rank c.requires.2 c.owner_in-home.result c.weight_in-weight.result c.owner_in-home.ensures
    c.weight_in-weight.ensures in
    omega arith

pub returns : goal.returns
returns c =
    shifted c.requires.0 c.args.v c.requires.1 c.args.rank c.requires.2 c.owner_in-home.result c.weight_in-weight.result c.owner_in-home.ensures
    c.weight_in-weight.ensures _ refl
