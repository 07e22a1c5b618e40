-- v's weight is a part of the load of its rank. Assumes nothing.
use Rattle.stages.proofs.MovesTurnLaws.{load-covers}
use Rattle.stages.proofs.moves.may_leave.Goals as goal

pub keeps_floor-requires : goal.keeps_floor-requires
keeps_floor-requires c =
    load-covers c.requires.0 c.args.v c.requires.1 c.owner_in-home.result c.weight_in-weight.result c.owner_in-home.ensures
    c.weight_in-weight.ensures
