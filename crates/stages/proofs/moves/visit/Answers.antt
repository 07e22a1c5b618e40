-- The three ways out of a turn: v may not leave, has no target, or goes to it. Assumes nothing.
use Rattle.stages.proofs.MovesTurnLaws.{may-not, nowhere, goes_in, goes}
use Rattle.stages.proofs.moves.visit.Goals as goal

pub shift-requires : goal.shift-requires
shift-requires c =
    let s = c.in-Some in
    (rw c.choose.ensures.1 c.requires.0.weighed, c.requires.1, goes_in c.args.s.limits c.requires.0 c.args.v s.best s.ensures.0)

pub returns-in-Some : goal.returns-in-Some
returns-in-Some c =
    let o = c.choose in
    goes c.args.s.limits c.requires.0 c.args.v c.may_leave.result c.may_leave.ensures c.if-not-may_leave.false c.in-Some.best c.in-Some.ensures.0
    _ (rw o.ensures.1 at c.shift.ensures)

pub returns-in-None : goal.returns-in-None
returns-in-None c =
    let o = c.choose in
    rw o.ensures.1 (nowhere c.args.s.limits c.requires.0 c.args.v c.may_leave.result c.may_leave.ensures c.if-not-may_leave.false c.in-None.ensures.0)

pub returns-then-not-may_leave : goal.returns-then-not-may_leave
returns-then-not-may_leave c = may-not c.args.s.limits c.requires.0 c.args.v c.may_leave.result c.may_leave.ensures c.if-not-may_leave.true
