-- The invariant: the vertices before v have their groups' owners. Assumes nothing.
use Rattle.multilevel.proofs.RoomLaws.{Taking}
use Rattle.multilevel.proofs.takeover.take_over.Given as goal

abbrev pub invariant-loop-v : goal.invariant-loop-v
invariant-loop-v l = Taking l.initial.work l.l.vertices l.l.fine_to_coarse l.l.owners l.coarse.owners l.work l.v
