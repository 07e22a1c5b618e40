-- The invariant: the owners before are marked, and no other rank. Assumes nothing.
use Rattle.std.proofs.Common.{take}
use Rattle.links.specs.Owners.{Marked}
use Rattle.links.proofs.owners.mark_owners.Given as goal

abbrev pub invariant-loop-owner : goal.invariant-loop-owner
invariant-loop-owner l = Marked (take l.owner-index l.owners) l.marks l.initial.marks
