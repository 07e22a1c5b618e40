-- The invariant: with what is owned of those left, the count is all that is owned. Assumes nothing.
use Rattle.std.proofs.Common.{◌≡◌, ◌+◌, ◌≤◌, drop}
use Rattle.links.specs.Graph.{owned}
use Rattle.links.proofs.owners.owned_by.Given as goal

abbrev pub invariant-loop-owner : goal.invariant-loop-owner
invariant-loop-owner l = (l.count ≤ l.owner-index) × (l.count + owned (drop l.owner-index l.owners) l.rank ≡ owned l.owners l.rank)
