-- The invariant: the owners before are counted. Assumes nothing.
use Rattle.std.proofs.Common.{◌≡◌, take}
use Rattle.links.specs.Parts.{table}
use Rattle.links.specs.Graph.{owned}
use Rattle.links.proofs.owners.owned_counts.Given as goal

abbrev pub invariant-loop-owner : goal.invariant-loop-owner
invariant-loop-owner l = l.counts ≡ table (owned (take l.owner-index l.owners)) 256
