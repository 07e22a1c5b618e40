-- The invariant: with what is left, the count is that of all rows. Assumes nothing.
use Rattle.std.proofs.Common.{◌≡◌, ◌+◌, ◌≤◌}
use Rattle.links.specs.Loads.{saturating}
use Rattle.links.specs.Graph.{rows_of, cut_entries}
use Rattle.links.proofs.CutLaws.{cut_left}
use Rattle.links.proofs.cut.cut_entries.Given as goal

abbrev pub invariant-loop-v : goal.invariant-loop-v
invariant-loop-v l = (l.x ≤ 18446744073709551615) × (saturating (l.x + cut_left l.offsets l.neighbors l.owners l.v) ≡ saturating (cut_entries (rows_of l.offsets l.neighbors) l.owners))
