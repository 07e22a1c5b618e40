-- The invariant: the entries of the rows before v are counted. Assumes nothing.
use Rattle.std.proofs.Common.{◌≡◌}
use Rattle.links.specs.Parts.{table}
use Rattle.links.specs.Graph.{rows_of}
use Rattle.telemetry.proofs.SiteLaws.{entries_to}
use Rattle.telemetry.proofs.site.entry_counts.Given as goal

abbrev pub invariant-loop-v : goal.invariant-loop-v
invariant-loop-v l = l.counts ≡ table (entries_to (rows_of l.offsets l.neighbors) l.owners l.v) 256
