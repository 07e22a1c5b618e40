-- The counts of all ranks, then the greatest of them. Assumes nothing.
use Rattle.std.proofs.Common.{◌∙◌}
use Rattle.links.specs.Graph.{rows_of}
use Rattle.telemetry.specs.Telemetry.{local_entries, most_entries}
use Rattle.telemetry.proofs.SiteLaws.{greatest-table}
use Rattle.telemetry.proofs.site.most_entries.Goals as goal

pub returns : goal.returns
unfolding most_entries
returns c =
    let a = c.args in
    c.most_of.ensures ∙ greatest-table (local_entries (rows_of a.offsets.now a.neighbors.now) a.owners.now) 256 a.ranks c.entry_counts-counts.result c.requires.2 c.entry_counts-counts.ensures
