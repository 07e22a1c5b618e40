-- The counts of all ranks, then the greatest of them. Assumes nothing.
use Rattle.std.proofs.Common.{◌∙◌}
use Rattle.links.specs.Graph.{owned}
use Rattle.telemetry.specs.Telemetry.{most_owned}
use Rattle.telemetry.proofs.SiteLaws.{greatest-table}
use Rattle.telemetry.proofs.site.most_owned.Goals as goal

pub returns : goal.returns
unfolding most_owned
returns c =
    let a = c.args in
    c.most_of.ensures ∙ greatest-table (owned a.owners.now) 256 a.ranks c.owned_counts-counts.result c.requires c.owned_counts-counts.ensures
