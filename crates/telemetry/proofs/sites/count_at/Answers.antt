-- A site that is not refused is counted. Assumes nothing.
use Rattle.telemetry.specs.SitesCode.{lent}
use Rattle.telemetry.proofs.SitesLaws.{in-time, site-tested}
use Rattle.telemetry.proofs.sites.count_at.Goals as goal

pub site_at-requires : goal.site_at-requires
site_at-requires c = (c.requires.0, in-time (lent c.args.sites) c.args.i c.requires.1)

pub count_site-requires : goal.count_site-requires
count_site-requires c =
    let e = c.site_at.ensures in
    rw (e.offsets, e.neighbors, e.ranks, e.owners) (site-tested (lent c.args.sites) c.args.i c.requires.1)
