-- Each count by its own function; the cut links are half of the cut entries. Assumes nothing.
use Rattle.std.proofs.Common.{refl}
use Rattle.telemetry.proofs.SitesLaws.{few-ranks, half-cut, counts-are}
use Rattle.telemetry.proofs.sites.count_site.Goals as goal

pub most_owned-requires : goal.most_owned-requires
most_owned-requires c =
    let a = c.args.site in
    few-ranks a.offsets.now a.neighbors.now a.ranks a.owners.now c.requires

pub returns : goal.returns
returns c =
    let a = c.args.site in
    let cut = half-cut a.offsets.now a.neighbors.now a.ranks a.owners.now c.requires _ c.cut_entries.ensures in
    counts-are a.offsets.now a.neighbors.now a.ranks a.owners.now c.requires _ refl c.from.ensures cut c.most_owned.ensures
