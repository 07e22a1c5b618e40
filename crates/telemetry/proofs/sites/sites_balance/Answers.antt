-- The cause decides the case. Assumes nothing.
use Rattle.std.proofs.Common.{sym}
use Rattle.telemetry.specs.Sites.{sites_from}
use Rattle.telemetry.proofs.SitesLaws.{all_pass, told-refused, told-added}
use Rattle.telemetry.proofs.sites.sites_balance.Goals as goal

pub returns-in_err-sites_cause : goal.returns-in_err-sites_cause
returns-in_err-sites_cause c =
    let a = c.args in
    told-refused (sites_from a.sizes.now a.offsets.now a.neighbors.now a.owners.now) c.from_residual.result _ c.from_residual.ensures.1 c.in_err-sites_cause.ensures

pub sum_sites-requires : goal.sum_sites-requires
sum_sites-requires c =
    let a = c.args in
    all_pass (sites_from a.sizes.now a.offsets.now a.neighbors.now a.owners.now) (sym c.in_ok-sites_cause.ensures)

pub returns : goal.returns
returns c =
    let a = c.args in
    told-added (sites_from a.sizes.now a.offsets.now a.neighbors.now a.owners.now) (sym c.in_ok-sites_cause.ensures) _ c.sum_sites.ensures
