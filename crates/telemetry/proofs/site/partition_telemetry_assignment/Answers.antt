-- The cause decides the case. Assumes nothing.
use Rattle.std.proofs.Common.{sym}
use Rattle.telemetry.specs.Telemetry.{telemetry_of}
use Rattle.telemetry.proofs.SiteLaws.{passed, passed-lists, passed-owners, told-refused, told-measured}
use Rattle.telemetry.proofs.site.partition_telemetry_assignment.Goals as goal

pub returns-in_err-telemetry_cause : goal.returns-in_err-telemetry_cause
returns-in_err-telemetry_cause c =
    let a = c.args in
    told-refused a.offsets.now a.neighbors.now a.ranks a.owners.now c.from_residual.result _ c.from_residual.ensures.1 c.in_err-telemetry_cause.ensures

pub most_owned-vertices-requires : goal.most_owned-vertices-requires
most_owned-vertices-requires c =
    let a = c.args in
    (passed-owners a.offsets.now a.neighbors.now a.ranks a.owners.now (passed a.offsets.now a.neighbors.now a.ranks a.owners.now (sym c.in_ok-telemetry_cause.ensures))).few

pub most_entries-entries-requires : goal.most_entries-entries-requires
most_entries-entries-requires c =
    let a = c.args in
    let p = passed a.offsets.now a.neighbors.now a.ranks a.owners.now (sym c.in_ok-telemetry_cause.ensures) in
    let own = passed-owners a.offsets.now a.neighbors.now a.ranks a.owners.now p in
    (passed-lists a.offsets.now a.neighbors.now a.ranks a.owners.now p, own.ranked, own.few)

pub returns : goal.returns
unfolding telemetry_of
returns c =
    let a = c.args in
    let z = sym c.in_ok-telemetry_cause.ensures in
    let p = passed a.offsets.now a.neighbors.now a.ranks a.owners.now z in
    told-measured a.offsets.now a.neighbors.now a.ranks a.owners.now z _ (rw (c.imbalance.ensures, c.imbalance-2.ensures, c.most_owned-vertices.ensures, c.most_entries-entries.ensures, ← p.sized))
