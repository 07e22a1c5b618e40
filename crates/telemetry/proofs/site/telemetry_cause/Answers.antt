-- The site, the owners, then their number. Assumes nothing.
use Rattle.std.proofs.Common.{sym, ◌∙◌, arith}
use Rattle.links.proofs.RefusalLaws.{passed-on, refusal-some}
use Rattle.telemetry.proofs.SiteLaws.{cause-site, cause-owners, cause-length, cause-none}
use Rattle.telemetry.proofs.site.telemetry_cause.Goals as goal

pub returns-in_err-site_cause : goal.returns-in_err-site_cause
returns-in_err-site_cause c =
    let a = c.args in
    let e = c.in_err-site_cause.ensures in
    passed-on c.from_residual.result _ c.from_residual.ensures.1 ∙ e ∙ cause-site a.offsets.now a.neighbors.now a.ranks a.owners.now (λ z. refusal-some _ (e ∙ z))

pub returns-in_err-from_owners : goal.returns-in_err-from_owners
returns-in_err-from_owners c =
    let a = c.args in
    let e = c.in_err-from_owners.ensures in
    passed-on c.from_residual-in_err-from_owners.result _ c.from_residual-in_err-from_owners.ensures.1
    ∙ e
    ∙ cause-owners a.offsets.now a.neighbors.now a.ranks a.owners.now (sym c.in_ok-site_cause.ensures) (λ z. refusal-some _ (e ∙ z))

pub returns-then-owners-vertex_count : goal.returns-then-owners-vertex_count
returns-then-owners-vertex_count c =
    let a = c.args in
    cause-length a.offsets.now a.neighbors.now a.ranks a.owners.now (sym c.in_ok-site_cause.ensures) (sym c.in_ok-from_owners.ensures)
    (λ e. omega (arith, c.if-owners-vertex_count.true, c.vertex_count.ensures))

pub returns : goal.returns
returns c =
    let a = c.args in
    cause-none a.offsets.now a.neighbors.now a.ranks a.owners.now (sym c.in_ok-site_cause.ensures) (sym c.in_ok-from_owners.ensures)
    (omega (arith, c.if-owners-vertex_count.false, c.vertex_count.ensures))
