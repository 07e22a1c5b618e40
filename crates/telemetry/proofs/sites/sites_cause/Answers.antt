use Rattle.std.proofs.Common.{sym, ◌∙◌, arith}
use Rattle.links.proofs.RefusalLaws.{passed-on, refusal-some}
use Rattle.telemetry.specs.Sites.{site_count, cause_at}
use Rattle.telemetry.specs.SitesCode.{lent}
use Rattle.telemetry.proofs.SitesLaws.{sizes-passed, first-hit, first-miss, first_done, cause-sizes, cause-first}
use Rattle.telemetry.proofs.sites.sites_cause.Goals as goal

pub returns-then-bad_sizes : goal.returns-then-bad_sizes
returns-then-bad_sizes c = cause-sizes (lent c.args.sites) (sym c.bad_sizes.ensures ∙ c.if-bad_sizes.true)

pub cause_at-requires : goal.cause_at-requires
cause_at-requires c =
    record { site = c.loop-i-test.true; few = (sizes-passed c.args.sites.sizes.now (sym c.bad_sizes.ensures ∙ c.if-bad_sizes.false)).1 }

pub returns-in_err-cause_at : goal.returns-in_err-cause_at
returns-in_err-cause_at c =
    let s = lent c.args.sites in
    let here = c.in_err-cause_at.ensures in
    let hit = first-hit (cause_at s) c.loop-i.i (site_count s) c.loop-i-test.true (λ z. refusal-some _ (here ∙ z)) in
    passed-on c.from_residual.result _ c.from_residual.ensures.1 ∙ here ∙ sym hit ∙ c.loop-i.invariant ∙ cause-first s (sym c.bad_sizes.ensures ∙ c.if-bad_sizes.false)

pub loop-i-preserved : goal.loop-i-preserved
loop-i-preserved c =
    let s = lent c.args.sites in
    first-miss (cause_at s) c.loop-i.i (site_count s) c.loop-i-test.true (sym c.in_ok-cause_at.ensures) ∙ c.loop-i.invariant

pub returns : goal.returns
returns c =
    let s = lent c.args.sites in
    first_done (cause_at s) c.loop-i.i (site_count s) (omega arith) ∙ c.loop-i.invariant ∙ cause-first s (sym c.bad_sizes.ensures ∙ c.if-bad_sizes.false)
