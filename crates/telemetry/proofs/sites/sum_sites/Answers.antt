use Rattle.std.proofs.Common.{◌≡◌, refl, ◌∙◌, arith}
use Rattle.telemetry.specs.Sites.{site_count}
use Rattle.telemetry.specs.SitesCode.{lent, sum_to}
use Rattle.telemetry.proofs.SitesLaws.{summed, small_at, sum-next, totals-are}
use Rattle.telemetry.proofs.sites.sum_sites.Goals as goal

pub loop-i-init : goal.loop-i-init
unfolding sum_to
loop-i-init c = refl

pub with_site-sum-requires : goal.with_site-sum-requires
with_site-sum-requires c =
    let s = lent c.args.sites in
    rw (c.loop-i.invariant, c.count_at.ensures) ((summed s c.requires c.loop-i.i (omega arith)).small, small_at s c.requires c.loop-i.i c.loop-i-test.true, omega (arith, c.loop-i-test.true, c.requires.few))

pub loop-i-preserved : goal.loop-i-preserved
loop-i-preserved c =
    c.with_site-sum.ensures ∙ rw (c.loop-i.invariant, c.count_at.ensures) (sum-next (lent c.args.sites) c.requires c.loop-i.i)

pub returns : goal.returns
returns c =
    let s = lent c.args.sites in
    let end : c.loop-i.i ≡ site_count s = omega arith in
    totals-are s c.requires _ (rw (c.loop-i.invariant, end))
