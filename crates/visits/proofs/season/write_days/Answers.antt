use Rattle.std.proofs.Common.{◌≡◌, refl, sym, ap, ◌∙◌, length, arith}
use lib.ListN.{length-set}
use Rattle.links.specs.Lists.{at}
use Rattle.links.proofs.OwnerLaws.{owned-counts-none, owned-counts-more, owned-counts-few}
use Rattle.visits.specs.Season.{open_days, windows_of, visit_days}
use Rattle.visits.proofs.SeasonLaws.{part-there, part-days, written-more, owner-there}
use Rattle.visits.proofs.season.write_days.Goals as goal

pub loop-v-init : goal.loop-v-init
loop-v-init c = (refl, sym (owned-counts-none 256), refl)

pub windows_of-requires : goal.windows_of-requires
windows_of-requires c =
    let a = c.args in
    let there = (owner-there a.owners.now a.counts.now a.days.now _ c.requires c.loop-v.v c.loop-v-test.true).0 in
    part-there c.requires.good.laid c.starts_of-starts.ensures _ there

pub overflow_add-met : goal.overflow_add-met
overflow_add-met c =
    let l = c.loop-v in
    let rank = at c.args.owners.now l.v in
    record { fits = omega (arith, owned-counts-few c.args.owners.now l.v 256 rank, ap (λ m. at m rank) l.invariant.1) }

pub loop-v-preserved : goal.loop-v-preserved
loop-v-preserved c =
    let a = c.args in
    let l = c.loop-v in
    let h = c.loop-v-test.true in
    let o = at a.owners.now l.v in
    let there = owner-there a.owners.now a.counts.now a.days.now _ c.requires l.v h in
    let day : c.day_at.result ≡ at (open_days (windows_of a.counts.now a.days.now o)) (at l.met o) =
    c.day_at.ensures ∙ ap (λ ds. at ds (at l.met o)) (part-days c.requires.good c.starts_of-starts.ensures o there.0 _ c.windows_of.ensures) in (
      length-set l.visits l.v c.day_at.result ∙ l.invariant.0,
      rw l.invariant.1 (owned-counts-more a.owners.now l.v 256 h),
      written-more a.owners.now a.counts.now a.days.now l.visits a.visits.now l.met l.v c.day_at.result h c.requires.roomy there.1 l.invariant.1 day l.invariant.2,
    )

pub returns : goal.returns
unfolding visit_days
returns c =
    let l = c.loop-v in
    let e : l.v ≡ length c.args.owners.now = omega arith in
    rw e at l.invariant.2
