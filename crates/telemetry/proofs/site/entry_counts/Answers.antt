use Rattle.std.proofs.Common.{◌<◌, refl, arith}
use Rattle.links.proofs.RowLaws.{all-place}
use Rattle.telemetry.proofs.SiteLaws.{tallied-fits, tallied-more, tallied-done}
use Rattle.telemetry.proofs.site.entry_counts.Goals as goal

pub overflow_add-counts : goal.overflow_add-counts
overflow_add-counts c =
    let below = all-place (λ o. o < 256) c.args.owners.now c.loop-v.v c.requires.1 c.loop-v-test.true in
    record { fits = tallied-fits _ _ _ c.requires.0 _ c.loop-v.v c.loop-v.invariant c.loop-v-test.true _ c.neighbors_of-row.ensures _ refl below }

pub loop-v-preserved : goal.loop-v-preserved
loop-v-preserved c = tallied-more _ _ _ c.requires.0 _ c.loop-v.v c.loop-v.invariant c.loop-v-test.true _ c.neighbors_of-row.ensures _ refl

pub returns : goal.returns
returns c = tallied-done _ _ _ c.requires.0 _ c.loop-v.v c.loop-v.invariant (omega arith)
