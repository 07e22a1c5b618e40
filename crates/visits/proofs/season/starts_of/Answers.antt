use Rattle.std.proofs.Common.{arith}
use Rattle.visits.proofs.SeasonLaws.{start-low, started-more}
use Rattle.visits.proofs.season.starts_of.Goals as goal

pub overflow_add-starts : goal.overflow_add-starts
overflow_add-starts c =
    let low = start-low c.args.counts.now c.loop-rank.starts c.requires c.loop-rank.rank c.loop-rank-test.true c.loop-rank.invariant in
    record { fits = omega (arith, low) }

pub loop-rank-preserved : goal.loop-rank-preserved
loop-rank-preserved c = started-more c.args.counts.now c.loop-rank.starts c.requires c.loop-rank.rank c.loop-rank-test.true c.loop-rank.invariant
