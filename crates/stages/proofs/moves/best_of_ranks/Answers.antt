use Rattle.stages.proofs.MovesTurnLaws.{rank-turn}
use Rattle.stages.proofs.moves.best_of_ranks.Goals as goal

pub loop-r-preserved : goal.loop-r-preserved
loop-r-preserved c =
    let a = c.args in
    rank-turn a.work.now a.s.scratch a.s.limits a.weight a.home c.loop-r.r c.loop-r.best c.offer_at.result c.better-best.result
    c.loop-r.invariant c.offer_at.ensures c.better-best.ensures
