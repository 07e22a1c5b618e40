-- The invariant: the places of the ranks up to this one are there. Assumes nothing.
use Rattle.visits.specs.SeasonCode.{Started}
use Rattle.visits.proofs.season.starts_of.Given as goal

abbrev pub invariant-loop-rank : goal.invariant-loop-rank
invariant-loop-rank l = Started l.counts l.starts l.rank
