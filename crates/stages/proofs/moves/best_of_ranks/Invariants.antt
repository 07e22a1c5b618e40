-- The invariant: the best is that of the ranks below r. Assumes nothing.
use mathlib.Core.Path.{◌≡◌}
use Rattle.stages.specs.MovesCode.{best_rank}
use Rattle.stages.proofs.moves.best_of_ranks.Given as goal

abbrev pub invariant-loop-r : goal.invariant-loop-r
invariant-loop-r l = l.best ≡ best_rank l.work l.s.scratch l.s.limits l.weight l.home l.r
