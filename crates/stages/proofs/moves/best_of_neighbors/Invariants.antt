-- The invariant: the best is that of the neighbors before. At the end it is the target, by the laws of targets. Assumes nothing.
use mathlib.Core.Path.{◌≡◌}
use Rattle.stages.proofs.MovesTurnLaws.{best_to}
use Rattle.stages.proofs.moves.best_of_neighbors.Given as goal

abbrev pub invariant-loop-u : goal.invariant-loop-u
invariant-loop-u l = l.best ≡ best_to l.work l.s.level l.s.limits l.v l.u-index
