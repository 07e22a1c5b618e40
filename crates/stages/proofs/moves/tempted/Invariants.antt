-- The invariant: whether one tempts v among its neighbors from the u-index-th on is whether one does at all. Assumes nothing.
use mathlib.Core.Path.{◌≡◌}
use Rattle.stages.proofs.MovesTurnLaws.{tempted_from, tempted_at}
use Rattle.stages.proofs.moves.tempted.Given as goal

abbrev pub invariant-loop-u : goal.invariant-loop-u
invariant-loop-u l = tempted_from l.work l.s.level l.s.limits l.v l.u-index ≡ tempted_at l.work l.s.level l.s.limits l.v
