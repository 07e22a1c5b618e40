-- The invariant: the proposals of the ranks before a are taken. Assumes nothing.
use Prim.Native.Nat.{ℕ, ◌*◌, ◌≤◌}
use mathlib.Core.List.{List}
use Rattle.stages.specs.Level.{rows_at}
use Rattle.stages.specs.SwapsCode.{Holding, Taken, ranks_proposals}
use Rattle.stages.proofs.swaps.swap_ranks.Given as goal

abbrev pub invariant-loop-a : goal.invariant-loop-a
invariant-loop-a l =
    (l.done ≤ 36864 * l.a)
    × ((owners : List ℕ) → Holding l.initial.work l.s owners → Taken l.initial.work l.work l.s l.done (ranks_proposals l.s.list_length (rows_at l.initial.work l.s.level) owners l.s.limits.ranks l.a))
