-- The invariant: the proposals of rank a and the later ones before b are taken. Assumes nothing.
use Prim.Native.Nat.{ℕ, ◌*◌, ◌≤◌}
use mathlib.Core.List.{List}
use Rattle.stages.specs.Level.{rows_at}
use Rattle.stages.specs.SwapsCode.{Holding, Taken, rank_proposals}
use Rattle.stages.proofs.swaps.swap_rank.Given as goal

abbrev pub invariant-loop-b : goal.invariant-loop-b
invariant-loop-b l =
    (l.done ≤ 144 * l.b)
    × ((owners : List ℕ) → Holding l.initial.work l.s owners → Taken l.initial.work l.work l.s l.done (rank_proposals l.s.list_length (rows_at l.initial.work l.s.level) owners l.a l.b))
