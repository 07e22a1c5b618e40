-- The invariant: the proposals of the slots before j are taken. Assumes nothing.
use Prim.Native.Nat.{◌≤◌}
use mathlib.Core.List.{List, []}
use Rattle.stages.specs.Swaps.{Proposal}
use Rattle.stages.specs.Slots.{proposal}
use Rattle.stages.specs.SwapsCode.{Named, Taken}
use Rattle.stages.proofs.SlotLaws.{Walk}
use Rattle.stages.proofs.SwapListLaws.{snoc}
use Rattle.stages.proofs.swaps.take_all.Given as goal

abbrev pub invariant-loop-j : goal.invariant-loop-j
invariant-loop-j l =
    (l.done ≤ l.j)
    × ((ps : List Proposal) × Walk proposal snoc (Named l.s.level.vertices) l.n l.list [] l.j ps × Taken l.initial.work l.work l.s l.done ps)
