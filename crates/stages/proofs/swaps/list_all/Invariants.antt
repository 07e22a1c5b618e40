-- The invariant: each list holds what the vertices below v make of it. Assumes nothing.
use Prim.Native.Nat.{ℕ, ◌<◌}
use mathlib.Core.Path.{◌≡◌}
use lib.ListN.{length}
use Rattle.links.specs.Parts.{Kept}
use Rattle.stages.specs.Level.{rows_at, owners_at}
use Rattle.stages.specs.MovesCode.{Clear}
use Rattle.stages.specs.SwapsCode.{list_at, AllSorted}
use Rattle.stages.proofs.SwapListLaws.{listed_to}
use Rattle.stages.proofs.swaps.list_all.Given as goal

abbrev pub invariant-loop-v : goal.invariant-loop-v
invariant-loop-v l = record {
  kept : Kept l.s.tallies (length l.initial.work) l.work l.initial.work;
  clear : Clear l.work l.s.tallies l.s.limits.ranks;
  lists
      : (a b : ℕ) → a < l.s.limits.ranks → b < l.s.limits.ranks → (a ≡ b → ⊥)
      → list_at l.work l.s a b ≡ listed_to l.s.list_length (rows_at l.initial.work l.s.level) (owners_at l.initial.work l.s.level) a b l.v;
  sorted : AllSorted l.work l.s;
}
