-- The loop keeps the search at the next neighbor of u. Assumes nothing.
use Prim.Native.Nat.{ℕ, ◌-◌}
use Rattle.stages.specs.SeedsCode.{from, Search, Scannable, ScannedTo}
use Rattle.stages.proofs.seeds.scan.Given as goal

abbrev pub invariant-loop-j : goal.invariant-loop-j
invariant-loop-j l =
    (g : Search) (h : ℕ) → Scannable g h l.initial.work l.l l.scratch l.u l.t → ScannedTo g h l.initial.work l.work l.l l.scratch l.u l.tail (l.j - from l.initial.work l.l.offsets l.u)
