-- The loop keeps the search: those from h up to t wait, and there are never more than vertices. Assumes nothing.
use Prim.Native.Nat.{ℕ, ◌-◌}
use mathlib.Core.Path.{◌≡◌}
use mathlib.Core.List.{List}
use lib.ListN.{length, set}
use Rattle.stages.specs.SeedsCode.{Search, Lowerable, LoweredTo}
use Rattle.stages.proofs.seeds.lower.Given as goal

abbrev pub invariant-loop-h : goal.invariant-loop-h
invariant-loop-h l =
    (g : Search) (w : List ℕ) → Lowerable g w l.l l.scratch l.s → l.initial.work ≡ set (set w l.at 0) l.queue l.s → LoweredTo g w l.work l.l l.scratch l.h l.t

abbrev pub decreases-loop-h : goal.decreases-loop-h
decreases-loop-h l = length l.initial.work - l.h
