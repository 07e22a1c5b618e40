-- The loop keeps that what it passed is closed. Assumes nothing.
use Prim.Native.Nat.{ℕ, ◌≤◌, ◌<◌}
use mathlib.Core.Path.{◌≡◌}
use mathlib.Core.Bool.{false}
use Rattle.links.specs.Lists.{at}
use Rattle.stages.specs.FrontierCode.{opens}
use Rattle.stages.proofs.growth.Claimant.first_open.Given as goal

abbrev pub invariant-loop-p : goal.invariant-loop-p
invariant-loop-p l =
    (i : ℕ) → l.from ≤ i → i < l.p → opens l.self.cap l.self.weights.now l.self.owners.now l.self.load (at l.order i) ≡ false
