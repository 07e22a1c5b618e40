-- The invariant: from low up to high the search finds what it finds in the whole row. Assumes nothing.
use Prim.Native.Nat.{◌-◌, ◌≤◌}
use mathlib.Core.Path.{◌≡◌}
use lib.ListN.{length}
use Rattle.links.specs.ListTest.{found_between, found}
use Rattle.links.proofs.lists.holds.Given as goal

abbrev pub invariant-loop-low : goal.invariant-loop-low
invariant-loop-low l =
    (l.low ≤ l.high) × (l.high ≤ length l.row) × (found_between l.row l.x (l.high - l.low) l.low l.high ≡ found l.row l.x)

abbrev pub decreases-loop-low : goal.decreases-loop-low
decreases-loop-low l = l.high - l.low
