-- The invariant: the windows from i on are good behind the last end just where all are. Assumes nothing.
use Prim.Native.Nat.{◌*◌}
use mathlib.Core.Path.{◌≡◌}
use lib.ListN.{drop}
use Rattle.visits.specs.Season.{windows_in, good_from}
use Rattle.visits.proofs.windows.good_windows.Given as goal

abbrev pub invariant-loop-i : goal.invariant-loop-i
invariant-loop-i l = good_from l.before (windows_in (drop (2 * l.i) l.windows)) ≡ good_from 0 (windows_in l.windows)
