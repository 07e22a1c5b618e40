-- The invariant: with the days from i on, the count is that of all. Assumes nothing.
use Prim.Native.Nat.{◌+◌, ◌*◌, ◌≤◌}
use mathlib.Core.Path.{◌≡◌}
use lib.ListN.{length, drop}
use Rattle.visits.specs.Season.{windows_in}
use Rattle.visits.specs.SeasonCode.{spanned}
use Rattle.visits.proofs.windows.count_days.Given as goal

abbrev pub invariant-loop-i : goal.invariant-loop-i
invariant-loop-i l = (l.count + length (spanned (windows_in (drop (2 * l.i) l.windows))) ≡ length (spanned (windows_in l.windows))) × (l.count ≤ 4294967296 * l.i)
