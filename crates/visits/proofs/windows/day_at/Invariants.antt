-- The invariant: the day that is sought stands at place `left` of the days from i on. Assumes nothing.
use Prim.Native.Nat.{◌*◌}
use mathlib.Core.Path.{◌≡◌}
use lib.ListN.{drop}
use Rattle.links.specs.Lists.{at}
use Rattle.visits.specs.Season.{windows_in}
use Rattle.visits.specs.SeasonCode.{spanned}
use Rattle.visits.proofs.windows.day_at.Given as goal

abbrev pub invariant-loop-i : goal.invariant-loop-i
invariant-loop-i l = at (spanned (windows_in (drop (2 * l.i) l.windows))) l.left ≡ at (spanned (windows_in l.windows)) l.j
