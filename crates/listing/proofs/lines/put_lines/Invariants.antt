-- The invariant: the lines of the vertices passed are written from `from` on, in at most 42 bytes each. Assumes nothing.
use Prim.Native.Nat.{◌+◌, ◌*◌, ◌≤◌}
use Rattle.multilevel.specs.File.{Written}
use Rattle.listing.specs.Listing.{lines_text}
use Rattle.listing.proofs.lines.put_lines.Given as goal

abbrev pub invariant-loop-v : goal.invariant-loop-v
invariant-loop-v l = (l.at ≤ l.from + 42 * l.v) × Written (lines_text l.owners l.v) l.from l.initial.text l.text l.at
