-- A number, a word with a number, and the end of the line, one after the other. Assumes nothing.
use mathlib.Core.List.{append_assoc}
use native.Mathlib.Omega.{arith}
use Rattle.listing.specs.Listing.{line_text}
use Rattle.listing.proofs.TextLaws.{joined, written_as}
use Rattle.listing.proofs.lines.put_line.Goals as goal

pub returns : goal.returns
unfolding line_text
returns c =
    let vertex = c.put_number-a.ensures.written in
    let rank = c.put_field-b.ensures.written in
    let end = c.put.ensures in
    record { written = written_as (joined (joined vertex rank) end) (simp (c.from.ensures, append_assoc)); upper_bound = omega (arith, end.end_is) }
