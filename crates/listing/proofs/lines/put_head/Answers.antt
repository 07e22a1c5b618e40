-- Two words with their numbers and the end of the line, one after the other. Assumes nothing.
use native.Mathlib.Omega.{arith}
use Rattle.listing.specs.Listing.{head_text}
use Rattle.listing.proofs.LineLaws.{head-text}
use Rattle.listing.proofs.TextLaws.{joined, written_as}
use Rattle.listing.proofs.lines.put_head.Goals as goal

pub returns : goal.returns
unfolding head_text
returns c =
    let vertices = c.put_field-a.ensures.written in
    let ranks = c.put_field-b.ensures.written in
    let end = c.put.ensures in
    let text = head-text c.args.n c.args.ranks c.from.result c.from.ensures in
    record { written = written_as (joined (joined vertices ranks) end) text; upper_bound = omega (arith, end.end_is) }
