-- The two halves and the end of the line, one after the other. Assumes nothing.
use mathlib.Core.List.{append_assoc}
use native.Mathlib.Omega.{arith}
use Rattle.listing.specs.Listing.{stats_text}
use Rattle.listing.proofs.TextLaws.{joined, written_as}
use Rattle.listing.proofs.lines.put_stats.Goals as goal

pub returns : goal.returns
unfolding stats_text
returns c =
    let coarse = c.put_coarse-a.ensures.written in
    let fine = c.put_fine-b.ensures.written in
    let end = c.put.ensures in
    record { written = written_as (joined (joined coarse fine) end) (simp append_assoc); upper_bound = omega (arith, end.end_is) }
