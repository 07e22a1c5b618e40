-- The word with the number and the end of the line fit into the room that was tested. Assumes nothing.
use mathlib.Core.List.{append_assoc}
use native.Mathlib.Omega.{arith}
use Rattle.listing.specs.Listing.{refusal_text}
use Rattle.listing.proofs.TextLaws.{joined, written_as, told}
use Rattle.listing.proofs.lines.write_refusal.Goals as goal

pub returns : goal.returns
unfolding refusal_text
returns c =
    let w = joined c.put_field-a.ensures.written c.put.ensures in
    let v = written_as {ys = refusal_text c.args.number} w (simp (c.from.ensures, append_assoc)) in
    told (omega (arith, v.end_is, c.put.ensures.end_is)) (omega arith) v
