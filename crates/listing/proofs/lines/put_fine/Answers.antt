-- Four words with their numbers, one after the other. Assumes nothing.
use Prim.Native.Nat.{◌/◌}
use borrow.Author.Rules.{rules}
use Rattle.listing.specs.Listing.{fine_text}
use Rattle.listing.proofs.LineLaws.{fine-text}
use Rattle.listing.proofs.TextLaws.{joined, written_as}
use Rattle.listing.proofs.lines.put_fine.Goals as goal

pub returns : goal.returns
unfolding fine_text
returns c =
    let s = c.args.s in
    let pieces = joined (joined (joined c.put_field-a.ensures.written c.put_field-b.ensures.written) c.put_field-c.ensures.written) c.put_field.ensures.written in
    record { written = written_as pieces (fine-text (s.final_cut_nnz / 2) s); upper_bound = search rules }
