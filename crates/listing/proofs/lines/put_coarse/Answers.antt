-- Four words with their numbers, one after the other. Assumes nothing.
use borrow.Author.Rules.{rules}
use Rattle.listing.specs.Listing.{coarse_text}
use Rattle.listing.proofs.LineLaws.{coarse-text}
use Rattle.listing.proofs.TextLaws.{joined, written_as}
use Rattle.listing.proofs.lines.put_coarse.Goals as goal

pub returns : goal.returns
unfolding coarse_text
returns c =
    let a = c.put_field-a.ensures.written in
    let b = c.put_field-b.ensures.written in
    let d = c.put_field-c.ensures.written in
    let e = c.put_field.ensures.written in
    record { written = written_as (joined (joined (joined a b) d) e) (coarse-text c.args.s); upper_bound = search rules }
