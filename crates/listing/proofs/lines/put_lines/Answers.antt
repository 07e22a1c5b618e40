use native.Mathlib.Omega.{arith}
use Rattle.multilevel.proofs.FileWriteLaws.{written_none}
use Rattle.listing.specs.Listing.{lines_text}
use Rattle.listing.proofs.LineLaws.{lines_none, lines_more}
use Rattle.listing.proofs.TextLaws.{joined, written_as}
use Rattle.listing.proofs.lines.put_lines.Goals as goal

pub loop-v-init : goal.loop-v-init
loop-v-init c =
    let a = c.args in
    (omega arith, written_none (lines_text a.owners.now 0) a.from a.text.now (lines_none a.owners.now))

pub loop-v-preserved : goal.loop-v-preserved
loop-v-preserved c =
    let l = c.loop-v in
    (omega arith, written_as (joined l.invariant.1 c.put_line-at.ensures.written) (lines_more c.args.owners.now l.v))
