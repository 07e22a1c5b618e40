use lib.ListN.{length}
use native.Mathlib.Omega.{arith}
use Rattle.multilevel.proofs.FileWriteLaws.{end_fits, row_next, row-end, row-start, written-length}
use Rattle.multilevel.proofs.file.write_row.Goals as goal

pub loop-i-init : goal.loop-i-init
loop-i-init c = row-start c.args.file.bytes.now c.args.v c.args.from c.args.neighbors.now

pub write_end-at-requires : goal.write_end-at-requires
write_end-at-requires c =
    let a = c.args in
    let l = c.loop-i in
    (omega arith, end_fits a.file.bytes.now c.requires.0 a.v a.from l.at l.i (length l.neighbors) (omega (arith, c.args.file.sized.links)) l.invariant.end_is (omega (arith, c.requires.1, written-length _ _ _ _ _ l.invariant)))

pub loop-i-preserved : goal.loop-i-preserved
loop-i-preserved c =
    let a = c.args in
    let l = c.loop-i in
    row_next a.file.bytes.now c.requires.0 a.v a.from l.i a.neighbors.now l.neighbors _ l.at _ l.invariant c.write_end-at.ensures

pub returns : goal.returns
returns c =
    let a = c.args in
    let l = c.loop-i in
    row-end a.file.bytes.now c.requires.0 a.v a.from l.i a.neighbors.now l.neighbors l.at (omega (arith, c.args.file.sized.links)) l.invariant
