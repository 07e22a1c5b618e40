use lib.ListN.{length-set}
use native.Mathlib.Omega.{arith}
use Rattle.multilevel.proofs.FileWriteLaws.{rowing_start, rowing-next, rowing-end, row_fits, end-small}
use Rattle.multilevel.proofs.file.write_rows.Goals as goal

pub loop-v-init : goal.loop-v-init
loop-v-init c =
    let a = c.args in
    rowing_start a.file.bytes.now a.offsets.now a.neighbors.now (omega (arith, c.requires.3))

pub write_row-at-requires : goal.write_row-at-requires
write_row-at-requires c =
    let l = c.loop-v in
    (c.requires.0, row_fits c.args.file.bytes.now c.requires.0 _ _ _ _ _ l.v l.invariant (omega arith) (omega (arith, c.requires.4, c.args.file.sized.links)))

pub overflow_cast-offsets : goal.overflow_cast-offsets
overflow_cast-offsets c =
    let l = c.loop-v in
    let f = c.args.file.sized in
    omega (arith, c.write_row-at.ensures.end_is, end-small c.args.file.bytes.now c.requires.0 _ _ _ _ _ l.v l.invariant (omega arith), f.links, f.few)

pub loop-v-preserved : goal.loop-v-preserved
loop-v-preserved c =
    let l = c.loop-v in
    rowing-next c.args.file.bytes.now c.requires.0 _ _ _ _ _ l.v l.invariant (omega arith) _ _ (omega (arith, c.requires.3, length-set c.args.offsets.now 0 0)) c.write_row-at.ensures

pub returns : goal.returns
returns c =
    let l = c.loop-v in
    rowing-end c.args.file.bytes.now c.requires.0 c.args.offsets.now _ _ _ l.at l.v (omega arith) (omega (arith, c.requires.4, c.args.file.sized.links)) l.invariant
