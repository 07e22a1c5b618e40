use Rattle.std.proofs.Common.{◌∙◌, arith}
use Rattle.links.proofs.CutLaws.{cut-start, cut-more, cut-done}
use Rattle.links.proofs.cut.cut_entries.Goals as goal

pub loop-v-init : goal.loop-v-init
loop-v-init c =
    let a = c.args in
    (omega arith, rw (cut-start a.offsets.now a.neighbors.now a.owners.now))

pub loop-v-preserved : goal.loop-v-preserved
loop-v-preserved c =
    let a = c.args in
    let l = c.loop-v in
    let met = cut-more a.offsets.now a.neighbors.now a.owners.now l.x l.v (omega arith) in
    (omega arith, rw (c.saturating_add-x.ensures, c.foreign.ensures, c.number_at.ensures, c.neighbors_of-row.ensures) (met ∙ l.invariant.1))

pub returns : goal.returns
returns c =
    let a = c.args in
    let l = c.loop-v in
    let done = cut-done a.offsets.now a.neighbors.now a.owners.now l.x l.v (omega arith) in
    omega (arith, l.invariant.0, l.invariant.1, done)
