-- A neighbor lies where its row starts and as far on as its place. Assumes nothing.
use native.Mathlib.Omega.{arith}
use Prim.Native.Nat.{◌+◌}
use mathlib.Core.Path.{sym}
use Rattle.links.proofs.RowLaws.{length-row, row_at, offsets-fit}
use Rattle.stages.proofs.growth.neighbor.Goals as goal

pub bounds-neighbors-start : goal.bounds-neighbors-start
bounds-neighbors-start c =
    let a = c.args in
    let p = c.requires in
    omega (arith, length-row a.offsets.now a.neighbors.now p.0 a.v p.1, offsets-fit a.offsets.now a.neighbors.now p.0 (a.v + 1) (omega arith))

pub returns : goal.returns
returns c =
    let a = c.args in
    let p = c.requires in
    sym (row_at a.offsets.now a.neighbors.now p.0 a.v p.1 a.i p.2)
