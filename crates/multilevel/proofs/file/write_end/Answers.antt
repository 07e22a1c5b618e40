-- The link's other end if v is one of its ends, or nothing. Assumes nothing.
use mathlib.Core.Path.{sym, ◌∙◌, ap}
use lib.ListN.{length}
use native.Mathlib.Omega.{arith}
use Rattle.multilevel.proofs.FileWriteLaws.{other-low, other-high, other_none, written_one, written_none}
use Rattle.multilevel.proofs.file.write_end.Goals as goal

pub bounds-neighbors-at : goal.bounds-neighbors-at
bounds-neighbors-at c =
    let a = c.args in
    omega (arith, c.requires.1, ap length (other-low a.file.bytes.now a.v a.i (sym c.low_end-low.ensures ∙ c.if-low-v.true)))

pub returns-then-low-v : goal.returns-then-low-v
returns-then-low-v c =
    let a = c.args in
    written_one _ a.at a.neighbors.now _ _ (other-low a.file.bytes.now a.v a.i (sym c.low_end-low.ensures ∙ c.if-low-v.true)) c.high_end-high.ensures

pub bounds-neighbors-at-then-high-v : goal.bounds-neighbors-at-then-high-v
bounds-neighbors-at-then-high-v c =
    let a = c.args in
    omega (arith, c.requires.1, ap length (other-high a.file.bytes.now a.v a.i (λ e. c.if-low-v.false (c.low_end-low.ensures ∙ e)) (sym c.high_end-high.ensures ∙ c.if-high-v.true)))

pub returns-then-high-v : goal.returns-then-high-v
returns-then-high-v c =
    let a = c.args in
    written_one _ a.at a.neighbors.now _ _ (other-high a.file.bytes.now a.v a.i (λ e. c.if-low-v.false (c.low_end-low.ensures ∙ e)) (sym c.high_end-high.ensures ∙ c.if-high-v.true)) c.low_end-low.ensures

pub returns : goal.returns
returns c =
    let a = c.args in
    written_none _ a.at a.neighbors.now (other_none a.file.bytes.now a.v a.i (λ e. c.if-low-v.false (c.low_end-low.ensures ∙ e)) (λ e. c.if-high-v.false (c.high_end-high.ensures ∙ e)))
