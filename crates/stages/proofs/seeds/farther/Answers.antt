-- The better of two: the cases of the code are those of the definition. Assumes nothing.
use native.Mathlib.Omega.{arith}
use Rattle.stages.specs.SeedsCode.{from, degree_at}
use Rattle.stages.proofs.SeedsLaws.{seed-stays, more-leads, less-stays, degree-leads, tie-stays}
use Rattle.stages.proofs.seeds.farther.Goals as goal
use Rattle.stages.proofs.seeds.farther.Goals.{else-a-b-via-then-a-b+else-degree_of, else-a-b-via-else-a-b}

pub returns-then-a-eq0 : goal.returns-then-a-eq0
returns-then-a-eq0 c =
    let a = c.args in seed-stays (from a.work.now a.scratch) (degree_at a.work.now a.l) a.best a.i c.if-a-eq0.true

pub returns-then-b-a : goal.returns-then-b-a
returns-then-b-a c =
    let a = c.args in
    more-leads (from a.work.now a.scratch) (degree_at a.work.now a.l) a.best a.i c.if-a-eq0.false c.if-b-a.true

pub returns-then-degree_of : goal.returns-then-degree_of
returns-then-degree_of c =
    let a = c.args in
    degree-leads (from a.work.now a.scratch) (degree_at a.work.now a.l) a.best a.i c.if-a-eq0.false c.if-a-b.true
    (omega (arith, c.if-degree_of.true, c.degree_of.ensures, c.degree_of-then-a-b.ensures))

pub returns : goal.returns
returns c =
    let a = c.args in
    elim c.else-a-b.branch [
      | else-a-b-via-then-a-b+else-degree_of w ↦
          tie-stays (from a.work.now a.scratch) (degree_at a.work.now a.l) a.best a.i c.if-a-eq0.false w.if-a-b.true
          (omega (arith, w.if-degree_of.false, w.degree_of.ensures, w.degree_of-then-a-b.ensures))
      | else-a-b-via-else-a-b w ↦
          less-stays (from a.work.now a.scratch) (degree_at a.work.now a.l) a.best a.i c.if-a-eq0.false c.if-b-a.false w.if-a-b.false
    ]
