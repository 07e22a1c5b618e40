use mathlib.Core.Path.{refl}
use Rattle.stages.specs.SeedsCode.{from}
use Rattle.stages.proofs.LoweringLaws.{relaxing, scan-turn, scan-ends}
use Rattle.stages.proofs.seeds.scan.Goals as goal

pub relax-tail-requires : goal.relax-tail-requires
relax-tail-requires c =
    let l = c.loop-j in
    let P = c.requires in
    relaxing P.2 l.j l.auto.j c.loop-j-test.true (l.invariant P.0 P.1 P.2) _ _ refl refl

pub loop-j-preserved : goal.loop-j-preserved
loop-j-preserved c =
    let a = c.args in
    let l = c.loop-j in
    let r = c.relax-tail in
    λ g h P.
    rw (r.ensures.tail, r.ensures.after)
    (scan-turn P l.j l.auto.j c.loop-j-test.true (l.invariant g h P) (from l.work a.l.neighbors l.j) (from a.work.now a.scratch a.u) refl refl)

pub returns : goal.returns
returns c =
    let l = c.loop-j in
    λ g h P. scan-ends P l.j l.auto.j c.loop-j-test.false (l.invariant g h P)
