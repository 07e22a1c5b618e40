use mathlib.Core.Path.{◌≡◌}
use native.Mathlib.Omega.{arith}
use native.Mathlib.Numerals.{add-one}
use Rattle.multilevel.specs.File.{vertex_count_of}
use Rattle.multilevel.proofs.FileWorkloadLaws.{length-workloads}
use Rattle.multilevel.proofs.FileWriteLaws.{front-next, front-end}
use Rattle.multilevel.proofs.file.write_workloads.Goals as goal

pub loop-v-preserved : goal.loop-v-preserved
loop-v-preserved c =
    let l = c.loop-v in
    rw add-one (front-next _ _ _ l.v l.invariant _ (omega (arith, length-workloads c.args.file.bytes.now)) (omega arith) c.workload.ensures)

pub returns : goal.returns
returns c =
    let l = c.loop-v in
    let e : l.v ≡ vertex_count_of c.args.file.bytes.now = omega arith in
    rw e at (front-end _ _ _ l.v l.invariant (omega (arith, e, length-workloads c.args.file.bytes.now)))
