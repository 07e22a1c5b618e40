use Rattle.std.proofs.Common.{◌≡◌, ◌<◌, ◌≤◌, length, true, sym, ap, ◌∙◌, arith}
use lib.ListN.{drop_of_length-le}
use Rattle.links.specs.Lists.{at}
use Rattle.links.specs.Workloads.{bad_workload}
use Rattle.links.proofs.ListLaws.{any-yes}
use Rattle.multilevel.specs.File.{file_workloads}
use Rattle.multilevel.proofs.FileWorkloadLaws.{length-workloads}
use Rattle.multilevel.proofs.link_file.LinkFile.workload_bad.Goals as goal

pub returns-then-bad_workload : goal.returns-then-bad_workload
returns-then-bad_workload c =
    let ws = file_workloads c.args.self.bytes.now in
    let v = c.loop-v.v in
    let h : v < length ws = omega (arith, length-workloads c.args.self.bytes.now) in
    let bad : bad_workload (at ws v) ≡ true = ap bad_workload (sym c.workload.ensures) ∙ sym c.bad_workload.ensures ∙ c.if-bad_workload.true in
    sym (sym c.loop-v.invariant ∙ any-yes ws v h bad_workload bad)

pub returns : goal.returns
returns c =
    let ws = file_workloads c.args.self.bytes.now in
    let h : length ws ≤ c.loop-v.v = omega (arith, length-workloads c.args.self.bytes.now) in
    rw (drop_of_length-le ws h) at c.loop-v.invariant
