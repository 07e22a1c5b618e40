-- The invariant: from v on there is a bad workload just where there is one at all. Assumes nothing.
use Rattle.std.proofs.Common.{◌≡◌, drop}
use Rattle.links.specs.Lists.{any}
use Rattle.links.specs.Workloads.{bad_workload}
use Rattle.multilevel.specs.File.{file_workloads}
use Rattle.multilevel.proofs.link_file.LinkFile.workload_bad.Given as goal

abbrev pub invariant-loop-v : goal.invariant-loop-v
invariant-loop-v l = any bad_workload (drop l.v (file_workloads l.self.bytes.now)) ≡ any bad_workload (file_workloads l.self.bytes.now)
