-- The invariant: the workloads before v are written. Assumes nothing.
use mathlib.Core.Path.{◌≡◌}
use mathlib.Core.List.{◌++◌}
use lib.ListN.{take, drop}
use Rattle.multilevel.specs.File.{file_workloads}
use Rattle.multilevel.proofs.file.write_workloads.Given as goal

abbrev pub invariant-loop-v : goal.invariant-loop-v
invariant-loop-v l = (l.workloads ≡ take l.v (file_workloads l.file.bytes.now) ++ drop l.v l.initial.workloads)
