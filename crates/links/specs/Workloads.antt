-- Document 02's workloads, "from 1 to 10,000", and cause 13. Assumes nothing.
use Rattle.std.specs.Prelude.{ℕ, Bool, not, ◌||◌, cond, List, length, ltb, eqb}
use Rattle.links.specs.Lists.{any}

-- "a workload of 0 or above 10,000"
unfoldable pub bad_workload : ℕ → Bool
bad_workload w = eqb w 0 || ltb 10000 w

-- that, "or a workload slice not n long"
unfoldable pub bad_workloads : ℕ → List ℕ → Bool
bad_workloads n workloads = not (eqb (length workloads) n) || any bad_workload workloads

unfoldable pub workloads_cause : ℕ → List ℕ → ℕ
workloads_cause n workloads = cond (bad_workloads n workloads) 13 0
