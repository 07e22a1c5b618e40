-- The best so far as the code keeps it: a number, unassigned for none. Assumes nothing.
use Rattle.std.specs.Prelude.{ℕ, Bool, cond, eqb}
use Rattle.std.proofs.Math.Option.{Option, none, some}
use Rattle.links.specs.Lists.{unassigned}

-- what the number stands for
abbrev pub held : ℕ → Option ℕ
held b = cond (eqb b unassigned) none (some b)

-- the better of the best so far and x, if x passes the test
unfoldable pub step_best : (ℕ → ℕ → Bool) → (ℕ → Bool) → ℕ → ℕ → ℕ
step_best better ok b x = cond (ok x) (cond (eqb b unassigned) x (cond (better x b) x b)) b
