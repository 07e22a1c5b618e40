-- What the steps of the sweep take and leave. Assumes nothing.
use Rattle.std.specs.Prelude.{ℕ, ◌+◌, ◌-◌, ◌≤◌, ◌<◌, ◌≡◌, List, length}
use Rattle.visits.specs.Crane.{sweep_after}
use Rattle.visits.specs.declared.crane.Sweep.{Sweep}

-- the count is what lies between the two places
pub record Counted (s : Sweep) : Type 0 where
  pub ordered : s.from ≤ s.to
  pub between : s.count ≡ s.to - s.from

-- what a step takes: both places lie inside the list
pub record Underway (w : ℕ) (days : List ℕ) (s : Sweep) : Type 0 where
  pub some : 1 ≤ w
  pub few : length days ≤ 16384
  pub inside : s.to < length days
  pub counted : Counted s

-- the sweep ends when all visits came in; each step raised one of the two places, so they add up to the number of steps
pub record Swept (w : ℕ) (days : List ℕ) (s : Sweep) : Type 0 where
  pub reached : s ≡ sweep_after w days (s.from + s.to)
  pub whole : s.to ≡ length days
