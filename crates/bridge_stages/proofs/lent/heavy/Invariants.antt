-- The invariant: with what is left, the sum so far is the sum of all. Assumes nothing.
use Rattle.std.proofs.Common.{◌≡◌, ◌+◌, ◌<◌, ◌^◌, drop}
use Rattle.links.specs.Lists.{sum}
use Rattle.bridge_stages.proofs.lent.heavy.Given as goal

abbrev pub invariant-loop-weight : goal.invariant-loop-weight
invariant-loop-weight l = (l.total < 2 ^ 31) × (l.total + sum (drop l.weight-index l.weights) ≡ sum l.weights)
