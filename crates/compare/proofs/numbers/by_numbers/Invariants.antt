-- The invariant: what is left of the lists decides as the whole lists do. Assumes nothing.
use Rattle.std.proofs.Common.{◌≡◌, map, drop}
use Rattle.links.specs.Lists.{at}
use Rattle.compare.specs.Order.{by_numbers}
use Rattle.compare.proofs.numbers.by_numbers.Given as goal

abbrev pub invariant-loop-v : goal.invariant-loop-v
invariant-loop-v l = by_numbers (map (at l.one) (drop l.v l.first)) (map (at l.other) (drop l.v l.second)) ≡ by_numbers (map (at l.one) l.first) (map (at l.other) l.second)
