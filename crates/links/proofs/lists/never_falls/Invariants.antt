-- The invariant: what is left never falls and starts from the last one passed, just where the whole never falls. Assumes nothing.
use Rattle.std.proofs.Common.{◌≡◌, drop}
use Rattle.links.specs.Graph.{never_falling}
use Rattle.links.proofs.ListTestLaws.{falls_from}
use Rattle.links.proofs.lists.never_falls.Given as goal

abbrev pub invariant-loop-x : goal.invariant-loop-x
invariant-loop-x l = falls_from l.least (drop l.x-index l.xs) ≡ never_falling l.xs
