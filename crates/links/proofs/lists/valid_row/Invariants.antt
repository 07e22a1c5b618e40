-- The invariant: what is left is valid and starts above the last one passed, just where the whole is valid. Assumes nothing.
use Rattle.std.proofs.Common.{◌≡◌, drop}
use Rattle.links.specs.ListTest.{valid_row}
use Rattle.links.proofs.ListTestLaws.{valid_from}
use Rattle.links.proofs.lists.valid_row.Given as goal

abbrev pub invariant-loop-x : goal.invariant-loop-x
invariant-loop-x l = valid_from l.n l.v l.least (drop l.x-index l.row) ≡ valid_row l.n l.v l.row
