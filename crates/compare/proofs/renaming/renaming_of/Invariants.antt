-- The invariant: the ranks of the vertices from v on have the names of the first of them. Assumes nothing.
use Rattle.compare.proofs.NumberLaws.{Naming}
use Rattle.compare.proofs.renaming.renaming_of.Given as goal

abbrev pub invariant-loop-v : goal.invariant-loop-v
invariant-loop-v l = Naming l.first l.second l.names l.v
