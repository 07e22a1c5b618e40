-- The invariant: the ranks of the owners before v have their numbers. Assumes nothing.
use Rattle.compare.proofs.NumberLaws.{Numbering}
use Rattle.compare.proofs.numbers.numbers_of.Given as goal

abbrev pub invariant-loop-owner : goal.invariant-loop-owner
invariant-loop-owner l = Numbering l.owners l.numbers l.count l.owner-index
