-- The owners by the tables' numbers are the renumbered owners. Assumes nothing.
use mathlib.Core.Path.{◌∙◌}
use Rattle.compare.proofs.NumberLaws.{numbered}
use Rattle.compare.proofs.numbers.by_owners.Goals as goal

pub returns : goal.returns
returns c =
    let a = c.args in
    c.by_numbers.ensures ∙ rw (numbered a.first.now _ c.numbers_of-one.ensures c.requires.0, numbered a.second.now _ c.numbers_of-other.ensures c.requires.1)
