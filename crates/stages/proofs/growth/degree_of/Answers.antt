-- How many neighbors a vertex has: two offsets apart. Assumes nothing.
use mathlib.Core.Path.{sym}
use Rattle.links.proofs.RowLaws.{length-row}
use Rattle.stages.proofs.growth.degree_of.Goals as goal

pub returns : goal.returns
returns c =
    let a = c.args in
    sym (length-row a.offsets.now a.neighbors.now c.requires.0 a.v c.requires.1)
