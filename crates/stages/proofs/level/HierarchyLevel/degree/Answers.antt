-- Two offsets of the slice bound the vertex's row. Assumes nothing.
use mathlib.Core.Path.{sym}
use Rattle.stages.proofs.LevelLaws.{degree_apart}
use Rattle.stages.proofs.level.HierarchyLevel.degree.Goals as goal

pub returns : goal.returns
returns c = sym (degree_apart c.requires.0 c.args.v c.requires.1)
