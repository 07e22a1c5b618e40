-- The two offsets bound the row, a part of the work slice. Assumes nothing.
use mathlib.Core.Path.{sym}
use native.Mathlib.Omega.{arith}
use Rattle.stages.proofs.LevelLaws.{row_cut}
use Rattle.stages.proofs.level.HierarchyLevel.row.Goals as goal

pub slice_bounds-result-end : goal.slice_bounds-result-end
slice_bounds-result-end c = omega (arith, row_cut c.requires.0 c.args.v c.requires.1)

pub returns : goal.returns
returns c = sym (row_cut c.requires.0 c.args.v c.requires.1).2
