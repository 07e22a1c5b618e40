-- A vertex's row lies where its offsets say, and no mark is its own yet. Assumes nothing.
use Rattle.multilevel.proofs.MeasureLaws.{vertex-legible, vertex-met}
use Rattle.multilevel.proofs.measure.meet_vertex.Goals as goal

pub meet_row-requires : goal.meet_row-requires
meet_row-requires c = vertex-legible _ _ _ _ c.requires.0 c.args.v c.requires.1 c.requires.2

pub returns : goal.returns
returns c = vertex-met _ _ _ _ c.requires.0 c.args.v c.requires.1 c.meet_row.new.work c.meet_row.result c.meet_row.ensures
