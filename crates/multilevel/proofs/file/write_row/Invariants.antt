-- The invariant: of v's row the ends of the links before i are written. Assumes nothing.
use Rattle.multilevel.specs.File.{Written, row_up_to}
use Rattle.multilevel.proofs.file.write_row.Given as goal

abbrev pub invariant-loop-i : goal.invariant-loop-i
invariant-loop-i l = Written (row_up_to l.file.bytes.now l.v l.i) l.from l.initial.neighbors l.neighbors l.at
