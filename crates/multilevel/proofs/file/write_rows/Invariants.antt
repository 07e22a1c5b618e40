-- The invariant: the rows of the vertices before v are written, and their offsets. Assumes nothing.
use Rattle.multilevel.proofs.FileWriteLaws.{Rowing}
use Rattle.multilevel.proofs.file.write_rows.Given as goal

abbrev pub invariant-loop-v : goal.invariant-loop-v
invariant-loop-v l = Rowing l.file.bytes.now l.initial.offsets l.offsets l.initial.neighbors l.neighbors l.at l.v
