-- The invariant: with what is left of the row, the count is that of the row. Assumes nothing.
use Rattle.std.proofs.Common.{◌≡◌, ◌+◌, ◌≤◌, drop}
use Rattle.links.specs.Graph.{foreign_in}
use Rattle.links.proofs.cut.foreign.Given as goal

abbrev pub invariant-loop-u : goal.invariant-loop-u
invariant-loop-u l = (l.x ≤ l.u-index) × (l.x + foreign_in (drop l.u-index l.row) l.owners l.home ≡ foreign_in l.row l.owners l.home)
