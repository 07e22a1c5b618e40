-- The invariant: the days before v are written, the rest is as it was, and each rank's vertices before v are counted. Assumes nothing.
use Rattle.std.proofs.Common.{◌≡◌, ◌++◌, length, take, drop}
use Rattle.links.specs.Parts.{table}
use Rattle.links.specs.Graph.{owned}
use Rattle.visits.specs.Season.{visit_day}
use Rattle.visits.proofs.season.write_days.Given as goal

abbrev pub invariant-loop-v : goal.invariant-loop-v
invariant-loop-v l = (length l.visits ≡ length l.initial.visits) × (l.met ≡ table (owned (take l.v l.owners)) 256) × (l.visits ≡ table (visit_day l.owners l.counts l.days) l.v ++ drop l.v l.initial.visits)
