-- The invariant: what the places from j on make of the proposals so far is what all make of the first ones. Assumes nothing.
use Rattle.stages.specs.Level.{rows_at}
use Rattle.stages.specs.Slots.{proposal, slots}
use Rattle.stages.specs.SwapsCode.{Within, proposed}
use Rattle.stages.proofs.KeyLaws.{Walk}
use Rattle.stages.proofs.swaps.propose_row.Given as goal

abbrev pub invariant-loop-y : goal.invariant-loop-y
invariant-loop-y l =
    Walk (proposed l.room (rows_at l.w l.s.level) l.x) (Within l.s.level.vertices) l.back (slots proposal l.room l.initial.list) l.y-index (slots proposal l.room l.list)
