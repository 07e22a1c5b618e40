-- The invariant: what the places from i on make of the proposals so far is what all make of the first ones. Assumes nothing.
use Rattle.links.specs.Lists.{foldl}
use Rattle.stages.specs.Level.{rows_at}
use Rattle.stages.specs.Keys.{filled}
use Rattle.stages.specs.Slots.{proposal, slots}
use Rattle.stages.specs.SwapsCode.{Within, proposed}
use Rattle.stages.proofs.KeyLaws.{Walk}
use Rattle.stages.proofs.swaps.propose_all.Given as goal

abbrev pub invariant-loop-x : goal.invariant-loop-x
invariant-loop-x l =
    Walk (λ ps x. foldl (proposed l.room (rows_at l.w l.s.level) x) ps (filled l.back)) (Within l.s.level.vertices) l.fore (slots proposal l.room l.initial.list) l.x-index (slots proposal l.room l.list)
