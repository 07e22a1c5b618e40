-- The three cases of a turn: a claim, a restart, a pass. Assumes nothing.
use mathlib.Core.Path.{refl}
use Rattle.stages.proofs.GrowthSliceLaws.{behind-advanced, behind-claimed, advanced-open, restart-open, turn-claim, turn-restart, turn-pass}
use Rattle.stages.proofs.growth.turn.Goals as goal

pub claim-requires : goal.claim-requires
claim-requires c =
    let p = c.requires in
    let a = c.in-Some.ensures in
    (a.ready, p.1, advanced-open p.0 p.1 a c.in-Some.g refl)

pub returns-in-Some : goal.returns-in-Some
returns-in-Some c =
    let p = c.requires in
    let a = c.in-Some.ensures in
    let g = c.in-Some.g in
    let o = advanced-open p.0 p.1 a g refl in
    let m = c.claim.ensures in
    (turn-claim p.0 p.1 a g m o refl, behind-claimed a.ready p.1 m o (behind-advanced p.0 a p.2))

pub restart_for-requires : goal.restart_for-requires
restart_for-requires c =
    let p = c.requires in
    let a = c.advance.ensures in
    (a.ready, p.1, behind-advanced p.0 a p.2)

pub claim-requires-in-Some-restart_for : goal.claim-requires-in-Some-restart_for
claim-requires-in-Some-restart_for c =
    let p = c.requires in
    let b = c.args in
    let d = c.advance.ensures.ready in
    let f = c.in-Some-restart_for in
    (d, p.1, restart-open b.cap b.r d p.1 f.g f.ensures.0)

pub returns-in-Some-restart_for : goal.returns-in-Some-restart_for
returns-in-Some-restart_for c =
    let p = c.requires in
    let b = c.args in
    let a = c.in_default.ensures in
    let f = c.in-Some-restart_for in
    let o = restart-open b.cap b.r a.ready p.1 f.g f.ensures.0 in
    let m = c.claim-in-Some-restart_for.ensures in
    (turn-restart p.0 p.1 a f.g m o refl f.ensures.0, behind-claimed a.ready p.1 m o f.ensures.1)

pub returns : goal.returns
returns c =
    let p = c.requires in
    let f = c.in_default-restart_for.ensures in
    (turn-pass p.0 p.1 c.in_default.ensures refl f.0, f.1)
