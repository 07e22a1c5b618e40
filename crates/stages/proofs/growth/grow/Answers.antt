use Prim.Native.Nat.{◌-◌}
use mathlib.Core.Path.{sym, ◌∙◌}
use native.Mathlib.Omega.{arith}
use borrow.Author.Tests.{eqb-true, eqb-false}
use Rattle.stages.proofs.GrowthSliceLaws.{behind-start}
use Rattle.stages.proofs.GrowthRoundLaws.{underway-start, underway-step, underway-stuck, underway-done}
use Rattle.stages.proofs.growth.grow.Goals as goal

pub loop-left-init : goal.loop-left-init
loop-left-init c =
    let a = c.args in
    (underway-start a.cap c.vacant_in-left.result c.requires c.vacant_in-left.ensures, behind-start a.cap a.room a.work.now)

pub returns-then-is_idle : goal.returns-then-is_idle
returns-then-is_idle c =
    let none = eqb-true (c.loop-left.left - c.round-t.result.claims) c.loop-left.left (sym c.is_idle.ensures ∙ c.if-is_idle.true) in
    underway-stuck c.requires c.loop-left.invariant.0 c.loop-left-test.true c.round-t.ensures.0 (omega (arith, none, c.loop-left-test.true))

pub loop-left-preserved : goal.loop-left-preserved
loop-left-preserved c =
    let r = c.round-t.ensures in
    let some = eqb-false (c.loop-left.left - c.round-t.result.claims) c.loop-left.left (sym c.is_idle.ensures ∙ c.if-is_idle.false) in
    (underway-step c.requires c.loop-left.invariant.0 c.loop-left-test.true r.0 (λ z. some (omega (arith, z))), r.1)

pub returns : goal.returns
returns c = underway-done c.requires c.loop-left.invariant.0 (omega arith)
