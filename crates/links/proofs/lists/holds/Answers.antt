use Prim.Native.Nat.{◌+◌, ◌-◌, ◌/◌, ◌<◌}
use mathlib.Core.Path.{◌≡◌, sym, ◌∙◌}
use native.Mathlib.Omega.{arith}
use Rattle.links.specs.Lists.{at}
use Rattle.links.proofs.HalvingLaws.{found-whole, found-later, found-earlier}
use Rattle.links.proofs.lists.holds.Goals as goal

pub loop-low-init : goal.loop-low-init
loop-low-init c = (omega arith, omega arith, found-whole c.args.row.now c.args.x)

pub loop-low-preserved-then-u-x-2 : goal.loop-low-preserved-then-u-x-2
loop-low-preserved-then-u-x-2 c =
    let l = c.loop-low in
    let a = c.args in
    (omega arith, l.invariant.1, sym (found-later a.row.now a.x l.low l.high (omega arith) (omega arith)) ∙ l.invariant.2)

pub loop-low-preserved : goal.loop-low-preserved
loop-low-preserved c =
    let l = c.loop-low in
    let a = c.args in
    let m = l.low + (l.high - l.low) / 2 in
    let d : at a.row.now m ≡ a.x → ⊥ = λ q. c.if-u-x.false q in
    let u : a.x < at a.row.now m = omega arith in
    (omega arith, omega arith, sym (found-earlier a.row.now a.x l.low l.high (omega arith) u) ∙ l.invariant.2)
