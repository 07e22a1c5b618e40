use Prim.Native.Nat.{ℕ}
use mathlib.Core.Path.{◌≡◌, refl, ap, ◌∙◌}
use mathlib.Core.List.{List}
use native.Mathlib.Omega.{arith}
use lib.ListN.{set, length-set}
use Rattle.links.specs.Lists.{at}
use Rattle.links.proofs.PartLaws.{copy_more, copy_done}
use Rattle.links.proofs.parts.copy_into.Goals as goal

pub loop-i-init : goal.loop-i-init
loop-i-init c = (refl, refl)

pub loop-i-preserved : goal.loop-i-preserved
loop-i-preserved c =
    let l = c.loop-i in
    let a = c.args in
    (simp length-set l.invariant.0, ap (λ (d : List ℕ). set d l.i (at a.src.now l.i)) l.invariant.1 ∙ copy_more a.src.now a.dst.now l.i (omega (arith, c.min-n.ensures)) (omega (arith, c.min-n.ensures)))

pub returns : goal.returns
returns c =
    let a = c.args in
    let e : c.loop-i.i ≡ c.min-n.result = omega arith in
    c.loop-i.invariant.1 ∙ rw (e, c.min-n.ensures) (copy_done a.src.now a.dst.now)
