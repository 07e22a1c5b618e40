-- Two stores of the memory; the load fits by the premise. Assumes nothing.
use native.Mathlib.Omega.{arith}
use Prim.Native.Nat.{ℕ, ◌+◌}
use mathlib.Core.Path.{refl, ap₂}
use Rattle.links.specs.Lists.{at}
use Rattle.stages.specs.FrontierCode.{weights_in}
use Rattle.stages.proofs.GrowthMemoryLaws.{own_is, read-load, read-weight}
use Rattle.stages.proofs.growth.own.Goals as goal

pub overflow_add-load-3 : goal.overflow_add-load-3
overflow_add-load-3 c =
    let a = c.args in
    let p = c.requires in
    record { fits = omega (arith, read-load a.work.now p.0 a.r p.1, read-weight a.room a.work.now a.g p.2, p.3) }

pub returns : goal.returns
returns c =
    let a = c.args in
    let p = c.requires in
    own_is p.0 a.r p.1 a.g (at (weights_in a.room a.work.now) a.g) _ p.2
    (ap₂ (λ (y z : ℕ). y + z) (read-load a.work.now p.0 a.r p.1) (read-weight a.room a.work.now a.g p.2))
    refl refl
