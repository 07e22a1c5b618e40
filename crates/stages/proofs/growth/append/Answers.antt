-- Three stores of the memory, the first at the chain's last entry. Assumes nothing.
use native.Mathlib.Omega.{arith}
use Prim.Native.Nat.{ℕ, ◌+◌}
use mathlib.Core.Path.{refl, ap}
use Rattle.stages.proofs.GrowthMemoryLaws.{append-is, read-tail, read_count}
use Rattle.stages.proofs.growth.append.Goals as goal

pub overflow_add-count-2 : goal.overflow_add-count-2
overflow_add-count-2 c =
    let a = c.args in
    record { fits = omega (arith, read_count a.work.now c.requires.0 a.r c.requires.1, c.requires.2) }

pub bounds-work-room-3 : goal.bounds-work-room-3
bounds-work-room-3 c =
    let a = c.args in
    let h = c.requires.0 in
    omega (arith, read-tail a.work.now h a.r c.requires.1, c.requires.3)

pub returns : goal.returns
returns c =
    let a = c.args in
    let h = c.requires.0 in
    let q = c.requires.1 in
    let t = read-tail a.work.now h a.r q in
    append-is h a.r q _ _ a.g t
    (omega (arith, t, c.requires.3))
    (ap (λ (x : ℕ). x + 1) (read_count a.work.now h a.r q))
    refl refl refl
