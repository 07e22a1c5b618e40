use native.Mathlib.Omega.{arith}
use Prim.Native.Nat.{◌+◌}
use mathlib.Core.Path.{◌≡◌, refl}
use lib.ListN.{length, set, length-set}
use Rattle.stages.proofs.LoweringLaws.{low-begins, tail-le, low-scans, low-next, low-ends}
use Rattle.stages.proofs.seeds.lower.Goals as goal

pub loop-h-init : goal.loop-h-init
loop-h-init c = λ g w P e. low-begins P _ _ _ refl refl e

pub overflow_add-u : goal.overflow_add-u
overflow_add-u c =
    let h =
    tail-le c.requires.1
    (c.loop-h.invariant c.requires.0 _ c.requires.1 refl) in
    record { fits = omega (arith, c.loop-h-test.true, c.well_formed.0.0) }

pub offset_bounds-work-queue-in-loop-h : goal.offset_bounds-work-queue-in-loop-h
offset_bounds-work-queue-in-loop-h c =
    let h =
    tail-le c.requires.1
    (c.loop-h.invariant c.requires.0 _ c.requires.1 refl) in
    omega (arith, c.loop-h-test.true, c.well_formed.0)

pub bounds-work-queue-in-loop-h : goal.bounds-work-queue-in-loop-h
bounds-work-queue-in-loop-h c =
    let L = c.loop-h.invariant c.requires.0 _ c.requires.1 refl in
    omega (arith, tail-le c.requires.1 L, L.kept.same_length, c.loop-h-test.true)

pub scan-t-requires : goal.scan-t-requires
scan-t-requires c =
    let P = c.requires in
    let L = c.loop-h.invariant P.0 _ P.1 refl in
    (P.0, c.loop-h.h, low-scans P.1 L _ refl c.loop-h-test.true)

pub overflow_add-h : goal.overflow_add-h
overflow_add-h c =
    let h =
    tail-le c.requires.1
    (c.loop-h.invariant c.requires.0 _ c.requires.1 refl) in
    record { fits = omega (arith, c.loop-h-test.true, c.well_formed.0.0) }

pub loop-h-smaller : goal.loop-h-smaller
loop-h-smaller c =
    let a = c.args in
    let h =
    tail-le c.requires.1
    (c.loop-h.invariant c.requires.0 _ c.requires.1 refl) in
    let e : length (set (set a.work.now (a.scratch + a.s) 0) (a.scratch + a.l.vertices) a.s) ≡ length a.work.now =
    simp length-set in
    omega (arith, c.loop-h-test.true)

pub loop-h-preserved : goal.loop-h-preserved
loop-h-preserved c =
    let l = c.loop-h in
    λ g w P e.
    let L = l.invariant g w P e in
    low-next P L
    (c.scan-t.ensures g l.h (low-scans P L _ refl c.loop-h-test.true))

pub returns : goal.returns
returns c = λ g P. low-ends P (c.loop-h.invariant g _ P refl) c.loop-h-test.false
