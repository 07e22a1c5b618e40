use Prim.Native.Nat.{◌+◌, ◌*◌}
use mathlib.Core.Path.{refl, ◌∙◌, subst}
use mathlib.Core.List.{[]}
use native.Mathlib.Omega.{arith}
use Rattle.links.specs.Lists.{at}
use Rattle.stages.specs.Slots.{proposal, slots}
use Rattle.stages.specs.SwapsCode.{Taken}
use Rattle.stages.proofs.SlotLaws.{walk_start, walk_end, walk-stop, walk_here, walk_turn}
use Rattle.stages.proofs.SwapListLaws.{snoc, snoc-all}
use Rattle.stages.proofs.SwapStepLaws.{taken_none, taken-then}
use Rattle.stages.proofs.swaps.take_all.Goals as goal

pub loop-j-init : goal.loop-j-init
loop-j-init c = (omega arith, ([], walk_start c.requires.3, taken_none c.requires.0))

pub try_swap-done-requires : goal.try_swap-done-requires
try_swap-done-requires c =
    let i = c.loop-j.invariant.1 in
    let m = walk_here i.1 c.loop-j-test.true c.if-list-j-eq0.false in
    (i.2.standing, m.first-in, m.second-in)

pub loop-j-preserved : goal.loop-j-preserved
loop-j-preserved c =
    let a = c.args in
    let l = c.loop-j in
    let i = l.invariant.1 in
    let t = c.try_swap-done in
    let g = at a.list.now (3 * l.j) in
    let p = proposal g (at a.list.now (3 * l.j + 1)) (at a.list.now (3 * l.j + 2)) in (
      omega (arith, t.ensures.0),
      (snoc i.0 p, walk_turn i.1 c.loop-j-test.true c.if-list-j-eq0.false (snoc i.0 p) refl, taken-then c.requires.0.given i.2 (t.ensures.1 g)),
    )

pub returns-then-list-j-eq0 : goal.returns-then-list-j-eq0
returns-then-list-j-eq0 c =
    let a = c.args in
    let l = c.loop-j in
    let e = walk-stop l.invariant.1.1 c.loop-j-test.true c.if-list-j-eq0.true ∙ snoc-all (slots proposal a.n a.list.now) in
    (omega arith, subst (Taken a.work.now l.work a.s l.done) e l.invariant.1.2)

pub returns-after-loop-j : goal.returns-after-loop-j
returns-after-loop-j c =
    let l = c.loop-j in
    let e = walk_end l.invariant.1.1 (omega arith) ∙ snoc-all (slots proposal c.args.n c.args.list.now) in
    (omega arith, subst (Taken c.args.work.now l.work c.args.s l.done) e l.invariant.1.2)
