use Prim.Native.Nat.{ℕ, ◌+◌, ◌<◌}
use mathlib.Core.Path.{◌≡◌, ap, ◌∙◌}
use mathlib.Core.List.{List}
use native.Mathlib.Omega.{arith}
use Rattle.links.specs.Lists.{at}
use Rattle.links.specs.Parts.{part}
use Rattle.links.proofs.PartLaws.{length_part, get_or-part}
use Rattle.stages.specs.Level.{owners_at}
use Rattle.stages.specs.MovesCode.{tempts}
use Rattle.stages.proofs.MovesTurnLaws.{owner-ranked, tempted-start, tempted-here, tempted-next}
use Rattle.stages.proofs.moves.tempted.Goals.{In-loop-u}
use Rattle.stages.proofs.moves.tempted.Goals as goal

-- the neighbor is a vertex, and its owner a rank
ranked
    : (c : In-loop-u)
    → (at c.row-u-items.result.now c.loop-u.u-index < c.args.s.level.vertices)
    × (at (owners_at c.args.work.now c.args.s.level) (at c.row-u-items.result.now c.loop-u.u-index) < c.args.s.limits.ranks)
ranked c = owner-ranked c.requires.0 c.args.v c.requires.1 c.row-u-items.result.now c.row-u-items.ensures c.loop-u.u-index c.loop-u-test.true

-- the load that was read is that of the neighbor's owner
abbrev owner : In-loop-u → ℕ
owner c = at (owners_at c.args.work.now c.args.s.level) (at c.row-u-items.result.now c.loop-u.u-index)

load-is
    : (c : In-loop-u)
    → at (part c.args.work.now c.args.s.scratch (c.args.s.scratch + c.args.s.limits.ranks)) (owner c) ≡ at c.args.work.now (c.args.s.scratch + owner c)
load-is c = get_or-part c.args.work.now c.args.s.scratch (c.args.s.scratch + c.args.s.limits.ranks) (owner c) (omega (arith, ranked c))

pub loop-u-init : goal.loop-u-init
loop-u-init c = tempted-start c.args.s.limits c.requires.0 c.args.v

pub bounds-owners-u : goal.bounds-owners-u
bounds-owners-u c =
    let l = c.args.s.level in
    omega (arith, ranked (goal.at.bounds-owners-u c).In-loop-u, length_part c.args.work.now l.owners (l.owners + l.vertices) (omega arith) (omega (arith, c.requires.0.ready.laid.owners-in, c.requires.0.room)))

pub bounds-loads-r : goal.bounds-loads-r
bounds-loads-r c =
    let s = c.args.s in
    omega (arith, ranked (goal.at.bounds-loads-r c).In-loop-u, length_part c.args.work.now s.scratch (s.scratch + s.limits.ranks) (omega arith) (omega (arith, c.requires.0.room)))

pub returns-then-tempts : goal.returns-then-tempts
returns-then-tempts c =
    let k = (goal.at.returns-then-tempts c).In-loop-u in
    let t = c.tempts in
    let e = c.row-u-items.ensures in
    tempted-here c.args.s.limits c.requires.0 c.args.v c.owner_in-home.result c.weight_in-weight.result c.loop-u.u-index (owner k)
    c.owner_in-home.ensures c.weight_in-weight.ensures (rw e at c.loop-u-test.true)
    (ap (λ (us : List ℕ). at (owners_at c.args.work.now c.args.s.level) (at us c.loop-u.u-index)) e) (ranked k).1
    t.result (t.ensures ∙ ap (λ (x : ℕ). tempts c.args.s.limits.cap c.weight_in-weight.result x c.owner_in-home.result (owner k)) (load-is k))
    c.loop-u.invariant c.if-tempts.true

pub loop-u-preserved : goal.loop-u-preserved
loop-u-preserved c =
    let k = (goal.at.loop-u-preserved c).In-loop-u in
    let t = c.tempts in
    let e = c.row-u-items.ensures in
    tempted-next c.args.s.limits c.requires.0 c.args.v c.owner_in-home.result c.weight_in-weight.result c.loop-u.u-index (owner k)
    c.owner_in-home.ensures c.weight_in-weight.ensures (rw e at c.loop-u-test.true)
    (ap (λ (us : List ℕ). at (owners_at c.args.work.now c.args.s.level) (at us c.loop-u.u-index)) e) (ranked k).1
    t.result (t.ensures ∙ ap (λ (x : ℕ). tempts c.args.s.limits.cap c.weight_in-weight.result x c.owner_in-home.result (owner k)) (load-is k))
    c.loop-u.invariant c.if-tempts.false
