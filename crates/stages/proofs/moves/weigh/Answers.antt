use Prim.Native.Nat.{◌+◌, ◌<◌}
use mathlib.Core.Path.{◌≡◌, refl}
use native.Mathlib.Omega.{arith}
use lib.ListN.{length}
use Rattle.stages.proofs.LoadSliceLaws.{weigh-asks, rank-in, weigh-fits, weigh-turn, weigh-end}
use Rattle.stages.proofs.moves.weigh.Goals.{After-owner_in-r}
use Rattle.stages.proofs.moves.weigh.Goals as goal

-- the rank of a turn
within : (c : After-owner_in-r) → c.args.loads + c.owner_in-r.result < length c.args.work.now
within c =
    let h = rank-in c.requires.0 c.loop-v.invariant c.loop-v-test.true c.owner_in-r.result c.owner_in-r.ensures in
    omega (arith, c.requires.0.room)

pub owner_in-r-requires : goal.owner_in-r-requires
owner_in-r-requires c = (weigh-asks c.requires.0 c.loop-v.invariant.kept, c.loop-v-test.true)

pub weight_in-requires : goal.weight_in-requires
weight_in-requires c = (weigh-asks c.requires.0 c.loop-v.invariant.kept, c.loop-v-test.true)

pub overflow_add-work : goal.overflow_add-work
overflow_add-work c = let h = within (goal.at.overflow_add-work c).After-owner_in-r in omega arith

pub offset_bounds-work-loads : goal.offset_bounds-work-loads
offset_bounds-work-loads c = let h = within (goal.at.offset_bounds-work-loads c).After-owner_in-r in omega arith

pub bounds-work-loads : goal.bounds-work-loads
bounds-work-loads c = let h = within (goal.at.bounds-work-loads c).After-owner_in-r in omega arith

pub overflow_add-work-in-loop-v : goal.overflow_add-work-in-loop-v
overflow_add-work-in-loop-v c =
    let f = weigh-fits c.requires.0 c.loop-v.invariant c.loop-v-test.true c.owner_in-r.result c.owner_in-r.ensures c.weight_in.result c.weight_in.ensures in
    omega arith

pub bounds-work-loads-in-loop-v : goal.bounds-work-loads-in-loop-v
bounds-work-loads-in-loop-v c = let h = within (goal.at.bounds-work-loads-in-loop-v c).After-owner_in-r in omega arith

pub loop-v-preserved : goal.loop-v-preserved
loop-v-preserved c =
    weigh-turn c.requires.0 c.loop-v.invariant c.loop-v-test.true c.owner_in-r.result c.owner_in-r.ensures c.weight_in.result c.weight_in.ensures _ refl

pub returns : goal.returns
returns c =
    let e : c.loop-v.v ≡ c.args.l.vertices = omega arith in
    weigh-end c.requires.0 (rw e at c.loop-v.invariant)
