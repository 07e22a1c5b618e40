use Prim.Native.Nat.{◌+◌, ◌<◌}
use mathlib.Core.Path.{◌≡◌, refl}
use native.Mathlib.Omega.{arith}
use lib.ListN.{length}
use Rattle.links.specs.Lists.{at}
use Rattle.stages.specs.Level.{offsets_at}
use Rattle.stages.proofs.TallySliceLaws.{rises, owner-asks, owner-in, clear-start, clear-turn, clear-end}
use borrow.Author.Rules.{rules}
use Rattle.stages.proofs.moves.untally.Goals.{After-owner_at-r}
use Rattle.stages.proofs.moves.untally.Goals as goal

-- the rank of a turn
within : (c : After-owner_at-r) → c.args.tallies + c.owner_at-r.result < length c.args.work.now
within c =
    let h = owner-in c.requires.0 c.requires.1 c.loop-i.invariant.kept c.loop-i.i (omega arith) (omega arith) c.owner_at-r.result c.owner_at-r.ensures in
    omega (arith, c.requires.0.room)

pub loop-i-init : goal.loop-i-init
loop-i-init c = rw c.row_start-i.ensures (clear-start c.requires.0 c.requires.1 c.requires.2)

pub owner_at-r-requires : goal.owner_at-r-requires
owner_at-r-requires c = owner-asks c.requires.0 c.requires.1 c.loop-i.invariant.kept c.loop-i.i (omega arith) (omega arith)

pub overflow_add-work : goal.overflow_add-work
overflow_add-work c = let h = within (goal.at.overflow_add-work c).After-owner_at-r in omega arith

pub offset_bounds-work-tallies : goal.offset_bounds-work-tallies
offset_bounds-work-tallies c = let h = within (goal.at.offset_bounds-work-tallies c).After-owner_at-r in search rules

pub bounds-work-tallies : goal.bounds-work-tallies
bounds-work-tallies c = let h = within (goal.at.bounds-work-tallies c).After-owner_at-r in omega arith

pub loop-i-preserved : goal.loop-i-preserved
loop-i-preserved c =
    clear-turn c.requires.0 c.requires.1 c.loop-i.invariant (omega arith) (omega arith) c.owner_at-r.result c.owner_at-r.ensures _ refl

pub returns : goal.returns
returns c =
    let r = rises c.requires.0 c.requires.1 in
    let e : c.loop-i.i ≡ at (offsets_at c.args.work.now c.args.l) (c.args.v + 1) = omega arith in
    clear-end c.requires.0 c.requires.1 (rw e at c.loop-i.invariant)
