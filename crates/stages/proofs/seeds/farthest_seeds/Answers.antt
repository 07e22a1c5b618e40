use native.Mathlib.Omega.{arith}
use Rattle.stages.specs.Level.{rows_at}
use Rattle.stages.proofs.SeedsLaws.{seeded-none, choosing, picks, picked, all-seeded, search_for}
use Rattle.stages.proofs.seeds.farthest_seeds.Goals as goal

pub loop-r-init : goal.loop-r-init
loop-r-init c = λ w P e. seeded-none P _ e

pub next_seed-s-requires : goal.next_seed-s-requires
next_seed-s-requires c =
    choosing c.requires
    (c.loop-r.invariant _ c.requires c.fill_part.ensures)

pub lower-requires : goal.lower-requires
lower-requires c =
    let K =
    c.loop-r.invariant _ c.requires
    c.fill_part.ensures in
    (search_for (rows_at c.args.work.now c.args.l) c.loop-r.r, picks c.requires K _ c.loop-r-test.true c.next_seed-s.ensures)

pub loop-r-preserved : goal.loop-r-preserved
loop-r-preserved c =
    let a = c.args in
    let l = c.loop-r in
    let t = c.loop-r-test.true in
    let s = c.next_seed-s in
    λ w P e.
    let K = l.invariant w P e in
    picked P K _ t s.ensures
    (c.lower.ensures (search_for (rows_at w a.l) l.r) (picks P K _ t s.ensures))

pub returns : goal.returns
returns c =
    all-seeded c.requires (omega arith)
    (c.loop-r.invariant _ c.requires c.fill_part.ensures)
