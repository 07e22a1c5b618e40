-- Three cases: the owner is rank a, was met before, or is met now. Assumes nothing.
use Prim.Native.Nat.{◌<◌}
use native.Mathlib.Omega.{arith}
use lib.ListN.{length-set}
use Rattle.links.specs.Lists.{at}
use Rattle.stages.specs.Level.{neighbors_at}
use Rattle.stages.proofs.ListingLaws.{entry-own, entry-met, entry-sorted, entry_new}
use Rattle.stages.proofs.swaps.offer_entry.Goals.{After-owner_at-b}
use Rattle.stages.proofs.swaps.offer_entry.Goals as goal

-- the owner that is met is a rank
met : (c : After-owner_at-b) → c.owner_at-b.result < c.args.s.limits.ranks
met c =
    let a = c.args in
    let p = c.requires in
    omega (arith, c.owner_at-b.ensures, p.0.ranked (at (neighbors_at a.work.now a.s.level) a.i) p.3)

pub returns-then-b-a : goal.returns-then-b-a
returns-then-b-a c = entry-own c.owner_at-b.result c.owner_at-b.ensures c.requires.4 c.if-b-a.true

pub returns-then-there-eq0 : goal.returns-then-there-eq0
returns-then-there-eq0 c = entry-met c.owner_at-b.result c.owner_at-b.ensures c.requires.4 c.if-b-a.false c.if-there-eq0.true

pub offer_part-requires : goal.offer_part-requires
offer_part-requires c =
    let p = c.requires in
    let l = c.list_at in (
      simp length-set (omega (arith, l.ensures.1, p.0.lists-in, p.0.few-listed)),
      omega (arith, p.0.some-listed),
      c.key_of.ensures.0,
      entry-sorted c.args.a c.owner_at-b.result p.0 p.1 (met (goal.at.offer_part-requires c).After-owner_at-b) p.4 l.result l.ensures.0,
    )

pub returns : goal.returns
returns c =
    let p = c.requires in
    let o = c.owner_at-b in
    let x = c.key_of in
    let l = c.list_at in
    entry_new o.result o.ensures p.0 p.4 p.1 (met (goal.at.returns c).After-owner_at-b) c.if-b-a.false c.if-there-eq0.false c.offer_part.new.work
    l.result x.result l.ensures.0 x.ensures.1 c.offer_part.ensures
