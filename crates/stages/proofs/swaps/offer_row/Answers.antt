use Prim.Native.Nat.{ℕ, ◌≤◌}
use mathlib.Core.Path.{◌≡◌, subst}
use native.Mathlib.Omega.{arith}
use Rattle.stages.specs.SwapsCode.{Offering}
use Rattle.stages.proofs.LevelLaws.{neighbors-kept, row-rises, row_ends, entry-below, beneath}
use Rattle.stages.proofs.ListingLaws.{given-kept, offering-start, offering-few}
use Rattle.stages.proofs.swaps.offer_row.Goals as goal

pub loop-i-init : goal.loop-i-init
loop-i-init c =
    let p = c.requires in
    (rw (c.row_start-i.ensures, c.row_start-i-end.ensures) (offering-start p.0 p.1 p.2 p.3), p.4)

pub offer_entry-requires : goal.offer_entry-requires
offer_entry-requires c =
    let a = c.args in
    let p = c.requires in
    let l = c.loop-i in
    let k = l.invariant.0.kept in
    let b = row_ends p.0.ready a.v p.1 in (
      given-kept p.0 k (omega (arith, p.0.used-in, p.0.loads-in)),
      rw p.2 (p.0.ranked a.v p.1),
      omega arith,
      rw (neighbors-kept p.0.ready k (beneath p.0.ready (omega (arith, p.0.used-in, p.0.loads-in, p.0.ready.laid.owners-in))))
          (entry-below p.0.ready a.v p.1 l.i (omega arith) (omega arith)),
      l.invariant.1,
      offering-few p.0 p.1 p.2 l.invariant.0,
      p.1,
    )

pub returns : goal.returns
returns c =
    let a = c.args in
    let l = c.loop-i in
    let e = c.row_start-i-end.ensures in
    let h = row-rises c.requires.0.ready a.v c.requires.1 in
    let n : c.row_start-i.result ≤ c.row_start-i-end.result = omega arith in
    let i : l.i ≡ c.row_start-i-end.result = omega (arith, l.auto.i-end n) in
    (subst (λ (z : ℕ). Offering a.work.now l.work a.s a.a a.v z z) e (rw i at l.invariant.0), l.invariant.1)
