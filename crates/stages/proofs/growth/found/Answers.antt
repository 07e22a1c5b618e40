-- The candidate on the parts that are lent for it. Assumes nothing.
use native.Mathlib.Omega.{arith}
use mathlib.Core.Path.{ap}
use borrow.Author.Tests.{eq-eqb, ne_eqb}
use Rattle.std.specs.Prelude.{ℕ, Some}
use Rattle.stages.specs.FrontierCode.{rows_in, candidate_at}
use Rattle.stages.proofs.GrowthSliceLaws.{found-lent}
use Rattle.stages.proofs.growth.found.Goals as goal

pub returns-then-here-eq0 : goal.returns-then-here-eq0
unfolding candidate_at
returns-then-here-eq0 c = rw (eq-eqb _ _ c.if-here-eq0.true)

pub neighbor-requires : goal.neighbor-requires
neighbor-requires c =
    let h = c.args.here in
    let f = found-lent c.requires.0 h.head h.place h.count c.requires.1 in
    let k = f.1 (omega (arith, c.if-here-eq0.false)) in
    (f.0, k.0, k.1)

pub returns : goal.returns
unfolding candidate_at rows_in
returns c = rw (ne_eqb _ _ c.if-here-eq0.false) (ap (λ (g : ℕ). Some g) c.neighbor.ensures)
