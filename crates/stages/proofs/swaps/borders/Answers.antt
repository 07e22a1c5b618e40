-- Each neighbor is asked for its owner. Assumes nothing.
use Prim.Native.Nat.{ℕ}
use mathlib.Core.Path.{ap, ◌∙◌}
use mathlib.Core.Bool.{not}
use native.Mathlib.Omega.{arith}
use lib.Dec.{eqb}
use lib.ListN.{length}
use mathlib.Core.List.{List}
use Rattle.std.proofs.lemmas.Grind.{get_or_default_zero}
use Rattle.stages.proofs.LevelLaws.{length-owners}
use Rattle.std.proofs.Common.{rules, tests}
use Rattle.std.proofs.lemmas.Iterator.{YieldsList-from_slice}
use Rattle.std.proofs.lemmas.Iterator.Search.{any_from_yields_List}
use Rattle.std.proofs.lemmas.Iterator.Adapters.{serves_from_places}
use Rattle.links.specs.Lists.{at}
use Rattle.links.proofs.ChainLaws.{any-chain}
use Rattle.stages.specs.Level.{owners_at}
use Rattle.stages.specs.SwapsCode.{bordering}
use Rattle.stages.proofs.SwapsSliceLaws.{whole, row_under}
use Rattle.stages.proofs.swaps.borders.Goals as goal

pub any-requires-clause-callable : goal.any-requires-clause-callable
any-requires-clause-callable c =
    let g = c.requires.0 in
    let below = row_under g c.args.v c.requires.1 in
    serves_from_places (YieldsList-from_slice c.row.result.now cc) (λ x q k. search rules)
    (λ x k h e _ _ _ _ _ _ _ _ _.
    let u = e ∙ get_or_default_zero c.row.result.now k x.now h ∙ ap (λ (xs : List ℕ). at xs k) c.row.ensures in
    (whole g, omega (arith, u, below k (omega (arith, ap length c.row.ensures)), length-owners g.ready)))

pub returns : goal.returns
unfolding bordering
returns c =
    let os = owners_at c.args.w.now c.args.s.level in
    let p = λ (u : ℕ). not (eqb (at os u) (at os c.args.v)) in
    let e = any_from_yields_List p _ _ _ c.any.ensures.ran (YieldsList-from_slice c.row.result.now cc) (λ x b q k. search (rules, tests)) in
    e ∙ any-chain p c.row.result.now ∙ rw c.row.ensures
