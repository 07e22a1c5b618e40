-- The neighbors that rank r owns are counted; each is a place of the owners. Assumes nothing.
use mathlib.Core.Path.{◌≡◌, ap, ◌∙◌}
use Prim.Native.Nat.{ℕ}
use native.Mathlib.Omega.{arith}
use lib.Dec.{eqb}
use lib.ListN.{length}
use Rattle.std.proofs.Common.{rules}
use Rattle.std.specs.List.{count_by}
use Rattle.std.proofs.lemmas.Grind.{get_or_default_zero}
use Rattle.std.proofs.lemmas.Iterator.{YieldsList-from_slice}
use Rattle.std.proofs.lemmas.Iterator.Adapters.{serves_from_places}
use Rattle.std.proofs.lemmas.List.Sums.{count_by-le-length}
use Rattle.links.specs.Lists.{at}
use Rattle.links.specs.Graph.{links_in}
use Rattle.links.proofs.ChainLaws.{count-chain}
use Rattle.stages.proofs.swaps.links_in.Goals as goal

pub count-requires-clause-can : goal.count-requires-clause-can
count-requires-clause-can c =
    let owners = ap (λ p. length p.0.now) c.filter.ensures.closure in (
      tt,
      tt,
      serves_from_places (YieldsList-from_slice c.args.row.now cc) (λ x q k. search rules) (λ x k h e y i. (
        λ _ _ _ _ _ _ f. omega (arith, f),
        λ _ _ _ _ _ _ f g.
            let u : y.now.now ≡ at c.args.row.now k = ap (λ z. z.now) i ∙ e ∙ get_or_default_zero c.args.row.now k x.now h in
            omega (arith, c.requires.1 k h, owners),
      )),
    )

pub returns : goal.returns
unfolding links_in
returns c =
    let owned = λ (u : ℕ). eqb (at c.args.owners.now u) c.args.r in
    let e : c.count.result ≡ count_by owned c.args.row.now = search rules in
    (omega (arith, count_by-le-length owned c.args.row.now), e ∙ count-chain owned c.args.row.now)
