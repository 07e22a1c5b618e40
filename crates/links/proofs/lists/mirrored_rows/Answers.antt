use Rattle.std.proofs.Common.{◌∙◌, rules, tests, refl, arith}
use Rattle.std.proofs.lemmas.Iterator.{YieldsList-from_range}
use Rattle.std.proofs.lemmas.Iterator.Search.{all_from_yields_List}
use Rattle.links.specs.ListTest.{mirrored_row, mirrored_rows}
use Rattle.links.proofs.ChainLaws.{all-chain, range-chain}
use Rattle.links.proofs.lists.mirrored_rows.Goals as goal

pub returns : goal.returns
unfolding mirrored_rows
returns c =
    let n = c.vertex_count.result in
    let p = mirrored_row c.args.offsets.now c.args.neighbors.now in
    rw (← c.vertex_count.ensures, ← range-chain 0 n)
    (all_from_yields_List p _ _ _ c.all.ensures.ran (YieldsList-from_range 0 n n refl (omega arith)) (λ x b q k. search (rules, tests)) ∙ all-chain p _)
