use Rattle.std.proofs.Common.{ℕ, ◌∙◌, rules, tests, refl, arith}
use Rattle.std.proofs.lemmas.Iterator.{YieldsList-from_range}
use Rattle.std.proofs.lemmas.Iterator.Search.{all_from_yields_List}
use Rattle.links.specs.Graph.{neighbors_of}
use Rattle.links.specs.ListTest.{valid_row, valid_rows}
use Rattle.links.proofs.ChainLaws.{all-chain, range-chain}
use Rattle.links.proofs.lists.valid_rows.Goals as goal

pub returns : goal.returns
unfolding valid_rows
returns c =
    let n = c.vertex_count-n.result in
    let p = λ (v : ℕ). valid_row n v (neighbors_of c.args.offsets.now c.args.neighbors.now v) in
    rw (← c.vertex_count-n.ensures, ← range-chain 0 n)
    (all_from_yields_List p _ _ _ c.all.ensures.ran (YieldsList-from_range 0 n n refl (omega arith)) (λ x b q k. search (rules, tests)) ∙ all-chain p _)
