use Rattle.std.proofs.Common.{ℕ, ◌∙◌, rules, tests}
use Rattle.std.proofs.lemmas.Iterator.{YieldsList-from_slice}
use Rattle.std.proofs.lemmas.Iterator.Search.{all_from_yields_List}
use Rattle.links.specs.Lists.{elem}
use Rattle.links.specs.Graph.{neighbors_of}
use Rattle.links.specs.ListTest.{mirrored_row, Rising, found}
use Rattle.links.proofs.ChainLaws.{all-chain, all-same}
use Rattle.links.proofs.HalvingLaws.{found-elem}
use Rattle.links.proofs.lists.mirrored_row.Goals as goal

-- the rows rise, so that what the search finds is what is there
pub returns : goal.returns
unfolding mirrored_row Rising
returns c =
    let a = c.args in
    let row = c.neighbors_of-row.result.now in
    let finds = λ (u : ℕ). found (neighbors_of a.offsets.now a.neighbors.now u) a.v in
    let names = λ (u : ℕ). elem a.v (neighbors_of a.offsets.now a.neighbors.now u) in
    rw (← c.neighbors_of-row.ensures)
    (all_from_yields_List finds _ _ _ c.all.ensures.ran (YieldsList-from_slice row cc) (λ x b q k. search (rules, tests)) ∙ all-chain finds row
    ∙ all-same finds names (λ u. found-elem (neighbors_of a.offsets.now a.neighbors.now u) a.v (c.requires u)) row)
