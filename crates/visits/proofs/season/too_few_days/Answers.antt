-- Each rank's part is counted in turn. Assumes nothing.
use Rattle.std.proofs.Common.{ℕ, ◌+◌, ◌∙◌, length, ltb, ap, rules, tests, refl, arith}
use Rattle.std.proofs.lemmas.Iterator.{serves_from_Range, YieldsList-from_range}
use Rattle.std.proofs.lemmas.Iterator.Search.{any_from_yields_List}
use Rattle.links.specs.Lists.{at, any}
use Rattle.links.specs.Parts.{part}
use Rattle.links.proofs.ListLaws.{any-ext}
use Rattle.links.proofs.ChainLaws.{any-chain, range-chain}
use Rattle.visits.specs.Season.{windows_in, lacks_days, too_few_days}
use Rattle.visits.specs.SeasonCode.{spanned}
use Rattle.visits.proofs.SeasonLaws.{part-there, part-few, lacks-is}
use Rattle.visits.proofs.season.too_few_days.Goals as goal

pub any-requires-clause-callable : goal.any-requires-clause-callable
any-requires-clause-callable c =
    serves_from_Range (λ x q k. search rules) (λ x a b.
    let there = part-there c.requires.laid c.starts_of-starts.ensures x b in
    let few = part-few c.requires.laid c.starts_of-starts.ensures x b in (
      λ _ _ _ _ _ _ _ _. there,
      λ _ _ _ _ _ _ _ w _. rw w.ensures few,
      λ _ _ _ _ _ _ _ _ _. omega arith,
      λ _ _ _ _ _ _ _ _ _ _. omega arith,
    ))

pub returns : goal.returns
unfolding too_few_days
returns c =
    let n = length c.args.counts.now in
    let starts = c.starts_of-starts.result in
    let p = λ (r : ℕ). ltb (length (spanned (windows_in (part c.args.days.now (at starts r) (at starts (r + 1)))))) (at c.owned_counts-owned.result r) in
    any_from_yields_List p _ _ _ c.any.ensures.ran (YieldsList-from_range 0 n n refl (omega arith)) (λ x b q k. search (rules, tests))
    ∙ any-chain p _
    ∙ ap (any p) (range-chain 0 n)
    ∙ any-ext p (lacks_days c.args.owners.now c.args.counts.now c.args.days.now) 0 n (λ x h k. lacks-is c.requires c.starts_of-starts.ensures x (omega arith) c.args.owners.now c.owned_counts-owned.ensures)
