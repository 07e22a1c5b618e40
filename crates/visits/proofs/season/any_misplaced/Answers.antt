-- Each rank's part is asked in turn. Assumes nothing.
use Rattle.std.proofs.Common.{ℕ, ◌+◌, ◌∙◌, length, ap, rules, tests, refl, arith}
use Rattle.std.specs.Prelude.{not}
use Rattle.std.proofs.lemmas.Iterator.{serves_from_Range, YieldsList-from_range}
use Rattle.std.proofs.lemmas.Iterator.Search.{any_from_yields_List}
use Rattle.links.specs.Lists.{at, any}
use Rattle.links.specs.Parts.{part}
use Rattle.links.proofs.ListLaws.{any-ext}
use Rattle.links.proofs.ChainLaws.{any-chain, range-chain}
use Rattle.visits.specs.Season.{windows_in, good_windows, misplaced}
use Rattle.visits.proofs.SeasonLaws.{part-there, misplaced-is}
use Rattle.visits.proofs.season.any_misplaced.Goals as goal

pub any-requires-clause-callable : goal.any-requires-clause-callable
any-requires-clause-callable c =
    serves_from_Range (λ x q k. search rules) (λ x a b _ _ _ _ _ _ _ _. part-there c.requires c.starts_of-starts.ensures x b)

pub returns : goal.returns
returns c =
    let n = length c.args.counts.now in
    let starts = c.starts_of-starts.result in
    let p = λ (r : ℕ). not (good_windows (windows_in (part c.args.days.now (at starts r) (at starts (r + 1))))) in
    any_from_yields_List p _ _ _ c.any.ensures.ran (YieldsList-from_range 0 n n refl (omega arith)) (λ x b q k. search (rules, tests))
    ∙ any-chain p _
    ∙ ap (any p) (range-chain 0 n)
    ∙ any-ext p (misplaced c.args.counts.now c.args.days.now) 0 n (λ x h k. misplaced-is c.requires c.starts_of-starts.ensures x (omega arith))
