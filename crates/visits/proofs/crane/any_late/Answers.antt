-- The last day tells. Assumes nothing.
use Rattle.std.proofs.Common.{◌≡◌, ◌-◌, ◌∙◌, length, ltb, rules, tests}
use Rattle.links.specs.Lists.{at}
use Rattle.visits.proofs.CraneLaws.{last-tells}
use Rattle.visits.proofs.crane.any_late.Goals as goal

pub returns : goal.returns
returns c =
    let days = c.args.days.now in
    let late : c.is_some_and.result ≡ ltb 3660 (at days (length days - 1)) = search (rules, tests) in
    late ∙ last-tells days 3660 c.requires
