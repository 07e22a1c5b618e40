-- 19, else 20, else none. Assumes nothing.
use mathlib.Core.Path.{sym, ◌∙◌}
use Rattle.visits.proofs.SeasonLaws.{windows-passed, windows-days}
use Rattle.visits.proofs.season.windows_cause.Goals as goal

pub too_few_days-requires : goal.too_few_days-requires
too_few_days-requires c =
    let a = c.args in
    (windows-passed a.ranks a.counts.now a.days.now c.requires (sym c.bad_windows.ensures ∙ c.if-bad_windows.false)).1

pub returns-then-too_few_days : goal.returns-then-too_few_days
returns-then-too_few_days c =
    let a = c.args in
    sym (windows-days a.ranks a.owners.now a.counts.now a.days.now c.requires (sym c.bad_windows.ensures ∙ c.if-bad_windows.false) _ c.too_few_days.ensures ∙ rw c.if-too_few_days.true)

pub returns : goal.returns
returns c =
    let a = c.args in
    sym (windows-days a.ranks a.owners.now a.counts.now a.days.now c.requires (sym c.bad_windows.ensures ∙ c.if-bad_windows.false) _ c.too_few_days.ensures ∙ rw c.if-too_few_days.false)
