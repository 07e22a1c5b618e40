-- The test decides the case; what the sweep ends with is the answer. Assumes nothing.
use mathlib.Core.Path.{sym, ◌∙◌}
use Rattle.visits.proofs.CraneLaws.{passed, told-refused, told-busiest}
use Rattle.visits.proofs.crane.crane_week.Goals as goal

pub returns-then-bad_visits : goal.returns-then-bad_visits
returns-then-bad_visits c = told-refused c.args.w c.args.days.now (sym c.bad_visits.ensures ∙ c.if-bad_visits.true)

pub sweep_all-s-requires : goal.sweep_all-s-requires
sweep_all-s-requires c =
    let good = passed c.args.w c.args.days.now (sym c.bad_visits.ensures ∙ c.if-bad_visits.false) in
    (good.some, good.few)

pub returns : goal.returns
returns c =
    told-busiest c.args.w c.args.days.now c.sweep_all-s.result (sym c.bad_visits.ensures ∙ c.if-bad_visits.false) c.sweep_all-s.ensures
