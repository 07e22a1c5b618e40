-- The cause decides the case. Assumes nothing.
use Rattle.std.proofs.Common.{sym, length}
use Rattle.visits.proofs.SeasonLaws.{plannable, told-refused, told-planned}
use Rattle.visits.proofs.season.season_days.Goals as goal

pub returns-in_err-season_cause : goal.returns-in_err-season_cause
returns-in_err-season_cause c =
    let a = c.args in
    told-refused a.ranks a.owners.now a.counts.now a.days.now a.visits.now c.from_residual.result _ c.from_residual.ensures.1 c.in_err-season_cause.ensures

pub write_days-requires : goal.write_days-requires
write_days-requires c =
    let a = c.args in
    plannable a.ranks a.owners.now a.counts.now a.days.now (length a.visits.now) (sym c.in_ok-season_cause.ensures)

pub returns : goal.returns
returns c =
    let a = c.args in
    told-planned a.ranks a.owners.now a.counts.now a.days.now a.visits.now (sym c.in_ok-season_cause.ensures) c.write_days.new.visits c.write_days.ensures
