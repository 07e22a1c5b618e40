-- The owners, the room, then the windows. Assumes nothing.
use Rattle.std.proofs.Common.{sym, ◌∙◌}
use Rattle.links.proofs.RefusalLaws.{passed-on, refusal-some}
use Rattle.links.proofs.OwnerLaws.{assigned}
use Rattle.visits.proofs.SeasonLaws.{cause-owners, cause-short, cause-windows}
use Rattle.visits.proofs.season.season_cause.Goals as goal

pub returns-in_err-from_owners : goal.returns-in_err-from_owners
returns-in_err-from_owners c =
    let a = c.args in
    let e = c.in_err-from_owners.ensures in
    passed-on c.from_residual.result _ c.from_residual.ensures.1 ∙ e
    ∙ sym (cause-owners a.ranks a.owners.now a.counts.now a.days.now a.room (λ z. refusal-some _ (e ∙ z)))

pub returns-then-room-owners : goal.returns-then-room-owners
returns-then-room-owners c =
    let a = c.args in
    sym (cause-short a.ranks a.owners.now a.counts.now a.days.now a.room (sym c.in_ok-from_owners.ensures) c.if-room-owners.true)

pub windows_cause-requires : goal.windows_cause-requires
windows_cause-requires c = (assigned c.args.ranks c.args.owners.now (sym c.in_ok-from_owners.ensures)).few

pub returns : goal.returns
returns c =
    let a = c.args in
    c.windows_cause.ensures ∙ sym (cause-windows a.ranks a.owners.now a.counts.now a.days.now a.room (sym c.in_ok-from_owners.ensures) c.if-room-owners.false)
