-- Loads and tallies are set up, the passes made, and the check's answer is handed on. Assumes nothing.
use native.Mathlib.Omega.{arith}
use Rattle.std.proofs.Common.{ap, ◌∙◌}
use Rattle.std.proofs.lemmas.Result.{err_from_is_err_and}
use Rattle.links.specs.Refusals.{refusal_number}
use Rattle.stages.proofs.LevelLaws.{ready_by}
use Rattle.stages.proofs.MovesPassLaws.{cleared-roomed, weighed-moving, was-valid, was-refused}
use Rattle.stages.proofs.moves.refine_by_cut.Goals as goal

pub weigh-requires : goal.weigh-requires
weigh-requires c =
    let k = c.clear.ensures in
    (cleared-roomed c.args.limits c.requires k.1, λ i h. k.0 i (omega arith))

pub all_passes-moves-requires : goal.all_passes-moves-requires
all_passes-moves-requires c =
    let k = c.clear.ensures in
    let d = c.weigh.ensures in
    weighed-moving c.args.limits c.requires k.1 k.0 d.0 d.1

pub check_owners-requires : goal.check_owners-requires
check_owners-requires c =
    let m = c.all_passes-moves.ensures.moving.weighed in
    (ready_by _ m.ready (omega (arith, m.room)) (omega arith), c.requires.few)

pub returns-in_err-check_owners : goal.returns-in_err-check_owners
returns-in_err-check_owners c =
    let k = c.clear.ensures in
    let d = c.weigh.ensures in
    let p = err_from_is_err_and c.from_residual.result c.from_residual.ensures.1 in
    rw p.1 (was-refused c.args.limits c.requires k.1 k.0 d.0 d.1 c.args.passes c.all_passes-moves.ensures p.0 (ap refusal_number p.2 ∙ c.in_err-check_owners.ensures))

pub returns : goal.returns
returns c =
    let k = c.clear.ensures in
    let d = c.weigh.ensures in
    was-valid c.args.limits c.requires k.1 k.0 d.0 d.1 c.args.passes c.all_passes-moves.ensures c.in_ok-check_owners.ensures
