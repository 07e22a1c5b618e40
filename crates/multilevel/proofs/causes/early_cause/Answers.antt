-- The tests in their order, each of which may rest on those before it. Assumes nothing.
use Rattle.std.proofs.Common.{ℕ, true, false, refl, sym, ap, ◌∙◌}
use Rattle.links.specs.Graph.{vertex_count, bad_lists, lists_cause}
use Rattle.links.specs.Workloads.{bad_workloads, workloads_cause}
use Rattle.links.proofs.CauseLaws.{cause-number}
use Rattle.links.proofs.ListTestLaws.{lists-bad, lists-fine}
use Rattle.links.proofs.RefusalLaws.{passed-on, refusal-some}
use Rattle.links.proofs.WorkloadLaws.{workloads-bad, workloads-fine}
use Rattle.multilevel.specs.Causes.{call_of, too_short}
use Rattle.multilevel.proofs.CauseLaws.{options-fine, counts-as, limits-as, room_as, limited, early-options, early-is}
use Rattle.multilevel.proofs.causes.early_cause.Goals as goal

pub returns-in_err-validate : goal.returns-in_err-validate
returns-in_err-validate c =
    let a = c.args in
    let k = call_of a.offsets.now a.neighbors.now a.workloads.now a.asked.ranks a.asked.options a.owners_length a.work_length in
    passed-on c.from_residual.result _ c.from_residual.ensures.1 ∙ early-options k _ c.in_err-validate.ensures (refusal-some _)

pub returns-then-bad_counts : goal.returns-then-bad_counts
returns-then-bad_counts c =
    let a = c.args in
    let k = call_of a.offsets.now a.neighbors.now a.workloads.now a.asked.ranks a.asked.options a.owners_length a.work_length in
    early-is k true _ _ _ _ (options-fine a.asked.options _ c.in_ok-validate.ensures refl) (counts-as c.vertex_count-n.ensures refl c.bad_counts.ensures c.if-bad_counts.true) refl refl refl refl

pub returns-then-over_limits : goal.returns-then-over_limits
returns-then-over_limits c =
    let a = c.args in
    let k = call_of a.offsets.now a.neighbors.now a.workloads.now a.asked.ranks a.asked.options a.owners_length a.work_length in
    early-is k false true _ _ _ (options-fine a.asked.options _ c.in_ok-validate.ensures refl) (counts-as c.vertex_count-n.ensures refl c.bad_counts.ensures c.if-bad_counts.false) (limits-as c.vertex_count-n.ensures refl _ _ c.over_limits.ensures c.if-over_limits.true) refl refl refl

pub returns-in_err-lists_cause : goal.returns-in_err-lists_cause
unfolding lists_cause
returns-in_err-lists_cause c =
    let a = c.args in
    let k = call_of a.offsets.now a.neighbors.now a.workloads.now a.asked.ranks a.asked.options a.owners_length a.work_length in
    let e = c.in_err-lists_cause.ensures.cause in
    passed-on c.from_residual-in_err-lists_cause.result _ c.from_residual-in_err-lists_cause.ensures.1
    ∙ cause-number (bad_lists a.offsets.now a.neighbors.now) 3 _ e (refusal-some _)
    ∙ early-is k false false true _ _ (options-fine a.asked.options _ c.in_ok-validate.ensures refl) (counts-as c.vertex_count-n.ensures refl c.bad_counts.ensures c.if-bad_counts.false) (limits-as c.vertex_count-n.ensures refl _ _ c.over_limits.ensures c.if-over_limits.false) (lists-bad a.offsets.now a.neighbors.now _ c.in_err-lists_cause.ensures.cause (refusal-some _)) refl refl

pub returns-in_err-workloads_cause : goal.returns-in_err-workloads_cause
unfolding workloads_cause
returns-in_err-workloads_cause c =
    let a = c.args in
    let k = call_of a.offsets.now a.neighbors.now a.workloads.now a.asked.ranks a.asked.options a.owners_length a.work_length in
    let n = vertex_count a.offsets.now in
    let e = c.in_err-workloads_cause.ensures ∙ ap (λ (x : ℕ). workloads_cause x a.workloads.now) c.vertex_count-n.ensures in
    passed-on c.from_residual-in_err-workloads_cause.result _ c.from_residual-in_err-workloads_cause.ensures.1
    ∙ cause-number (bad_workloads n a.workloads.now) 12 _ e (refusal-some _)
    ∙ early-is k false false false true _ (options-fine a.asked.options _ c.in_ok-validate.ensures refl) (counts-as c.vertex_count-n.ensures refl c.bad_counts.ensures c.if-bad_counts.false) (limits-as c.vertex_count-n.ensures refl _ _ c.over_limits.ensures c.if-over_limits.false) (lists-fine a.offsets.now a.neighbors.now _ c.in_ok-lists_cause.ensures.cause refl) (workloads-bad n a.workloads.now _ e (refusal-some _)) refl

pub too_short-requires : goal.too_short-requires
too_short-requires c = limited _ _ _ _ (sym c.over_limits.ensures ∙ c.if-over_limits.false)

pub returns-then-too_short : goal.returns-then-too_short
unfolding too_short
returns-then-too_short c =
    let a = c.args in
    let k = call_of a.offsets.now a.neighbors.now a.workloads.now a.asked.ranks a.asked.options a.owners_length a.work_length in
    early-is k false false false false true (options-fine a.asked.options _ c.in_ok-validate.ensures refl) (counts-as c.vertex_count-n.ensures refl c.bad_counts.ensures c.if-bad_counts.false) (limits-as c.vertex_count-n.ensures refl _ _ c.over_limits.ensures c.if-over_limits.false) (lists-fine a.offsets.now a.neighbors.now _ c.in_ok-lists_cause.ensures.cause refl) (workloads-fine (vertex_count a.offsets.now) a.workloads.now _ (c.in_ok-workloads_cause.ensures ∙ ap (λ (x : ℕ). workloads_cause x a.workloads.now) c.vertex_count-n.ensures) refl) (room_as c.vertex_count-n.ensures refl _ _ _ _ c.too_short.ensures c.if-too_short.true)

pub returns : goal.returns
unfolding too_short
returns c =
    let a = c.args in
    let k = call_of a.offsets.now a.neighbors.now a.workloads.now a.asked.ranks a.asked.options a.owners_length a.work_length in
    early-is k false false false false false (options-fine a.asked.options _ c.in_ok-validate.ensures refl) (counts-as c.vertex_count-n.ensures refl c.bad_counts.ensures c.if-bad_counts.false) (limits-as c.vertex_count-n.ensures refl _ _ c.over_limits.ensures c.if-over_limits.false) (lists-fine a.offsets.now a.neighbors.now _ c.in_ok-lists_cause.ensures.cause refl) (workloads-fine (vertex_count a.offsets.now) a.workloads.now _ (c.in_ok-workloads_cause.ensures ∙ ap (λ (x : ℕ). workloads_cause x a.workloads.now) c.vertex_count-n.ensures) refl) (room_as c.vertex_count-n.ensures refl _ _ _ _ c.too_short.ensures c.if-too_short.false)
