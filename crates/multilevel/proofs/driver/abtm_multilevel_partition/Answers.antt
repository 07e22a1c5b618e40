-- One of the early causes refuses; else the needed work is lent to the division, and zeroed. Assumes nothing.
use Prim.Native.Nat.{ℕ}
use Rattle.std.proofs.lemmas.Result.{err_from_is_err_and}
use Rattle.links.specs.Refusals.{refusal_number}
use mathlib.Core.Path.{◌≡◌, ◌∙◌, ap, sym, refl}
use native.Mathlib.Omega.{arith}
use lib.ListN.{length}
use Rattle.multilevel.specs.Causes.{call_of, work_need, need_of}
use Rattle.multilevel.proofs.FinishLaws.{early-refused}
use Rattle.multilevel.proofs.EndLaws.{part_length, whole-limits, whole-fits, whole-divisible, whole-zeroed, whole-partitioned}
use Rattle.multilevel.proofs.driver.abtm_multilevel_partition.Goals.{After-work_need-need}
use Rattle.multilevel.proofs.driver.abtm_multilevel_partition.Goals as goal

-- how much work is needed
need-is : (c : After-work_need-need) → c.work_need-need.result ≡ need_of (call_of c.args.offsets.now c.args.neighbors.now c.args.workloads.now c.args.ranks c.args.options (length c.args.owners.now) (length c.args.work.now))
need-is c =
    let a = c.args in
    c.work_need-need.ensures ∙ ap (λ (x : ℕ). work_need x (length a.neighbors.now) a.ranks a.options.max_levels) c.vertex_count.ensures

pub returns-in_err-early_cause : goal.returns-in_err-early_cause
returns-in_err-early_cause c =
    let a = c.args in
    let k = call_of a.offsets.now a.neighbors.now a.workloads.now a.ranks a.options (length a.owners.now) (length a.work.now) in
    let p = err_from_is_err_and c.from_residual.result c.from_residual.ensures.1 in
    rw p.1 (early-refused k a.owners.now a.work.now p.0 (ap refusal_number p.2 ∙ c.in_err-early_cause.ensures))

pub work_need-need-requires : goal.work_need-need-requires
work_need-need-requires c =
    let a = c.args in
    let k = call_of a.offsets.now a.neighbors.now a.workloads.now a.ranks a.options (length a.owners.now) (length a.work.now) in
    rw c.vertex_count.ensures (whole-limits k (sym c.in_ok-early_cause.ensures))

pub slice_bounds-divide-end : goal.slice_bounds-divide-end
slice_bounds-divide-end c =
    let a = c.args in
    let k = call_of a.offsets.now a.neighbors.now a.workloads.now a.ranks a.options (length a.owners.now) (length a.work.now) in
    let at = goal.at.slice_bounds-divide-end c in
    omega (arith, whole-fits k (sym c.in_ok-early_cause.ensures) a.work.now refl _ (need-is at.After-work_need-need))

pub slice_bounds-divide-end-2 : goal.slice_bounds-divide-end-2
slice_bounds-divide-end-2 c =
    let a = c.args in
    let k = call_of a.offsets.now a.neighbors.now a.workloads.now a.ranks a.options (length a.owners.now) (length a.work.now) in
    let at = goal.at.slice_bounds-divide-end-2 c in
    let z = sym c.in_ok-early_cause.ensures in
    omega (arith, whole-fits k z a.work.now refl _ (need-is at.After-work_need-need), part_length k z a.work.now refl _ (need-is at.After-work_need-need), need-is at.After-work_need-need)

pub divide-answer-requires : goal.divide-answer-requires
divide-answer-requires c =
    let a = c.args in
    let k = call_of a.offsets.now a.neighbors.now a.workloads.now a.ranks a.options (length a.owners.now) (length a.work.now) in
    let at = goal.at.divide-answer-requires c in
    whole-divisible k (sym c.in_ok-early_cause.ensures) a.work.now refl _ (need-is at.After-work_need-need)

pub returns : goal.returns
returns c =
    let a = c.args in
    let k = call_of a.offsets.now a.neighbors.now a.workloads.now a.ranks a.options (length a.owners.now) (length a.work.now) in
    let at = goal.at.returns c in
    let d = c.divide-answer in
    let z = sym c.in_ok-early_cause.ensures in
    whole-partitioned k z a.work.now refl _ (need-is at.After-work_need-need) _ _ _ _
    (c.fill_part.ensures ∙ whole-zeroed k z a.work.now refl _ (need-is at.After-work_need-need) d.new.work d.auto.work) d.ensures
