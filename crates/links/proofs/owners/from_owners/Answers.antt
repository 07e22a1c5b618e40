-- The counts, then the owners, then the marks: each test rests on those before it. Assumes nothing.
use Rattle.std.proofs.Common.{◌≡◌, refl, sym, ◌∙◌, length, true, false, arith}
use lib.ListN.{length-take}
use Rattle.links.specs.Owners.{empty_rank}
use Rattle.links.proofs.RefusalLaws.{passed-on, refusal-some}
use Rattle.links.proofs.OwnerLaws.{counts-refused, counts-passed, counts-limit, stray-refused, all-below, unmarked-empty}
use Rattle.links.proofs.owners.from_owners.Goals as goal

pub returns-in_err-counts_cause : goal.returns-in_err-counts_cause
returns-in_err-counts_cause c =
    let e = c.in_err-counts_cause.ensures in
    passed-on c.from_residual.result _ c.from_residual.ensures.1 ∙ e ∙ counts-refused c.args.ranks c.args.owners.now (λ z. refusal-some _ (e ∙ z))

pub returns-then-stray_owner : goal.returns-then-stray_owner
returns-then-stray_owner c = stray-refused c.args.ranks c.args.owners.now (sym c.in_ok-counts_cause.ensures) (sym c.stray_owner.ensures ∙ c.if-stray_owner.true)

pub mark_owners-requires : goal.mark_owners-requires
mark_owners-requires c =
    let few = counts-limit c.args.ranks (length c.args.owners.now) (sym c.in_ok-counts_cause.ensures) in
    (refl, λ i h. omega (arith, all-below c.args.ranks c.args.owners.now (sym c.stray_owner.ensures ∙ c.if-stray_owner.false) i h))

pub slice_bounds-marks-end : goal.slice_bounds-marks-end
slice_bounds-marks-end c =
    let few = counts-limit c.args.ranks (length c.args.owners.now) (sym c.in_ok-counts_cause.ensures) in
    omega (arith, c.mark_owners.ensures.same_length)

pub slice_bounds-contains-end : goal.slice_bounds-contains-end
slice_bounds-contains-end c =
    let few = counts-limit c.args.ranks (length c.args.owners.now) (sym c.in_ok-counts_cause.ensures) in
    let e : length c.mark_owners.new.marks ≡ 256 = c.mark_owners.ensures.same_length in
    sym (length-take c.args.ranks c.mark_owners.new.marks ∙ omega arith)

pub returns-then-contains : goal.returns-then-contains
returns-then-contains c =
    let k = c.args.ranks in
    let owners = c.args.owners.now in
    let few = counts-limit k (length owners) (sym c.in_ok-counts_cause.ensures) in
    let e : empty_rank k owners ≡ true = sym (c.contains.ensures.value ∙ unmarked-empty owners c.mark_owners.new.marks 256 k c.mark_owners.ensures few) ∙ c.if-contains.true in
    rw (sym c.stray_owner.ensures ∙ c.if-stray_owner.false, e) at (counts-passed k owners (sym c.in_ok-counts_cause.ensures))

pub returns : goal.returns
returns c =
    let k = c.args.ranks in
    let owners = c.args.owners.now in
    let few = counts-limit k (length owners) (sym c.in_ok-counts_cause.ensures) in
    let e : empty_rank k owners ≡ false = sym (c.contains.ensures.value ∙ unmarked-empty owners c.mark_owners.new.marks 256 k c.mark_owners.ensures few) ∙ c.if-contains.false in
    rw (sym c.stray_owner.ensures ∙ c.if-stray_owner.false, e) at (counts-passed k owners (sym c.in_ok-counts_cause.ensures))
