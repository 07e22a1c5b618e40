-- The site, each list's owners, then their lengths. Assumes nothing.
use Rattle.std.proofs.Common.{length, sym, ◌∙◌, arith}
use mathlib.Core.Logic.{◌≢◌, ◌⊎◌, inl, inr}
use Rattle.links.specs.Graph.{vertex_count}
use Rattle.links.proofs.RefusalLaws.{passed-on, refusal-some}
use Rattle.compare.proofs.CauseLaws.{cause-site, cause-first, cause-second, cause-lengths, lengths_differ, lengths-agree}
use Rattle.compare.proofs.division.comparison_cause.Goals as goal
use Rattle.compare.proofs.division.comparison_cause.Goals.{then-first-n-via-then-first-n, then-first-n-via-else-first-n+then-second-n}

pub returns-in_err-site_cause : goal.returns-in_err-site_cause
returns-in_err-site_cause c =
    let a = c.args in
    let e = c.in_err-site_cause.ensures in
    passed-on c.from_residual.result _ c.from_residual.ensures.1 ∙ e ∙ cause-site a.offsets.now a.neighbors.now a.ranks a.first.now a.second.now (λ z. refusal-some _ (e ∙ z))

pub returns-in_err-from_owners : goal.returns-in_err-from_owners
returns-in_err-from_owners c =
    let a = c.args in
    let e = c.in_err-from_owners.ensures in
    passed-on c.from_residual-in_err-from_owners.result _ c.from_residual-in_err-from_owners.ensures.1
    ∙ e
    ∙ cause-first a.offsets.now a.neighbors.now a.ranks a.first.now a.second.now (sym c.in_ok-site_cause.ensures) (λ z. refusal-some _ (e ∙ z))

pub returns-in_err-from_owners-2 : goal.returns-in_err-from_owners-2
returns-in_err-from_owners-2 c =
    let a = c.args in
    let e = c.in_err-from_owners-2.ensures in
    passed-on c.from_residual-in_err-from_owners-2.result _ c.from_residual-in_err-from_owners-2.ensures.1
    ∙ e
    ∙ cause-second a.offsets.now a.neighbors.now a.ranks a.first.now a.second.now (sym c.in_ok-site_cause.ensures) (sym c.in_ok-from_owners.ensures) (λ z. refusal-some _ (e ∙ z))

pub returns-then-first-n : goal.returns-then-first-n
returns-then-first-n c =
    let a = c.args in
    let n = vertex_count a.offsets.now in
    let differ : (length a.first.now ≢ n) ⊎ (length a.second.now ≢ n) = elim c.then-first-n.branch [
      | then-first-n-via-then-first-n w ↦ inl (λ e. omega (arith, w.if-first-n.true, c.vertex_count-n.ensures))
      | then-first-n-via-else-first-n+then-second-n w ↦ inr (λ e. omega (arith, w.if-second-n.true, c.vertex_count-n.ensures))
    ] in
    lengths_differ n a.first.now a.second.now differ
    ∙ cause-lengths a.offsets.now a.neighbors.now a.ranks a.first.now a.second.now (sym c.in_ok-site_cause.ensures) (sym c.in_ok-from_owners.ensures) (sym c.in_ok-from_owners-2.ensures)

pub returns : goal.returns
returns c =
    let a = c.args in
    lengths-agree (vertex_count a.offsets.now) a.first.now a.second.now (omega arith) (omega arith)
    ∙ cause-lengths a.offsets.now a.neighbors.now a.ranks a.first.now a.second.now (sym c.in_ok-site_cause.ensures) (sym c.in_ok-from_owners.ensures) (sym c.in_ok-from_owners-2.ensures)
