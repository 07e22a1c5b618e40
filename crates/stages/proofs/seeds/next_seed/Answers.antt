use mathlib.Core.Path.{sym, ap, ◌∙◌}
use mathlib.Core.Option.{Option, get_or}
use Prim.Native.Nat.{ℕ, ◌+◌}
use native.Mathlib.Omega.{arith}
use Rattle.links.proofs.BestLaws.{one_more, all-met}
use Rattle.stages.specs.Found.{found}
use Rattle.stages.specs.SeedsCode.{from, ahead, unseeded, standing, degree_at}
use Rattle.stages.proofs.SeedsLaws.{far-start, far-step, better-standing, better-below, better-seed, standing-end}
use Rattle.stages.proofs.seeds.next_seed.Goals as goal

pub loop-i-init : goal.loop-i-init
loop-i-init c =
    let a = c.args in
    (omega arith, λ z. omega arith, far-start (from a.work.now a.scratch) (degree_at a.work.now a.l) a.l.vertices)

pub loop-i-preserved : goal.loop-i-preserved
loop-i-preserved c =
    let a = c.args in
    let d : ℕ → ℕ = from a.work.now a.scratch in
    let deg : ℕ → ℕ = degree_at a.work.now a.l in
    let l = c.loop-i in
    let e = c.farther-best.ensures in (
      rw e (better-below d deg l.best l.i (l.i + 1) (omega arith) (omega arith)),
      rw e (better-seed d deg l.best l.i l.invariant.1),
      rw (e, better-standing d deg l.best l.i, far-step d deg l.i (standing d l.best))
          (ap (λ (o : Option ℕ). get_or o 0) (sym (one_more (ahead d deg) (unseeded d) a.l.vertices l.i (found (standing d l.best)) c.loop-i-test.true)) ∙ l.invariant.2),
    )

pub returns : goal.returns
returns c =
    let a = c.args in
    let d : ℕ → ℕ = from a.work.now a.scratch in
    let deg : ℕ → ℕ = degree_at a.work.now a.l in
    let l = c.loop-i in
    standing-end d l.best l.invariant.1
    ∙ ap (λ (o : Option ℕ). get_or o 0) (sym (all-met (ahead d deg) (unseeded d) a.l.vertices l.i (found (standing d l.best)) c.loop-i-test.false))
    ∙ l.invariant.2
