use native.Mathlib.Omega.{arith}
use Prim.Native.Nat.{ℕ}
use mathlib.Core.Path.{◌≡◌, subst}
use Rattle.stages.specs.GrowthCode.{Rounded}
use Rattle.stages.proofs.GrowthRoundLaws.{round-start, round-step}
use Rattle.stages.proofs.growth.round.Goals as goal
use Rattle.stages.proofs.growth.round.Goals.{in-Pass, in-Claim, in-Restart}

pub loop-r-init : goal.loop-r-init
loop-r-init c = (round-start c.args.cap c.requires.0, c.requires.1)

pub loop-r-preserved : goal.loop-r-preserved
loop-r-preserved c =
    let b = c.loop-r.invariant.0 in
    elim c.match-turn.branch [
      | in-Pass w ↦ let e = w.in-Pass.ensures in (round-step c.requires.0 b e.0 _ _ (omega arith) (omega arith), e.1)
      | in-Claim w ↦ let e = w.in-Claim.ensures in (round-step c.requires.0 b e.0 _ _ (omega arith) (omega arith), e.1)
      | in-Restart w ↦ let e = w.in-Restart.ensures in (round-step c.requires.0 b e.0 _ _ (omega arith) (omega arith), e.1)
    ]

pub returns : goal.returns
returns c =
    let a = c.args in
    let l = c.loop-r in
    let e : l.r ≡ a.room.ranks = omega arith in
    (subst (λ (i : ℕ). Rounded a.room a.cap a.work.now l.work i l.claims l.restarts) e l.invariant.0, l.invariant.1)
