use mathlib.Core.Path.{◌≡◌, refl, subst}
use native.Mathlib.Omega.{arith}
use Rattle.stages.specs.Level.{rows_at}
use Rattle.stages.specs.SwapsCode.{Taken}
use Rattle.stages.proofs.SwapStepLaws.{taken_none}
use Rattle.stages.proofs.SwapPassLaws.{holding-on, rank-turn, ranks-all}
use Rattle.stages.proofs.swaps.swap_ranks.Goals as goal

pub loop-a-init : goal.loop-a-init
loop-a-init c = (omega arith, λ owners f. taken_none c.requires.0)

pub swap_rank-done-requires : goal.swap_rank-done-requires
swap_rank-done-requires c =
    let p = c.requires in
    let t = c.loop-a.invariant.1 p.1.0 p.1.1 in
    (t.standing, c.loop-a-test.true, (p.1.0, holding-on p.0.given t p.1.0 p.1.1))

pub loop-a-preserved : goal.loop-a-preserved
loop-a-preserved c =
    let l = c.loop-a in
    let g = c.requires.0.given in
    let x = c.swap_rank-done in (
      omega (arith, x.ensures.0),
      λ owners f. rank-turn g (l.invariant.1 owners f) owners l.a refl (x.ensures.1 owners (holding-on g (l.invariant.1 owners f) owners f)),
    )

pub returns : goal.returns
returns c =
    let l = c.loop-a in
    let s = c.args.s in
    let w = c.args.work.now in
    let e : l.a ≡ s.limits.ranks = omega arith in (
      omega (arith, c.requires.0.given.few-ranks),
      λ owners f. subst (Taken w l.work s l.done) (ranks-all s.list_length (rows_at w s.level) owners s.limits.ranks) (rw e at (l.invariant.1 owners f)),
    )
