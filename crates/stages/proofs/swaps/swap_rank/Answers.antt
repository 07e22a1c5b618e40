use mathlib.Core.Path.{◌≡◌, refl}
use native.Mathlib.Omega.{arith}
use Rattle.stages.specs.Level.{rows_at}
use Rattle.stages.proofs.SwapStepLaws.{taken_none}
use Rattle.stages.proofs.SwapPassLaws.{holding-on, pair-turn, pairs-none}
use Rattle.stages.proofs.swaps.swap_rank.Goals as goal

pub loop-b-init : goal.loop-b-init
loop-b-init c =
    (omega arith, λ owners f. rw (pairs-none c.args.s.list_length (rows_at c.args.work.now c.args.s.level) owners c.args.a) (taken_none c.requires.0))

pub swap_pair-done-requires : goal.swap_pair-done-requires
swap_pair-done-requires c =
    let p = c.requires in
    let t = c.loop-b.invariant.1 p.2.0 p.2.1 in
    (t.standing, p.1, c.loop-b-test.true, omega arith, (p.2.0, holding-on p.0.given t p.2.0 p.2.1))

pub loop-b-preserved : goal.loop-b-preserved
loop-b-preserved c =
    let l = c.loop-b in
    let g = c.requires.0.given in
    let x = c.swap_pair-done in (
      omega (arith, x.ensures.0),
      λ owners f. pair-turn g (l.invariant.1 owners f) owners c.args.a l.b refl (omega arith) (x.ensures.1 owners (holding-on g (l.invariant.1 owners f) owners f)),
    )

pub returns : goal.returns
returns c =
    let l = c.loop-b in
    let e : l.b ≡ c.args.s.limits.ranks = omega arith in
    (omega (arith, c.requires.0.given.few-ranks), rw e at l.invariant.1)
