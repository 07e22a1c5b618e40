-- An empty list on one side: no proposals. Assumes nothing.
use native.Mathlib.Omega.{arith}
use Rattle.stages.proofs.SwapPassLaws.{facing, pair-empty, pair-empty-back}
use Rattle.stages.proofs.swaps.swap_pair.Goals.{then-work-x-eq0-via-then-work-x-eq0, then-work-x-eq0-via-else-work-x-eq0+then-work-y-eq0}
use Rattle.stages.proofs.swaps.swap_pair.Goals as goal

pub returns-then-work-x-eq0 : goal.returns-then-work-x-eq0
returns-then-work-x-eq0 c =
    let p = c.requires in
    let x = c.list_at-x in
    let y = c.list_at-y in
    elim c.then-work-x-eq0.branch [
      | then-work-x-eq0-via-then-work-x-eq0 w ↦
          (omega arith, λ owners f. pair-empty p.0.given owners f p.1 p.2 p.3 x.result y.result x.ensures.0 y.ensures.0 p.0 w.if-work-x-eq0.true)
      | then-work-x-eq0-via-else-work-x-eq0+then-work-y-eq0 w ↦
          (omega arith, λ owners f. pair-empty-back p.0.given owners f p.1 p.2 p.3 x.result y.result x.ensures.0 y.ensures.0 p.0 w.if-work-y-eq0.true)
    ]

pub swap_listed-requires : goal.swap_listed-requires
swap_listed-requires c =
    let p = c.requires in
    let a = c.args in (
      p.0,
      (
        p.4.0,
        a.a,
        a.b,
        facing p.0.given p.4.0 p.4.1 p.1 p.2 p.3 c.list_at-x.result c.list_at-y.result c.list_at-x.ensures.0 c.list_at-y.ensures.0,
      ),
    )

pub returns : goal.returns
returns c =
    let p = c.requires in
    let a = c.args in (
      c.swap_listed.ensures.0,
      λ owners f. c.swap_listed.ensures.1 owners a.a a.b
          (facing p.0.given owners f p.1 p.2 p.3 c.list_at-x.result c.list_at-y.result c.list_at-x.ensures.0 c.list_at-y.ensures.0),
    )
