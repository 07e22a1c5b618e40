use Prim.Native.Nat.{◌+◌, ◌*◌}
use mathlib.Core.Path.{◌≡◌, ap}
use native.Mathlib.Omega.{arith}
use lib.ListN.{length}
use Rattle.visits.specs.SeasonCode.{spanned}
use Rattle.visits.proofs.WindowLaws.{windows-done, count-more}
use Rattle.visits.proofs.windows.count_days.Goals as goal

pub loop-i-preserved : goal.loop-i-preserved
loop-i-preserved c =
    let l = c.loop-i in
    let next : 2 * (l.i + 1) ≡ 2 * l.i + 2 = omega arith in (
      rw next (omega (arith, c.width-count.ensures, count-more c.args.windows.now (2 * l.i) (omega (arith, c.loop-i-test.true)), l.invariant.0)),
      omega (arith, c.width-count.ensures, l.invariant.1, c.type_inv.windows (2 * l.i + 1)),
    )

pub returns : goal.returns
returns c =
    let l = c.loop-i in
    omega (arith, ap (λ ds. length (spanned ds)) (windows-done c.args.windows.now (2 * l.i) (omega (arith, c.loop-i-test.false))), l.invariant.0)
