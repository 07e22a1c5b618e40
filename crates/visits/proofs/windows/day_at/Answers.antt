use Rattle.std.proofs.Common.{◌+◌, ◌*◌, ◌≡◌, sym, ap, ◌∙◌, arith}
use Rattle.links.specs.Lists.{at}
use Rattle.visits.specs.SeasonCode.{spanned}
use Rattle.visits.proofs.WindowLaws.{windows-done, day-here, day-later}
use Rattle.visits.proofs.windows.day_at.Goals as goal

pub returns-then-left-days : goal.returns-then-left-days
returns-then-left-days c =
    let l = c.loop-i in
    omega (arith, day-here c.args.windows.now (2 * l.i) (omega (arith, c.loop-i-test.true)) l.left (omega (arith, c.width-days.ensures, c.if-left-days.true)), l.invariant)

pub loop-i-preserved : goal.loop-i-preserved
loop-i-preserved c =
    let l = c.loop-i in
    let next : 2 * (l.i + 1) ≡ 2 * l.i + 2 = omega arith in
    rw (next, c.width-days.ensures) (sym (day-later c.args.windows.now (2 * l.i) (omega (arith, c.loop-i-test.true)) l.left (omega (arith, c.width-days.ensures, c.if-left-days.false))) ∙ l.invariant)

pub returns : goal.returns
returns c =
    let l = c.loop-i in
    ap (λ ds. at (spanned ds) l.left) (sym (windows-done c.args.windows.now (2 * l.i) (omega (arith, c.loop-i-test.false)))) ∙ l.invariant
