use Prim.Native.Nat.{◌+◌, ◌*◌}
use mathlib.Core.Path.{◌≡◌, sym, ap, ◌∙◌}
use mathlib.Core.Bool.{true, false}
use native.Mathlib.Omega.{arith}
use Rattle.links.specs.Lists.{at}
use Rattle.visits.specs.Season.{good_window, good_from}
use Rattle.visits.proofs.WindowLaws.{windows-done, good_more}
use Rattle.visits.proofs.windows.good_windows.Goals as goal

pub returns-then-not-good_window : goal.returns-then-not-good_window
returns-then-not-good_window c =
    let ws = c.args.windows.now in
    let i = 2 * c.loop-i.i in
    let bad : good_window c.loop-i.before (at ws i) (at ws (i + 1)) ≡ false = sym c.good_window.ensures ∙ c.if-not-good_window.true in
    sym (good_more ws i (omega (arith, c.loop-i-test.true)) c.loop-i.before ∙ rw bad) ∙ c.loop-i.invariant

pub loop-i-preserved : goal.loop-i-preserved
loop-i-preserved c =
    let ws = c.args.windows.now in
    let i = 2 * c.loop-i.i in
    let good : good_window c.loop-i.before (at ws i) (at ws (i + 1)) ≡ true = sym c.good_window.ensures ∙ c.if-not-good_window.false in
    let next : 2 * (c.loop-i.i + 1) ≡ i + 2 = omega arith in
    rw next (sym (good_more ws i (omega (arith, c.loop-i-test.true)) c.loop-i.before ∙ rw good) ∙ c.loop-i.invariant)

pub returns : goal.returns
unfolding good_from
returns c =
    ap (good_from c.loop-i.before) (sym (windows-done c.args.windows.now (2 * c.loop-i.i) (omega (arith, c.loop-i-test.false)))) ∙ c.loop-i.invariant
