-- The five tests, one after the other. Assumes nothing.
use Prim.Native.Nat.{ℕ, ◌+◌}
use mathlib.Core.Path.{◌≡◌, ◌∙◌}
use mathlib.Core.Bool.{Bool, true, not, ◌&&◌}
use native.Mathlib.Omega.{arith}
use lib.Dec.{eqb, ltb}
use Rattle.std.proofs.lemmas.Grind.{common_steps}
use Rattle.links.specs.Lists.{at}
use Rattle.stages.specs.Level.{rows_at, weights_at, owners_at, balance_in}
use Rattle.stages.specs.Moves.{gain, swap}
use Rattle.stages.specs.Swaps.{keeps_balance}
use Rattle.stages.proofs.CutLaws.{swap-ranks}
use Rattle.stages.proofs.SwapsSliceLaws.{applies-is}
use Rattle.stages.proofs.SwapStepLaws.{first-kept, second-kept}
use Rattle.stages.proofs.swaps.applies.Goals.{Joined-swap_gain-ne-NO_SWAP_GAIN, then-w-s-eq0, else-w-s-eq0, then-w-s-eq0-2, else-w-s-eq0-2, then-swap_gain-ne-NO_SWAP_GAIN, else-swap_gain-ne-NO_SWAP_GAIN}
use Rattle.stages.proofs.swaps.applies.Goals as goal

above_zero : (g r : ℕ) → r ≡ g → not (eqb r 0) ≡ ltb 0 g
above_zero g r e = rw e (grind (arith, common_steps))

module _ (c : Joined-swap_gain-ne-NO_SWAP_GAIN) where
  abbrev first_unused : Bool
  first_unused = eqb (at c.args.w.now (c.args.s.used + c.args.u)) 0

  abbrev second_unused : Bool
  second_unused = eqb (at c.args.w.now (c.args.s.used + c.args.v)) 0

  abbrev gaining : Bool
  gaining = ltb 0 (gain (rows_at c.args.w.now c.args.s.level) (owners_at c.args.w.now c.args.s.level) (swap c.args.u c.args.v))

  abbrev fair : ℕ → Bool
  fair v =
      keeps_balance (balance_in c.args.s.limits) (rows_at c.args.w.now c.args.s.level) (weights_at c.args.w.now c.args.s.level)
      (owners_at c.args.w.now c.args.s.level) (swap c.args.u c.args.v) (at (owners_at c.args.w.now c.args.s.level) v)

  two : c.if-w-s-eq0.value ≡ (first_unused && second_unused)
  two = grind (arith, common_steps)

  three : c.if-w-s-eq0-2.value ≡ (c.if-w-s-eq0.value && gaining)
  three = elim c.if-w-s-eq0-2.branch [
    | then-w-s-eq0-2 w ↦ rw w.if-w-s-eq0-2.true (w.value-is ∙ above_zero _ w.swap_gain.result w.swap_gain.ensures)
    | else-w-s-eq0-2 w ↦ rw w.if-w-s-eq0-2.false (w.value-is ∙ w.if-w-s-eq0-2.false)
  ]

  -- their ranks are two
  apart : c.if-w-s-eq0-2.value ≡ true → (at (owners_at c.args.w.now c.args.s.level) c.args.u ≡ at (owners_at c.args.w.now c.args.s.level) c.args.v → ⊥)
  apart h =
      swap-ranks (rows_at c.args.w.now c.args.s.level) (owners_at c.args.w.now c.args.s.level) c.args.u c.args.v
      (let e = three in grind (arith, common_steps))

  four : c.if-swap_gain-ne-NO_SWAP_GAIN.value ≡ (c.if-w-s-eq0-2.value && fair c.args.u)
  four = elim c.if-swap_gain-ne-NO_SWAP_GAIN.branch [
    | then-swap_gain-ne-NO_SWAP_GAIN w ↦ (
        let h = w.if-swap_gain-ne-NO_SWAP_GAIN.true in
        rw h (w.value-is ∙ w.trades_fairly.ensures ∙ first-kept c.requires.0 c.args.u c.args.v c.requires.1 c.requires.2 (apart h)))
    | else-swap_gain-ne-NO_SWAP_GAIN w ↦ (let h = w.if-swap_gain-ne-NO_SWAP_GAIN.false in rw h (w.value-is ∙ h))
  ]

pub returns-then-trades_fairly : goal.returns-then-trades_fairly
returns-then-trades_fairly c =
    let j = (goal.at.returns-then-trades_fairly c).Joined-swap_gain-ne-NO_SWAP_GAIN in
    let p = c.requires in
    let a = c.args in
    let h = c.if-trades_fairly.true in
    let t = c.trades_fairly-then-trades_fairly in
    let more : c.if-w-s-eq0-2.value ≡ true = (let e = four j in grind (arith, common_steps)) in
    let last = t.ensures ∙ second-kept p.0 a.u a.v p.1 p.2 (apart j more) in
    λ used m. let e = applies-is a.w.now a.s used m a.u a.v p.1 p.2 in grind (arith, common_steps, two j, three j, four j)

pub returns-else-trades_fairly : goal.returns-else-trades_fairly
returns-else-trades_fairly c =
    let j = (goal.at.returns-else-trades_fairly c).Joined-swap_gain-ne-NO_SWAP_GAIN in
    let p = c.requires in
    let a = c.args in
    λ used m. let e = applies-is a.w.now a.s used m a.u a.v p.1 p.2 in grind (arith, common_steps, two j, three j, four j)
