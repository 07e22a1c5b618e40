-- A cause's number, as the test behind it. Assumes nothing.
use Prim.Native.Nat.{ℕ, suc}
use mathlib.Core.Path.{◌≡◌, refl}
use mathlib.Core.Bool.{Bool, true, false, cond}
use native.Mathlib.Omega.{arith}

pub cause-holds : (b : Bool) (number r : ℕ) → r ≡ cond b (suc number) 0 → (r ≡ 0 → ⊥) → b ≡ true
cause-holds true number r e f = refl
cause-holds false number r e f = absurd (f e)

pub cause-fails : (b : Bool) (number r : ℕ) → r ≡ cond b (suc number) 0 → r ≡ 0 → b ≡ false
cause-fails true number r e f = absurd (omega arith)
cause-fails false number r e f = refl

pub cause-number : (b : Bool) (number r : ℕ) → r ≡ cond b (suc number) 0 → (r ≡ 0 → ⊥) → r ≡ suc number
cause-number true number r e f = e
cause-number false number r e f = absurd (f e)
