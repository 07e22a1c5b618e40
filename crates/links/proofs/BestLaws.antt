-- A choice made by a loop that goes up: laws of `best` over what passes a test. The code keeps a number for the best so far, unassigned for none.
-- Assumes nothing.
use mathlib.Core.Path.{◌≡◌, refl}
use mathlib.Core.Bool.{Bool, true, false, cond}
use mathlib.Core.List.{List, [], ◌∷◌}
use mathlib.Core.Option.{Option, none, some}
use mathlib.Core.Logic.{◌⊎◌, inr}
use Prim.Native.Nat.{ℕ, zero, suc, ◌+◌, ◌-◌, ◌<◌, ◌≤◌}
use native.Mathlib.Nat.{not-suc-le-zero, le_of_suc-le-suc}
use native.Mathlib.Numerals.{add-one}
use native.Mathlib.Omega.{arith}
use lib.Dec.{eqb}
use lib.ListN.{length, drop}
use borrow.Author.Tests.{ne_eqb}
use Rattle.links.specs.Lists.{at, unassigned, filter, range, best_from}
use Rattle.links.specs.Best.{held, step_best}

-- x is met, c the best so far
abbrev pub met : (ℕ → ℕ → Bool) → Option ℕ → ℕ → Option ℕ
met better none x = some x
met better (some c) x = some (cond (better x c) x c)

-- x is met if it passes the test
abbrev pub step : (ℕ → ℕ → Bool) → (ℕ → Bool) → Option ℕ → ℕ → Option ℕ
step better ok c x = cond (ok x) (met better c x) c

-- what is left to do at i: over the numbers below k, or over a list
abbrev pub left : (ℕ → ℕ → Bool) → (ℕ → Bool) → ℕ → ℕ → Option ℕ → Option ℕ
left better ok k i c = best_from better c (filter ok (range i (k - i)))

abbrev pub left_of : (ℕ → ℕ → Bool) → (ℕ → Bool) → List ℕ → ℕ → Option ℕ → Option ℕ
left_of better ok xs i c = best_from better c (filter ok (drop i xs))

module _ (better : ℕ → ℕ → Bool) (ok : ℕ → Bool) where
  head : (x : ℕ) (c : Option ℕ) (xs : List ℕ) (b : Bool) → best_from better c (cond b (x ∷ xs) xs) ≡ best_from better (cond b (met better c x) c) xs
  head x none xs true = refl
  head x none xs false = refl
  head x (some c) xs true = refl
  head x (some c) xs false = refl

  -- a turn of the loop
  pub one_more : (k i : ℕ) (c : Option ℕ) → i < k → left better ok k i c ≡ left better ok k (i + 1) (step better ok c i)
  one_more k i c h =
      let r : k - i ≡ suc (k - (i + 1)) = omega arith in
      rw (r, add-one) (head i c (filter ok (range (suc i) (k - suc i))) (ok i))

  turn
      : (xs : List ℕ) (i : ℕ) (c : Option ℕ)
      → i < length xs
      → best_from better c (filter ok (drop i xs)) ≡ best_from better (step better ok c (at xs i)) (filter ok (drop (suc i) xs))
  turn [] i c h = absurd (not-suc-le-zero h)
  turn (x ∷ xs) zero c h = head x c (filter ok xs) (ok x)
  turn (x ∷ xs) (suc i) c h = turn xs i c (le_of_suc-le-suc h)

  pub one-more-of
      : (xs : List ℕ) (i : ℕ) (c : Option ℕ) → i < length xs → left_of better ok xs i c ≡ left_of better ok xs (i + 1) (step better ok c (at xs i))
  one-more-of xs i c h = rw add-one (turn xs i c h)

  -- its end
  pub all-met : (k i : ℕ) (c : Option ℕ) → k ≤ i → left better ok k i c ≡ c
  all-met k i c h = let z : k - i ≡ 0 = omega arith in rw z

-- the code's step is the definition's
pub held-step : (better : ℕ → ℕ → Bool) (ok : ℕ → Bool) (b i : ℕ) → i < unassigned → held (step_best better ok b i) ≡ step better ok (held b) i
unfolding step_best
held-step better ok b i h = go (ok i) (eqb b unassigned) refl
  where
    ne : eqb i unassigned ≡ false
    ne = ne_eqb i unassigned (λ e. omega arith)

    pick : (z : Bool) → eqb b unassigned ≡ false → held (cond z i b) ≡ some (cond z i b)
    pick true e = rw ne
    pick false e = rw e

    go
        : (x y : Bool)
        → eqb b unassigned ≡ y
        → held (cond x (cond y i (cond (better i b) i b)) b) ≡ cond x (met better (cond y none (some b)) i) (cond y none (some b))
    go true true e = rw ne
    go true false e = pick (better i b) e
    go false true e = rw e
    go false false e = rw e

-- it stays in range
pub step_in
    : (better : ℕ → ℕ → Bool) (ok : ℕ → Bool) (b i n : ℕ)
    → i < n
    → (b ≡ unassigned) ⊎ (b < n)
    → (step_best better ok b i ≡ unassigned) ⊎ (step_best better ok b i < n)
unfolding step_best
step_in better ok b i n h r = go (ok i) (eqb b unassigned) (better i b)
  where
    go : (x y z : Bool) → (cond x (cond y i (cond z i b)) b ≡ unassigned) ⊎ (cond x (cond y i (cond z i b)) b < n)
    go true true z = inr h
    go true false true = inr h
    go true false false = r
    go false y z = r
