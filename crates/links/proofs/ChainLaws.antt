-- What std's words for chains of iterators come to in the words of the rules. Assumes nothing.
use Prim.Native.Nat.{ℕ, zero, suc, ◌+◌}
use mathlib.Core.Path.{◌≡◌, refl, sym, ap}
use mathlib.Core.Bool.{Bool, true, false, cond, ◌||◌, ◌&&◌}
use mathlib.Core.List.{List, [], ◌∷◌}
use native.Mathlib.Numerals.{add-one}
use lib.ListN.{length}
use native.Mathlib.Omega.{arith}
use Rattle.std.specs.List.{list_any, list_all, count_by, range_with_len, sum as sum_of}
use Rattle.std.proofs.lemmas.List.Recursion.{is_count_by, is_sum_by}
use Rattle.links.specs.Lists.{filter, any, all, range, sum}

module _ {A : Type 0} where
  pub any-chain : (p : A → Bool) (xs : List A) → list_any p xs ≡ any p xs
  any-chain p [] = refl
  any-chain p (x ∷ xs) = elim (p x) as (λ b. b || list_any p xs ≡ cond b true (any p xs)) [ true ↦ refl | false ↦ any-chain p xs ]

  pub all-chain : (p : A → Bool) (xs : List A) → list_all p xs ≡ all p xs
  all-chain p [] = refl
  all-chain p (x ∷ xs) = elim (p x) as (λ b. b && list_all p xs ≡ cond b (all p xs) false) [ true ↦ all-chain p xs | false ↦ refl ]

  pub all-same : (p q : A → Bool) → ((x : A) → p x ≡ q x) → (xs : List A) → all p xs ≡ all q xs
  all-same p q e [] = refl
  all-same p q e (x ∷ xs) = rw (e x, all-same p q e xs)

  -- one that passes, or does not, in front
  count-front : (p : A → Bool) (x : A) (xs : List A) → length (filter p (x ∷ xs)) ≡ cond (p x) (1 + length (filter p xs)) (length (filter p xs))
  count-front p x xs =
      elim (p x) as (λ b. length (cond b (x ∷ filter p xs) (filter p xs)) ≡ cond b (1 + length (filter p xs)) (length (filter p xs))) [ true ↦ omega arith | false ↦ refl ]

  pub count-chain : (p : A → Bool) (xs : List A) → count_by p xs ≡ length (filter p xs)
  count-chain p xs = sym (is_count_by (λ ys. length (filter p ys)) p refl (count-front p) xs)

pub range-chain : (a n : ℕ) → range_with_len a n ≡ range a n
range-chain a zero = refl
range-chain a (suc n) = rw add-one (ap (λ xs. a ∷ xs) (range-chain (suc a) n))

pub sum-chain : (xs : List ℕ) → sum_of xs ≡ sum xs
sum-chain xs = sym (is_sum_by sum (λ x. x) refl (λ x ys. refl) xs)
