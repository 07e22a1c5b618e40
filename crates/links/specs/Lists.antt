-- Functions on lists that the rules are written with. Every list here computes, so that the rules do. Assumes nothing.
use Rattle.std.specs.Prelude.{ℕ, zero, suc, ◌+◌, max, Bool, true, false, ◌&&◌, ◌||◌, cond, get_or, ltb, leb, eqb}
use mathlib.Core.List.{List, [], ◌∷◌, ◌++◌, foldr}
use Rattle.std.proofs.Math.Option.{Option, none, some}

-- the number at i, 0 past the end
abbrev pub at : List ℕ → ℕ → ℕ
at xs i = get_or xs i 0

-- no owner, no group, no distance: 2^32 − 1, the Rust's UNASSIGNED
abbrev pub unassigned : ℕ
unassigned = 4294967295

module _ {A : Type 0} where
  -- those that pass the test, in their order
  abbrev pub filter : (A → Bool) → List A → List A
  filter p [] = []
  filter p (x ∷ xs) = let r = filter p xs in cond (p x) (x ∷ r) r

  abbrev pub any : (A → Bool) → List A → Bool
  any p [] = false
  any p (x ∷ xs) = let r = any p xs in cond (p x) true r

  abbrev pub all : (A → Bool) → List A → Bool
  all p [] = true
  all p (x ∷ xs) = let r = all p xs in cond (p x) r false

  abbrev pub foldl {ℓ} : {B : Type ℓ} → (B → A → B) → B → List A → B
  foldl f b [] = b
  foldl f b (x ∷ xs) = foldl f (f b x) xs

  -- the best of a list: a later one takes the place of an earlier one only where it is better, so that of equals the first is taken
  abbrev pub best_from : (A → A → Bool) → Option A → List A → Option A
  best_from better b [] = b
  best_from better none (x ∷ xs) = best_from better (some x) xs
  best_from better (some b) (x ∷ xs) = best_from better (some (cond (better x b) x b)) xs

  abbrev pub best : (A → A → Bool) → List A → Option A
  best better xs = best_from better none xs

  -- x goes in front of the first that it comes before
  abbrev pub insert : (A → A → Bool) → A → List A → List A
  insert before x [] = x ∷ []
  insert before x (y ∷ ys) = let r = insert before x ys in cond (before x y) (x ∷ y ∷ ys) (y ∷ r)

  abbrev pub sort_by : (A → A → Bool) → List A → List A
  sort_by before xs = foldl (λ ys x. insert before x ys) [] xs

-- i, i + 1, .. : n numbers
abbrev pub range : ℕ → ℕ → List ℕ
range i zero = []
range i (suc n) = i ∷ range (suc i) n

abbrev pub sum : List ℕ → ℕ
sum [] = 0
sum (x ∷ xs) = x + sum xs

-- 0 if there are none
abbrev pub greatest : List ℕ → ℕ
greatest xs = foldr max 0 xs

abbrev pub elem : ℕ → List ℕ → Bool
elem x xs = any (eqb x) xs

abbrev pub empty : {A : Type 0} → List A → Bool
empty [] = true
empty (x ∷ xs) = false

module _ {A B : Type 0} where
  -- b where there is nothing, f of it where there is something
  abbrev pub option : Option A → B → (A → B) → B
  option none b f = b
  option (some a) b f = f a

  abbrev pub concat_map : (A → List B) → List A → List B
  concat_map f [] = []
  concat_map f (x ∷ xs) = f x ++ concat_map f xs

-- a above b, or as high and the next test passes: one key of an order by several
abbrev pub above : ℕ → ℕ → Bool → Bool
above a b next = ltb b a || (eqb a b && next)

-- x from least to most
abbrev pub between : ℕ → ℕ → ℕ → Bool
between least most x = leb least x && leb x most

-- what holds of each of a list
abbrev pub All : {A : Type 0} → (A → Type 0) → List A → Type 0
All P [] = Unit {0}
All P (x ∷ xs) = P x × All P xs
