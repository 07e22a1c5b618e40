-- Lists whose numbers are apart by f, each at least f of each before it: strictly rising for suc, never falling for the number itself.
-- Assumes nothing.
use Prim.Native.Nat.{ℕ, zero, suc, ◌≤◌, ◌<◌}
use mathlib.Core.Path.{◌≡◌, refl, sym, ap, ◌∙◌}
use mathlib.Core.Bool.{Bool, true, false, cond, false≢true}
use mathlib.Core.List.{List, [], ◌∷◌}
use native.Mathlib.Omega.{arith}
use lib.Dec.{leb, ltb, eqb}
use lib.ListN.{length}
use borrow.Author.Tests.{leb-true, eqb-true, eqb-false}
use Rattle.links.specs.Lists.{at, All, all}
use Rattle.links.specs.Graph.{strictly_rising, never_falling}
use Rattle.links.proofs.ListLaws.{split, all_of, all-get_or}

abbrev pub apart : (ℕ → ℕ) → List ℕ → Bool
apart f [] = true
apart f (x ∷ xs) = let r = apart f xs in cond (all (leb (f x)) xs) r false

pub strict_apart : (xs : List ℕ) → strictly_rising xs ≡ apart suc xs
strict_apart [] = refl
strict_apart (x ∷ xs) = ap (λ (b : Bool). cond (all (ltb x) xs) b false) (strict_apart xs)

pub never-apart : (xs : List ℕ) → never_falling xs ≡ apart (λ x. x) xs
never-apart [] = refl
never-apart (x ∷ xs) = ap (λ (b : Bool). cond (all (leb x) xs) b false) (never-apart xs)

-- ---- by places

module _ (f : ℕ → ℕ) where
  -- the first number, and the rest
  apart-first : (x : ℕ) (xs : List ℕ) → apart f (x ∷ xs) ≡ true → All (λ y. f x ≤ y) xs × (apart f xs ≡ true)
  apart-first x xs e = split (all (leb (f x)) xs)
      (λ p. (all_of (λ y. f x ≤ y) (leb (f x)) (λ y q. leb-true (f x) y q) xs p, rw p at e))
      (λ p. absurd (false≢true (rw p at e)))

  apart_by : (xs : List ℕ) → apart f xs ≡ true → (i j : ℕ) → i < j → j < length xs → f (at xs i) ≤ at xs j
  apart_by [] e i j h k = absurd (omega arith)
  apart_by (x ∷ xs) e i zero h k = absurd (omega arith)
  apart_by (x ∷ xs) e zero (suc j) h k = all-get_or xs j 0 (omega arith) (λ y. f x ≤ y) (apart-first x xs e).0
  apart_by (x ∷ xs) e (suc i) (suc j) h k = apart_by xs (apart-first x xs e).1 i j (omega arith) (omega arith)

pub never-falls-first : (x : ℕ) (xs : List ℕ) → never_falling (x ∷ xs) ≡ true → All (λ y. x ≤ y) xs × (never_falling xs ≡ true)
never-falls-first x xs e =
    let f = apart-first (λ x. x) x xs (sym (never-apart (x ∷ xs)) ∙ e) in
    (f.0, never-apart xs ∙ f.1)

pub rises_by : (xs : List ℕ) → strictly_rising xs ≡ true → (i j : ℕ) → i < j → j < length xs → at xs i < at xs j
rises_by xs e = apart_by suc xs (sym (strict_apart xs) ∙ e)

pub never-falls-by : (xs : List ℕ) → never_falling xs ≡ true → (i j : ℕ) → i ≤ j → j < length xs → at xs i ≤ at xs j
never-falls-by xs e i j h k = split (eqb i j)
    (λ p. let q = eqb-true i j p in omega (arith, ap (at xs) q))
    (λ p. let q = eqb-false i j p in apart_by (λ x. x) xs (sym (never-apart xs) ∙ e) i j (omega arith) k)
