-- Laws of texts: a number's digits, one text after another. Assumes nothing.
use Prim.Native.Nat.{ℕ, zero, suc, ◌+◌, ◌-◌, ◌*◌, ◌/◌, ◌^◌, ◌≤◌, ◌<◌}
use mathlib.Core.Path.{◌≡◌, ◌∙◌}
use mathlib.Core.List.{List, ◌++◌}
use native.Mathlib.Omega.{arith}
use native.Mathlib.Nat.{zero-add, pow-zero, pow-suc, mod-eq_of_lt, div-lt_iff_lt-mul, le-div_iff_mul-le}
use lib.ListN.{length, drop, length-append}
use lib.Seq.{sets-eq}
use lib.Dec.{leb, ltb}
use borrow.Author.Tests.{lt-ltb, le-ltb, leb-true, leb-false}
use Rattle.links.proofs.ListLaws.{split}
use Rattle.io.specs.Digits.{last_digits, IsDigitCount}
use Rattle.multilevel.specs.File.{Written}
use Rattle.multilevel.proofs.FileWriteLaws.{written-more}
use Rattle.listing.specs.Text.{decimal_within, decimal, Told}

-- ---- a number's digits

ten-pos : (j : ℕ) → 1 ≤ 10 ^ j
ten-pos zero = omega (arith, pow-zero 10)
ten-pos (suc j) = omega (arith, pow-suc 10 j, ten-pos j)

ten-more : (i d : ℕ) → 10 ^ i ≤ 10 ^ (i + d)
ten-more i zero = let e : i + 0 ≡ i = omega arith in rw e (omega arith)
ten-more i (suc d) = let e : i + suc d ≡ suc (i + d) = omega arith in rw (e, pow-suc 10 (i + d)) (omega (arith, ten-more i d))

-- a number of 64 bits has at most 20
pub few-digits : (n k : ℕ) → n < 2 ^ 64 → IsDigitCount 10 1 n k → k ≤ 20
few-digits n k h f =
    split (leb k 20) (λ p. leb-true k 20 p)
    (λ p.
    let l : 20 < k = leb-false k 20 p in
    let e : 20 + (k - 1 - 20) ≡ k - 1 = omega arith in
    let low : 10 ^ 20 ≤ 10 ^ (k - 1) = rw e at (ten-more 20 (k - 1 - 20)) in
    let z : ⊥ = omega (arith, f.2 (omega arith)) in
    absurd z)

-- the fewest digits are those of the definition
spelled : (most k n : ℕ) → k ≤ most → IsDigitCount 10 1 n k → last_digits 10 k n ≡ decimal_within most n
unfolding decimal_within
spelled zero k n h f = let z : ⊥ = omega (arith, f.0) in absurd z
spelled (suc most) zero n h f = let z : ⊥ = omega (arith, f.0) in absurd z
spelled (suc most) (suc zero) n h f =
    let l : n < 10 = f.1 in
    rw (mod-eq_of_lt l, lt-ltb n 10 l)
spelled (suc most) (suc (suc j)) n h f =
    let e : suc (suc j) - 1 ≡ suc j = omega arith in
    let low : 10 ^ suc j ≤ n = rw e at (f.2 (omega arith)) in
    let tens : 10 ^ suc j ≡ 10 ^ j * 10 = pow-suc 10 j in
    let high : n / 10 < 10 ^ suc j = (div-lt_iff_lt-mul {k = 10} {x = n} {y = 10 ^ suc j} (omega arith)).1 (rw (pow-suc 10 (suc j)) at f.1) in
    let next : 1 < suc j → 10 ^ (suc j - 1) ≤ n / 10 =
    λ _. let q : suc j - 1 ≡ j = omega arith in rw q ((le-div_iff_mul-le {k = 10} {x = 10 ^ j} {y = n} (omega arith)).1 (rw tens at low)) in
    rw (le-ltb n 10 (omega (arith, ten-pos j)), spelled most (suc j) (n / 10) (omega arith) (omega arith, high, next))

pub digits_decimal : (n k : ℕ) → k ≤ 20 → IsDigitCount 10 1 n k → last_digits 10 k n ≡ decimal n
unfolding decimal
digits_decimal n k h f = spelled 20 k n h f

within : (most n : ℕ) → length (decimal_within most n) ≤ most
unfolding decimal_within
within zero n = omega arith
within (suc most) n =
    split (ltb n 10)
    (λ p. rw p (omega arith))
    (λ p. rw (p, length-append) (omega (arith, within most (n / 10))))

pub decimal-length : (n : ℕ) → length (decimal n) ≤ 20
unfolding decimal
decimal-length n = within 20 n

-- ---- one text after another

pub written_as : {xs ys t t₁ : List ℕ} {a m : ℕ} → Written xs a t t₁ m → xs ≡ ys → Written ys a t t₁ m
written_as p e = rw e at p

module _ {t t₁ t₂ : List ℕ} {a m m₁ : ℕ} where
  pub joined : {xs ys : List ℕ} → Written xs a t t₁ m → Written ys m t₁ t₂ m₁ → Written (xs ++ ys) a t t₂ m₁
  joined {xs} {ys} p q = written-more xs ys a t t₁ t₂ m m₁ p q

-- from the slice's front on: the text, and what was behind it
pub front : {xs t t₁ : List ℕ} {m : ℕ} → length xs ≤ length t → Written xs 0 t t₁ m → t₁ ≡ xs ++ drop (length xs) t
front {xs} {t} h p = p.is ∙ sets-eq xs t 0 (omega arith) ∙ simp (zero-add)

pub told : {xs t t₁ : List ℕ} {room m : ℕ} → length xs ≤ room → room ≤ length t → Written xs 0 t t₁ m → Told xs room t t₁ m
told {xs} {t} {t₁} {room} {m} h k p =
    record {
      size = rw (le-ltb (length t) room k) (p.end_is ∙ zero-add (length xs));
      is = rw (le-ltb (length t) room k) (front (omega arith) p);
    }

pub told-as : {xs ys t t₁ : List ℕ} {room m : ℕ} → Told xs room t t₁ m → xs ≡ ys → Told ys room t t₁ m
told-as p e = rw e at p
