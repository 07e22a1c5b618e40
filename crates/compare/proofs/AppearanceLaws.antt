-- Laws of first appearance: the place of a number in a list, and the ranks that appear. Assumes nothing.
use Prim.Native.Nat.{ℕ, suc, ◌+◌, ◌≤◌, ◌<◌}
use mathlib.Core.Path.{◌≡◌, refl, sym, ap, ◌∙◌}
use mathlib.Core.Bool.{true, false, ◌||◌, true≢false, false≢true}
use mathlib.Core.List.{List, [], ◌∷◌, ◌++◌}
use native.Mathlib.Omega.{arith}
use lib.ListN.{length, length-append}
use lib.Dec.{eqb}
use borrow.Author.Tests.{eq-eqb, eqb-true}
use Rattle.links.specs.Lists.{at, elem, foldl}
use Rattle.links.proofs.ListLaws.{split, or-false, elem-append, foldl-snoc}
use Rattle.compare.specs.Order.{meeting, appearing, place_of}

-- ---- places

pub place-below : (x : ℕ) (xs : List ℕ) → elem x xs ≡ true → place_of x xs < length xs
place-below x [] e = absurd (false≢true e)
place-below x (y ∷ ys) e = split (eqb x y)
    (λ p. rw p (omega arith))
    (λ p. let l : place_of x ys < length ys = place-below x ys (rw p at e) in rw p (omega arith))

pub at_place : (x : ℕ) (xs : List ℕ) → elem x xs ≡ true → at xs (place_of x xs) ≡ x
at_place x [] e = absurd (false≢true e)
at_place x (y ∷ ys) e = split (eqb x y)
    (λ p. rw p (sym (eqb-true x y p)))
    (λ p. rw p (at_place x ys (rw p at e)))

-- two that stand in a list at one place are one
pub place-apart : (x y : ℕ) (xs : List ℕ) → elem x xs ≡ true → elem y xs ≡ true → place_of x xs ≡ place_of y xs → x ≡ y
place-apart x y xs d e p = sym (at_place x xs d) ∙ ap (at xs) p ∙ at_place y xs e

pub place-front : (x : ℕ) (xs ys : List ℕ) → elem x xs ≡ true → place_of x (xs ++ ys) ≡ place_of x xs
place-front x [] ys e = absurd (false≢true e)
place-front x (y ∷ xs) ys e = split (eqb x y) (λ p. rw p) (λ p. rw p (ap suc (place-front x xs ys (rw p at e))))

pub place_end : (x : ℕ) (xs : List ℕ) → elem x xs ≡ false → place_of x (xs ++ (x ∷ [])) ≡ length xs
place_end x [] e = rw (eq-eqb x x refl)
place_end x (y ∷ xs) e = split (eqb x y) (λ p. absurd (true≢false (rw p at e))) (λ p. rw p (ap suc (place_end x xs (rw p at e))))

-- ---- the ranks that appear

pub elem-meeting : (x r : ℕ) (met : List ℕ) → elem x (meeting met r) ≡ (elem x met || eqb x r)
elem-meeting x r met = split (elem r met)
    (λ p. rw p (split (eqb x r)
    (λ q. let e : x ≡ r = eqb-true x r q in let m : elem x met ≡ true = rw e p in rw m)
    (λ q. rw q (sym (or-false (elem x met))))))
    (λ p. rw p (elem-append x met (r ∷ []) ∙ split (eqb x r) (λ q. rw q) (λ q. rw q)))

elem-met : (x : ℕ) (met os : List ℕ) → elem x (foldl meeting met os) ≡ (elem x met || elem x os)
elem-met x met [] = sym (or-false (elem x met))
elem-met x met (o ∷ os) =
    elem-met x (meeting met o) os ∙ rw (elem-meeting x o met) (split (elem x met) (λ p. rw p) (λ p. split (eqb x o) (λ q. rw (p, q)) (λ q. rw (p, q))))

pub elem-appearing : (x : ℕ) (owners : List ℕ) → elem x (appearing owners) ≡ elem x owners
unfolding appearing
elem-appearing x owners = elem-met x [] owners

few-met : (met os : List ℕ) → length (foldl meeting met os) ≤ length met + length os
few-met met [] = omega arith
few-met met (o ∷ os) =
    let one : length (meeting met o) ≤ length met + 1 = split (elem o met) (λ p. rw p (omega arith)) (λ p. rw p (omega (arith, length-append met (o ∷ [])))) in
    omega (arith, few-met (meeting met o) os, one)

pub few-appearing : (owners : List ℕ) → length (appearing owners) ≤ length owners
unfolding appearing
few-appearing owners = omega (arith, few-met [] owners)

-- one owner more
pub appearing-snoc : (owners : List ℕ) (o : ℕ) → appearing (owners ++ (o ∷ [])) ≡ meeting (appearing owners) o
unfolding appearing
appearing-snoc owners o = foldl-snoc meeting [] owners o refl
