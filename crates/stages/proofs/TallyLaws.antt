-- Laws of tallies: a vertex's neighbors counted by their owners, entry by entry. Assumes nothing.
use Prim.Native.Nat.{ℕ, suc, ◌+◌, ◌-◌, ◌≤◌, ◌<◌}
use mathlib.Core.Path.{◌≡◌, ap, ◌∙◌}
use mathlib.Core.Bool.{Bool, true, cond}
use mathlib.Core.List.{List, [], ◌∷◌, ◌++◌, map}
use native.Mathlib.Omega.{arith}
use native.Mathlib.Numerals.{add-one}
use lib.ListN.{length, drop, length-drop}
use lib.Seq.{drop-cons, take-suc, get_or-drop}
use lib.Dec.{eqb}
use Rattle.links.specs.Lists.{at, any, elem}
use Rattle.links.specs.Parts.{part}
use Rattle.links.specs.Graph.{links_in}
use Rattle.links.proofs.ListLaws.{split, eqb-sym, tally, count, count-cons, count-length, count-append}

-- one more entry at the end of a part
pub part-snoc : (xs : List ℕ) (a i : ℕ) → a ≤ i → i < length xs → part xs a (i + 1) ≡ part xs a i ++ (at xs i ∷ [])
part-snoc xs a i h k =
    let e : i + 1 - a ≡ suc (i - a) = omega arith in
    let j : i - a < length (drop a xs) = simp length-drop (omega arith) in
    let f : a + (i - a) ≡ i = omega arith in
    rw (e, take-suc (drop a xs) (i - a) 0 j, get_or-drop, f)

-- one fewer at its front
pub part-cons : (xs : List ℕ) (i e : ℕ) → i < e → e ≤ length xs → part xs i e ≡ at xs i ∷ part xs (i + 1) e
part-cons xs i e h k =
    let f : e - i ≡ suc (e - (i + 1)) = omega arith in
    let j : i < length xs = omega arith in
    rw (f, drop-cons xs i 0 j, add-one)

-- whether one of a part passes a test, entry by entry
pub any-cons
    : (p : ℕ → Bool) (xs : List ℕ) (i e : ℕ) → i < e → e ≤ length xs → any p (part xs i e) ≡ cond (p (at xs i)) true (any p (part xs (i + 1) e))
any-cons p xs i e h k = ap (any p) (part-cons xs i e h k)

pub links-snoc
    : (xs os : List ℕ) (a i r : ℕ)
    → a ≤ i
    → i < length xs
    → links_in (part xs a (i + 1)) os r ≡ links_in (part xs a i) os r + tally (eqb (at os (at xs i)) r)
unfolding links_in
links-snoc xs os a i r h k =
    let p : ℕ → Bool = λ u. eqb (at os u) r in
    ap (count p) (part-snoc xs a i h k)
    ∙ count-append p (part xs a i) (at xs i ∷ [])
    ∙ omega (arith, count-cons p (at xs i) [])

pub links-cons
    : (xs os : List ℕ) (i e r : ℕ)
    → i < e
    → e ≤ length xs
    → links_in (part xs i e) os r ≡ tally (eqb (at os (at xs i)) r) + links_in (part xs (i + 1) e) os r
unfolding links_in
links-cons xs os i e r h k =
    let p : ℕ → Bool = λ u. eqb (at os u) r in
    ap (count p) (part-cons xs i e h k) ∙ count-cons p (at xs i) (part xs (i + 1) e)

pub links-none : (xs os : List ℕ) (a r : ℕ) → links_in (part xs a a) os r ≡ 0
unfolding links_in
links-none xs os a r = let e : a - a ≡ 0 = omega arith in rw e

pub links-few : (us os : List ℕ) (r : ℕ) → links_in us os r ≤ length us
unfolding links_in
links-few us os r = count-length (λ u. eqb (at os u) r) us

-- a rank with a neighbor is one of the neighbors' owners
pub links-some : (us os : List ℕ) (r : ℕ) → 1 ≤ links_in us os r → elem r (map (at os) us) ≡ true
unfolding links_in
links-some [] os r h = absurd (omega arith)
links-some (u ∷ us) os r h =
    let p : ℕ → Bool = λ u. eqb (at os u) r in
    split (eqb (at os u) r)
    (λ q. rw (eqb-sym r (at os u), q))
    (λ q. rw (eqb-sym r (at os u), q) (links-some us os r (omega (arith, h, count-cons p u us, ap tally q))))
