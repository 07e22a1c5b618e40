-- Laws of the search by halves: more steps than places change nothing, each step goes on in one half, and in a rising row it finds what is there. Assumes nothing.
use Prim.Native.Nat.{ℕ, zero, suc, ◌+◌, ◌-◌, ◌/◌, ◌≤◌, ◌<◌}
use mathlib.Core.Path.{◌≡◌, refl, sym, ◌∙◌}
use mathlib.Core.Bool.{true, false}
use mathlib.Core.List.{List}
use native.Mathlib.Omega.{arith}
use lib.ListN.{length}
use lib.Dec.{leb, ltb, eqb}
use borrow.Author.Tests.{le-leb, lt-leb, leb-true, leb-false, ltb-true, ltb-false, lt-ltb, le-ltb, eqb-true, eqb-false, eq-eqb, ne_eqb}
use Rattle.links.specs.Lists.{at, elem}
use Rattle.links.specs.Graph.{strictly_rising}
use Rattle.links.specs.ListTest.{found_between, found}
use Rattle.links.proofs.ListLaws.{split}
use Rattle.links.proofs.ApartLaws.{rises_by}
use Rattle.links.proofs.RowLaws.{elem-place, elem-nowhere}

module _ (row : List ℕ) (x : ℕ) where
  -- no place
  pub found_none : (n low high : ℕ) → high ≤ low → found_between row x n low high ≡ false
  found_none zero low high h = refl
  found_none (suc n) low high h = rw (le-leb high low h)

  -- steps enough are as good as more
  pub found-steps : (n m low high : ℕ) → high - low ≤ n → high - low ≤ m → found_between row x n low high ≡ found_between row x m low high
  found-steps zero m low high h k = sym (found_none m low high (omega arith))
  found-steps (suc n) zero low high h k = found_none (suc n) low high (omega arith)
  found-steps (suc n) (suc m) low high h k = split (leb high low)
      (λ p. rw p)
      (λ p.
      let q : low < high = leb-false high low p in
      let c : ℕ = low + (high - low) / 2 in
      rw (found-steps n m (c + 1) high (omega arith) (omega arith), found-steps n m low c (omega arith) (omega arith)))

  -- from the first place to the last
  pub found-whole : found_between row x (length row - 0) 0 (length row) ≡ found row x
  unfolding found
  found-whole = found-steps (length row - 0) (length row) 0 (length row) (omega arith) (omega arith)

  module _ (low high : ℕ) (h : low < high) where
    abbrev middle : ℕ
    middle = low + (high - low) / 2

    again : found_between row x (high - low) low high ≡ found_between row x (suc (high - low)) low high
    again = found-steps (high - low) (suc (high - low)) low high (omega arith) (omega arith)

    -- the middle is x, is below it, is above it
    pub found_here : at row middle ≡ x → found_between row x (high - low) low high ≡ true
    found_here e = again ∙ rw (lt-leb high low h, eq-eqb (at row middle) x e)

    pub found-later : at row middle < x → found_between row x (high - low) low high ≡ found_between row x (high - (middle + 1)) (middle + 1) high
    found-later m =
        again
        ∙ rw (lt-leb high low h, ne_eqb (at row middle) x (λ e. omega arith), lt-ltb (at row middle) x m)
        (found-steps (high - low) (high - (middle + 1)) (middle + 1) high (omega arith) (omega arith))

    pub found-earlier : x < at row middle → found_between row x (high - low) low high ≡ found_between row x (middle - low) low middle
    found-earlier m =
        again
        ∙ rw (lt-leb high low h, ne_eqb (at row middle) x (λ e. omega arith), le-ltb (at row middle) x (omega arith))
        (found-steps (high - low) (middle - low) low middle (omega arith) (omega arith))

  -- in a rising row all up to a place that is below x are below x, and all from one above it on are above it
  module _ (r : strictly_rising row ≡ true) where
    below : (m k : ℕ) → m < length row → at row m < x → k < m + 1 → at row k < x
    below m k l h n = split (eqb k m) (λ p. rw (eqb-true k m p) h) (λ p. let d = eqb-false k m p in omega (arith, rises_by row r k m (omega arith) l))

    above : (m k : ℕ) → x < at row m → m ≤ k → k < length row → x < at row k
    above m k h n l = split (eqb k m) (λ p. rw (eqb-true k m p) h) (λ p. let d = eqb-false k m p in omega (arith, rises_by row r m k (omega arith) l))

    nowhere : (low high : ℕ) → high ≤ low → ((k : ℕ) → k < low → at row k < x) → ((k : ℕ) → high ≤ k → k < length row → x < at row k) → false ≡ elem x row
    nowhere low high h b a = sym (elem-nowhere row x (λ i l e. split (ltb i low)
        (λ q. omega (arith, b i (ltb-true i low q)))
        (λ q. omega (arith, a i (omega (arith, ltb-false i low q)) l))))

    more : (y : ℕ) → (y ≡ x → ⊥) → x ≤ y → x < y
    more y d h = omega arith

    between
        : (n low high : ℕ) → high - low ≤ n → high ≤ length row
        → ((k : ℕ) → k < low → at row k < x) → ((k : ℕ) → high ≤ k → k < length row → x < at row k)
        → found_between row x n low high ≡ elem x row
    between zero low high s l b a = nowhere low high (omega arith) b a
    between (suc n) low high s l b a =
        let c : ℕ = low + (high - low) / 2 in
        split (leb high low)
        (λ p. rw p (nowhere low high (leb-true high low p) b a))
        (λ p. let h : low < high = leb-false high low p in
        split (eqb (at row c) x)
        (λ q. rw (p, q) (sym (elem-place row c x (omega arith) (eqb-true (at row c) x q))))
        (λ q. split (ltb (at row c) x)
        (λ r. rw (p, q, r) (between n (c + 1) high (omega arith) l (λ k m. below c k (omega arith) (ltb-true (at row c) x r) m) a))
        (λ r. rw (p, q, r) (between n low c (omega arith) (omega arith) b (λ k m o. above c k (more (at row c) (eqb-false (at row c) x q) (ltb-false (at row c) x r)) m o)))))

    pub found-elem : found row x ≡ elem x row
    found-elem = sym found-whole ∙ between (length row - 0) 0 (length row) (omega arith) (omega arith) (λ k h. absurd (omega arith)) (λ k h m. absurd (omega arith))
