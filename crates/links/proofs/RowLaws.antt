-- Laws of rows: where the row of a vertex lies in the neighbor slice, and what its entries are. Assumes nothing.
use mathlib.Core.Path.{◌≡◌, refl, sym, ap, ◌∙◌}
use mathlib.Core.Bool.{true, false}
use mathlib.Core.List.{List, [], ◌∷◌, map}
use Prim.Native.Nat.{ℕ, zero, suc, ◌+◌, ◌-◌, ◌≤◌, ◌<◌}
use native.Mathlib.Nat.{not-suc-le-zero, le_of_suc-le-suc, zero-add}
use native.Mathlib.Omega.{arith}
use borrow.Author.Tests.{le-leb, lt-leb, leb-true, leb-false, ltb-true, ltb-false, eq-eqb, ne_eqb, eqb-true}
use lib.Dec.{eqb, leb, ltb}
use lib.ListN.{length, get_or, length-map, get_or-eq_default}
use Rattle.links.specs.Lists.{at, All, range, elem}
use Rattle.links.specs.Parts.{part}
use Rattle.links.specs.Graph.{row, degree, rows_of, vertex_count, neighbors_of, neighbors_cause, strictly_rising, SoundLists}
use Rattle.links.proofs.ListLaws.{split, length-range}
use Rattle.links.proofs.PartLaws.{length_part, get_or-part}
use Rattle.links.proofs.ApartLaws.{rises_by}

pub get_or-map-range : {A : Type 0} (d : A) (f : ℕ → A) (i n k : ℕ) → k < n → get_or (map f (range i n)) k d ≡ f (i + k)
get_or-map-range d f i zero k h = absurd (not-suc-le-zero h)
get_or-map-range d f i (suc n) zero h = let e : i + 0 ≡ i = omega arith in rw e
get_or-map-range d f i (suc n) (suc k) h =
    let e : suc i + k ≡ i + suc k = omega arith in
    get_or-map-range d f (suc i) n k (le_of_suc-le-suc h) ∙ ap f e

pub length-rows : (o l : List ℕ) → length (rows_of o l) ≡ vertex_count o
unfolding rows_of
length-rows o l = length-map (range 0 (vertex_count o)) (neighbors_of o l) ∙ length-range 0 (vertex_count o)

pub row-query : (o l : List ℕ) (v : ℕ) → v < vertex_count o → row (rows_of o l) v ≡ neighbors_of o l v
unfolding rows_of
row-query o l v h = get_or-map-range [] (neighbors_of o l) 0 (vertex_count o) v h ∙ ap (neighbors_of o l) (zero-add v)

-- what holds of each of a list holds at each place, and the other way round
pub all-place : (P : ℕ → Type 0) (xs : List ℕ) (i : ℕ) → All P xs → i < length xs → P (at xs i)
all-place P [] i a h = absurd (not-suc-le-zero h)
all-place P (x ∷ xs) zero a h = a.0
all-place P (x ∷ xs) (suc i) a h = all-place P xs i a.1 (le_of_suc-le-suc h)

pub by_place : (P : ℕ → Type 0) (xs : List ℕ) → ((i : ℕ) → i < length xs → P (at xs i)) → All P xs
by_place P [] h = tt
by_place P (x ∷ xs) h = (h 0 (omega arith), by_place P xs (λ i k. h (suc i) (omega arith)))

-- of numbers below n a strictly rising list has at most n
pub rises-few : (xs : List ℕ) → strictly_rising xs ≡ true → (n : ℕ) → ((i : ℕ) → i < length xs → at xs i < n) → length xs ≤ n
rises-few xs e n f = split (ltb n (length xs))
    (λ p. let l = ltb-true n (length xs) p in absurd (omega (arith, from n l, f n l)))
    (λ p. ltb-false n (length xs) p)
  where
    from : (i : ℕ) → i < length xs → i ≤ at xs i
    from zero h = omega arith
    from (suc i) h = omega (arith, from i (omega arith), rises_by xs e i (suc i) (omega arith) h)

module _ (o l : List ℕ) (s : SoundLists o l) where
  climb : (a d : ℕ) → a + d ≤ vertex_count o → at o a ≤ at o (a + d)
  climb a zero h = let e : a + 0 ≡ a = omega arith in rw e (omega arith)
  climb a (suc d) h =
      let e : a + suc d ≡ a + d + 1 = omega arith in
      let p : at o a ≤ at o (a + d) = climb a d (omega arith) in
      let q : at o (a + d) ≤ at o (a + d + 1) = s.rises (a + d) (omega arith) in
      rw e (omega arith)

  pub offsets-rise : (a b : ℕ) → a ≤ b → b ≤ vertex_count o → at o a ≤ at o b
  offsets-rise a b h k = let e : a + (b - a) ≡ b = omega arith in rw e at (climb a (b - a) (omega arith))

  pub offsets-fit : (v : ℕ) → v ≤ vertex_count o → at o v ≤ length l
  offsets-fit v h = omega (arith, offsets-rise v (vertex_count o) h (omega arith), s.last)

  module _ (v : ℕ) (h : v < vertex_count o) where
    pub row_is : row (rows_of o l) v ≡ part l (at o v) (at o (v + 1))
    unfolding neighbors_of neighbors_cause
    row_is =
        let a : leb (vertex_count o) v ≡ false = lt-leb (vertex_count o) v h in
        let b : leb (at o v) (at o (v + 1)) ≡ true = le-leb _ _ (s.rises v h) in
        let c : leb (at o (v + 1)) (length l) ≡ true = le-leb _ _ (offsets-fit (v + 1) (omega arith)) in
        row-query o l v h ∙ rw (a, b, c)

    pub length-row : length (row (rows_of o l) v) ≡ at o (v + 1) - at o v
    length-row = ap length row_is ∙ length_part l (at o v) (at o (v + 1)) (s.rises v h) (offsets-fit (v + 1) (omega arith))

    pub row_at : (i : ℕ) → i < length (row (rows_of o l) v) → at (row (rows_of o l) v) i ≡ at l (at o v + i)
    row_at i m = ap (λ (r : List ℕ). at r i) row_is ∙ get_or-part l (at o v) (at o (v + 1)) i (rw length-row at m)

    pub row_below : (i : ℕ) → i < length (row (rows_of o l) v) → at (row (rows_of o l) v) i < vertex_count o
    row_below i m =
        let e = length-rows o l in
        rw e at (all-place (λ u. u < length (rows_of o l)) (row (rows_of o l) v) i (s.sound.below v (rw e h)) m)

    pub row-rises : (i j : ℕ) → i < j → j < length (row (rows_of o l) v) → at (row (rows_of o l) v) i < at (row (rows_of o l) v) j
    row-rises = rises_by (row (rows_of o l) v) (s.sound.rises v (rw (length-rows o l) h))

-- ---- the query, on any lists

-- no cause
pub cause-zero : (o l : List ℕ) (v : ℕ) → neighbors_cause o l v ≡ 0 → (v < vertex_count o) × (at o v ≤ at o (v + 1)) × (at o (v + 1) ≤ length l)
unfolding neighbors_cause
cause-zero o l v e = split (leb (vertex_count o) v)
    (λ p. let z : ◌≡◌ {A = ℕ} 11 0 = rw p at e in absurd (omega arith))
    (λ p. split (leb (at o v) (at o (v + 1)))
    (λ q. split (leb (at o (v + 1)) (length l))
    (λ r. (leb-false (vertex_count o) v p, leb-true (at o v) (at o (v + 1)) q, leb-true (at o (v + 1)) (length l) r))
    (λ r. let z : ◌≡◌ {A = ℕ} 4 0 = rw (p, q, r) at e in absurd (omega arith)))
    (λ q. let z : ◌≡◌ {A = ℕ} 4 0 = rw (p, q) at e in absurd (omega arith)))

-- no vertex
pub query-none : (o l : List ℕ) (v : ℕ) → vertex_count o ≤ v → neighbors_of o l v ≡ []
unfolding neighbors_of neighbors_cause
query-none o l v h = rw (le-leb (vertex_count o) v h)

-- a row is what the query hands out, past the last too
pub row-always : (o l : List ℕ) (v : ℕ) → row (rows_of o l) v ≡ neighbors_of o l v
row-always o l v = split (leb (vertex_count o) v)
    (λ p. let h : vertex_count o ≤ v = leb-true (vertex_count o) v p in
    get_or-eq_default (rows_of o l) [] (rw (length-rows o l) h) ∙ sym (query-none o l v h))
    (λ p. row-query o l v (leb-false (vertex_count o) v p))

-- ---- being in a list, by places

-- a row is a part of the neighbors
pub degree-few : (offsets neighbors : List ℕ) (u : ℕ) → degree (rows_of offsets neighbors) u ≤ length neighbors
unfolding neighbors_of
degree-few offsets neighbors u =
    rw (row-always offsets neighbors u)
    (split (eqb (neighbors_cause offsets neighbors u) 0)
    (λ p. let z = cause-zero offsets neighbors u (eqb-true (neighbors_cause offsets neighbors u) 0 p) in
    rw p (omega (arith, length_part neighbors (at offsets u) (at offsets (u + 1)) z.1 z.2)))
    (λ p. rw p (omega arith)))

pub elem-place : (xs : List ℕ) (i x : ℕ) → i < length xs → at xs i ≡ x → elem x xs ≡ true
elem-place [] i x h e = absurd (not-suc-le-zero h)
elem-place (y ∷ xs) zero x h e = rw (eq-eqb x y (sym e))
elem-place (y ∷ xs) (suc i) x h e = split (eqb x y) (λ p. rw p) (λ p. rw p (elem-place xs i x (le_of_suc-le-suc h) e))

pub elem-nowhere : (xs : List ℕ) (x : ℕ) → ((i : ℕ) → i < length xs → at xs i ≡ x → ⊥) → elem x xs ≡ false
elem-nowhere [] x h = refl
elem-nowhere (y ∷ xs) x h = rw (ne_eqb x y (λ e. h 0 (omega arith) (sym e))) (elem-nowhere xs x (λ i l e. h (suc i) (omega arith) e))
