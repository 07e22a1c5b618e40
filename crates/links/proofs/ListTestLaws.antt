-- Laws of the list test: a test that is made place by place is the definition's, and the rounds over the rows are together cause 4's test; and what a
-- site is that passes it within the limits. Assumes nothing.
use Prim.Native.Nat.{ℕ, suc, ◌+◌, ◌≤◌, ◌<◌}
use mathlib.Core.Path.{◌≡◌, refl, sym, ap, ◌∙◌}
use mathlib.Core.Bool.{Bool, true, false, not, ◌&&◌, ◌||◌, cond, false≢true}
use mathlib.Core.List.{List, [], ◌∷◌}
use native.Mathlib.Nat.{zero-add}
use native.Mathlib.Omega.{arith}
use native.Mathlib.Numerals.{add-one}
use lib.Dec.{leb, ltb, eqb}
use lib.ListN.{length, drop, drop_of_length-le}
use lib.Seq.{drop-cons}
use borrow.Author.Tests.{leb-true, le-leb, lt-leb, ltb-true, ltb-false, lt-ltb, ne_eqb}
use Rattle.std.specs.Prelude.{Ok, Err}
use Rattle.links.specs.Lists.{at, all, range, elem}
use Rattle.links.specs.declared.refusal.Refusal.TheVariants.{InvalidLists}
use Rattle.links.specs.Graph.{row, vertex_count, neighbors_of, rows_of, strictly_rising, never_falling, good_row, bad_offsets, bad_lists, lists_cause, site_cause, SoundLists, ListsTested}
use Rattle.links.specs.ListTest.{valid_row, valid_rows, mirrored_row, mirrored_rows, Rising}
use Rattle.links.proofs.CauseLaws.{cause-holds, cause-fails}
use Rattle.links.proofs.ListLaws.{split, or_l, or_r, and_l, all_of, all_in, elem-range, and-false}
use Rattle.links.proofs.RangeLaws.{range_at}
use Rattle.links.proofs.ApartLaws.{apart, strict_apart, never-apart}
use Rattle.links.proofs.SoundLaws.{sound-lists}
use Rattle.links.proofs.RowLaws.{length-rows, row-always, query-none}

-- ---- a test of all of a list, from place i on

-- it passes at i, and goes on
pub all-next : (p : ℕ → Bool) (xs : List ℕ) (i x : ℕ) → i < length xs → at xs i ≡ x → p x ≡ true → all p (drop (i + 1) xs) ≡ all p (drop i xs)
all-next p xs i x h e q = sym (rw (add-one, drop-cons xs i 0 h, e, q))

-- it fails at i
pub all-fails : (p : ℕ → Bool) (xs : List ℕ) (i x : ℕ) → i < length xs → at xs i ≡ x → p x ≡ false → all p (drop i xs) ≡ false
all-fails p xs i x h e q = rw (drop-cons xs i 0 h, e, q)

-- the list of the numbers below n has i at place i
pub at-range : (n i : ℕ) → i < n → at (range 0 n) i ≡ i
at-range n i h = range_at 0 n i h ∙ zero-add i

-- ---- a list whose numbers are apart by f, place by place

-- such a list, and from b up
abbrev apart_from : (ℕ → ℕ) → ℕ → List ℕ → Bool
apart_from f b xs = all (leb b) xs && apart f xs

all-leb : (b c : ℕ) (xs : List ℕ) → b ≤ c → all (leb c) xs ≡ true → all (leb b) xs ≡ true
all-leb b c [] h e = refl
all-leb b c (x ∷ xs) h e = split (leb c x)
    (λ p. rw (le-leb b x (omega (arith, leb-true c x p))) (all-leb b c xs h (rw p at e)))
    (λ p. absurd (false≢true (rw p at e)))

module _ (f : ℕ → ℕ) (grows : (x : ℕ) → x ≤ f x) where
  from_cons : (b x : ℕ) (xs : List ℕ) → b ≤ x → apart_from f b (x ∷ xs) ≡ apart_from f (f x) xs
  from_cons b x xs h = split (all (leb (f x)) xs)
      (λ p. rw (le-leb b x h, p, all-leb b (f x) xs (omega (arith, grows x)) p))
      (λ p. rw (le-leb b x h, p) (and-false (all (leb b) xs)))

  -- at place i it goes on
  pub apart_next : (b : ℕ) (xs : List ℕ) (i : ℕ) → i < length xs → b ≤ at xs i → apart_from f (f (at xs i)) (drop (i + 1) xs) ≡ apart_from f b (drop i xs)
  apart_next b xs i h k = sym (rw (add-one, drop-cons xs i 0 h) (from_cons b (at xs i) (drop (suc i) xs) k))

module _ (f : ℕ → ℕ) where
  -- it is too low there
  pub apart-fails : (b : ℕ) (xs : List ℕ) (i : ℕ) → i < length xs → at xs i < b → apart_from f b (drop i xs) ≡ false
  apart-fails b xs i h k = rw (all-fails (leb b) xs i (at xs i) h refl (lt-leb b (at xs i) k))

-- from the start
apart-start : (f : ℕ → ℕ) (xs : List ℕ) → apart_from f 0 xs ≡ apart f xs
apart-start f xs = rw (low xs)
  where
    low : (xs : List ℕ) → all (leb 0) xs ≡ true
    low [] = refl
    low (x ∷ xs) = rw (le-leb 0 x (omega arith)) (low xs)

-- ---- offsets that never fall

abbrev pub falls_from : ℕ → List ℕ → Bool
falls_from b xs = apart_from (λ x. x) b xs

pub falls-start : (xs : List ℕ) → falls_from 0 xs ≡ never_falling xs
falls-start xs = apart-start (λ x. x) xs ∙ sym (never-apart xs)

-- ---- a row by itself

abbrev pub valid_from : ℕ → ℕ → ℕ → List ℕ → Bool
valid_from n v b xs = apart_from suc b xs && all (λ u. ltb u n && not (eqb u v)) xs

module _ (n v : ℕ) where
  pub valid-start : (xs : List ℕ) → valid_from n v 0 xs ≡ valid_row n v xs
  unfolding valid_row
  valid-start xs = rw (apart-start suc xs, strict_apart xs)

  -- at place i it goes on; is too low; is n or more, or v; and the end
  pub valid-next
      : (b : ℕ) (xs : List ℕ) (i : ℕ)
      → i < length xs → b ≤ at xs i → at xs i < n → (at xs i ≡ v → ⊥)
      → valid_from n v (at xs i + 1) (drop (i + 1) xs) ≡ valid_from n v b (drop i xs)
  valid-next b xs i h k m d =
      let e : (ltb (at xs i) n && not (eqb (at xs i) v)) ≡ true = rw (lt-ltb (at xs i) n m, ne_eqb (at xs i) v d) in
      let s : at xs i + 1 ≡ suc (at xs i) = add-one (at xs i) in
      rw (s, apart_next suc (λ x. omega arith) b xs i h k, all-next (λ u. ltb u n && not (eqb u v)) xs i (at xs i) h refl e)

  pub valid-low : (b : ℕ) (xs : List ℕ) (i : ℕ) → i < length xs → at xs i < b → valid_from n v b (drop i xs) ≡ false
  valid-low b xs i h k = rw (apart-fails suc b xs i h k)

  pub valid-stray : (b : ℕ) (xs : List ℕ) (i : ℕ) → i < length xs → (ltb (at xs i) n && not (eqb (at xs i) v)) ≡ false → valid_from n v b (drop i xs) ≡ false
  valid-stray b xs i h e = rw (all-fails (λ u. ltb u n && not (eqb u v)) xs i (at xs i) h refl e) (and-false (apart_from suc b (drop i xs)))

  pub valid-end : (b : ℕ) (xs : List ℕ) (i : ℕ) → length xs ≤ i → valid_from n v b (drop i xs) ≡ true
  valid-end b xs i h = rw (drop_of_length-le xs h)

-- ---- the rounds

all-and : (p q : ℕ → Bool) (xs : List ℕ) → all (λ x. p x && q x) xs ≡ (all p xs && all q xs)
all-and p q [] = refl
all-and p q (x ∷ xs) = go (p x) (q x) (all p xs) (all q xs) (all-and p q xs)
  where
    go : (a b c d : Bool) {e : Bool} → e ≡ (c && d) → cond (a && b) e false ≡ (cond a c false && cond b d false)
    go true true c d h = h
    go true false c d h = sym (and-false c)
    go false b c d h = refl

all-ext : (p q : ℕ → Bool) → ((x : ℕ) → p x ≡ q x) → (xs : List ℕ) → all p xs ≡ all q xs
all-ext p q e [] = refl
all-ext p q e (x ∷ xs) = rw (e x, all-ext p q e xs)

and_assoc : (a b c : Bool) → (a && b && c) ≡ (a && (b && c))
and_assoc true b c = refl
and_assoc false b c = refl

module _ (o l : List ℕ) where
  -- a row by itself, and against the others
  good-row : (v : ℕ) → good_row (rows_of o l) v ≡ (valid_row (vertex_count o) v (neighbors_of o l v) && mirrored_row o l v)
  unfolding good_row valid_row mirrored_row
  good-row v =
      let n : ℕ = vertex_count o in
      let r : List ℕ = neighbors_of o l v in
      rw (row-always o l v, length-rows o l)
      (ap (λ (b : Bool). strictly_rising r && b)
      (all-ext (λ u. ltb u n && not (eqb u v) && elem v (row (rows_of o l) u)) (λ u. ltb u n && not (eqb u v) && elem v (neighbors_of o l u))
      (λ u. ap (λ (t : List ℕ). ltb u n && not (eqb u v) && elem v t) (row-always o l u)) r
      ∙ all-and (λ u. ltb u n && not (eqb u v)) (λ u. elem v (neighbors_of o l u)) r)
      ∙ sym (and_assoc (strictly_rising r) (all (λ u. ltb u n && not (eqb u v)) r) (all (λ u. elem v (neighbors_of o l u)) r)))

  -- cause 4's test of the rows, in two rounds
  pub two-rounds : bad_lists o l ≡ (bad_offsets o (length l) || not (valid_rows o l && mirrored_rows o l))
  unfolding bad_lists valid_rows mirrored_rows
  two-rounds =
      let n : ℕ = vertex_count o in
      rw (length-rows o l)
      (ap (λ (b : Bool). bad_offsets o (length l) || not b)
      (all-ext (good_row (rows_of o l)) (λ v. valid_row n v (neighbors_of o l v) && mirrored_row o l v) good-row (range 0 n)
      ∙ all-and (λ v. valid_row n v (neighbors_of o l v)) (mirrored_row o l) (range 0 n)))

  -- what the first round leaves for the second
  pub rising-of : valid_rows o l ≡ true → Rising o l
  unfolding valid_rows valid_row Rising
  rising-of e v =
      let n : ℕ = vertex_count o in
      let p : ℕ → Bool = λ v. valid_row n v (neighbors_of o l v) in
      split (ltb v n)
      (λ h. and_l (strictly_rising (neighbors_of o l v)) (all (λ u. ltb u n && not (eqb u v)) (neighbors_of o l v))
      (all_in (λ v. p v ≡ true) (range 0 n) v (all_of (λ v. p v ≡ true) p (λ x q. q) (range 0 n) e) (elem-range v 0 n (omega arith) (omega (arith, ltb-true v n h)))))
      (λ h. rw (query-none o l v (ltb-false v n h)))

  -- the answer, as a test
  module _ (r : ℕ) (e : r ≡ lists_cause o l) where
    pub lists-bad : (r ≡ 0 → ⊥) → bad_lists o l ≡ true
    unfolding lists_cause
    lists-bad f = cause-holds (bad_lists o l) 3 r e f

    pub lists-fine : r ≡ 0 → bad_lists o l ≡ false
    unfolding lists_cause
    lists-fine f = cause-fails (bad_lists o l) 3 r e f

  pub refused : bad_lists o l ≡ true → ListsTested o l (Err InvalidLists)
  unfolding lists_cause
  refused e = record { cause = rw e; sound = λ z. absurd (omega arith) }

  pub passed : bad_lists o l ≡ false → ListsTested o l (Ok tt)
  unfolding lists_cause
  passed e = record { cause = rw e; sound = λ z. sound-lists o l e }

  -- ---- the tests of the site

  -- what a site is that passes
  pub site-passed : site_cause o l ≡ 0 → SoundLists o l × (vertex_count o ≤ 16384) × (length l ≤ 131072)
  unfolding site_cause
  site-passed z = split (ltb 16384 (vertex_count o) || ltb 131072 (length l))
      (λ p. let x : ◌≡◌ {A = ℕ} 3 0 = rw p at z in absurd (omega arith))
      (λ p.
      let fine : lists_cause o l ≡ 0 = rw p at z in (
        sound-lists o l (lists-fine 0 (sym fine) refl),
        ltb-false 16384 (vertex_count o) (or_l (ltb 16384 (vertex_count o)) (ltb 131072 (length l)) p),
        ltb-false 131072 (length l) (or_r (ltb 16384 (vertex_count o)) (ltb 131072 (length l)) p),
      ))
