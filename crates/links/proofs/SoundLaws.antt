-- Laws of sound rows: below their number, strictly rising, self-free, symmetric. The list test leaves such. Assumes nothing.
use Prim.Native.Nat.{ℕ, zero, suc, ◌+◌, ◌≤◌, ◌<◌}
use mathlib.Core.Path.{◌≡◌, refl, sym, ap, ◌∙◌}
use mathlib.Core.Bool.{Bool, true, false, not, ◌&&◌, ◌||◌, false≢true}
use mathlib.Core.List.{List, [], ◌∷◌}
use native.Mathlib.Omega.{arith}
use lib.ListN.{length}
use lib.Dec.{ltb, eqb}
use borrow.Author.Tests.{ne_eqb, eqb-true, eqb-false, ltb-true, not-false}
use Rattle.links.specs.Lists.{at, All, all, elem}
use Rattle.links.specs.Graph.{row, vertices, vertex_count, strictly_rising, never_falling, rows_of, bad_offsets, good_row, bad_lists, Sound, SoundLists}
use Rattle.links.proofs.ListLaws.{split, and_l, and_r, or_l, or_r, not-of, iff-eq, tally, count, all_of, all-to, all_in, elem-range}
use Rattle.links.proofs.ApartLaws.{never-falls-by}

-- a number below all of a list is not in it
none-low : (u : ℕ) (l : List ℕ) → All (λ w. ltb u w ≡ true) l → count (eqb u) l ≡ 0
none-low u [] a = refl
none-low u (w ∷ ws) a = rw (ne_eqb u w (λ e. omega (arith, ltb-true u w a.0))) (none-low u ws a.1)

ne-zero : (n : ℕ) → (n ≡ 0 → ⊥) → 1 ≤ n
ne-zero zero f = absurd (f refl)
ne-zero (suc n) f = omega arith

-- in a rising list a number stands once or not at all
pub occurs : (u : ℕ) (l : List ℕ) → strictly_rising l ≡ true → count (eqb u) l ≡ tally (elem u l)
occurs u [] r = refl
occurs u (a ∷ l) r = split (all (ltb a) l)
    (λ q. split (eqb u a)
    (λ p. let e : a ≡ u = sym (eqb-true u a p) in
    let z : count (eqb u) l ≡ 0 = none-low u l (rw e at (all_of (λ w. ltb a w ≡ true) (ltb a) (λ x y. y) l q)) in
    simp (p, z))
    (λ p. rw p (occurs u l (rw q at r))))
    (λ q. absurd (false≢true (rw q at r)))

-- v stands in u's row as often as u in v's
pub same-links
    : (rows : List (List ℕ))
    → Sound rows
    → (u v : ℕ)
    → u < length rows
    → v < length rows
    → count (eqb v) (row rows u) ≡ count (eqb u) (row rows v)
same-links rows s u v h k = occurs v (row rows u) (s.rises u h) ∙ ap tally (s.symmetric u v h k) ∙ sym (occurs u (row rows v) (s.rises v k))

-- an entry of v's row that is below n, not v, and names v too
abbrev good_entry : List (List ℕ) → ℕ → ℕ → Bool
good_entry rows v u = ltb u (length rows) && not (eqb u v) && elem v (row rows u)

pub sound-of : (rows : List (List ℕ)) → all (good_row rows) (vertices rows) ≡ true → Sound rows
unfolding good_row
sound-of rows e =
    let n = length rows in
    let row_at : (v : ℕ) → v < n → good_row rows v ≡ true =
    λ v h. all_in (λ v. good_row rows v ≡ true) (vertices rows) v (all_of (λ v. good_row rows v ≡ true) (good_row rows) (λ x y. y) (vertices rows) e) (elem-range v 0 n (omega arith) (omega arith)) in
    let good : (v : ℕ) → v < n → All (λ u. good_entry rows v u ≡ true) (row rows v) =
    λ v h. all_of (λ u. good_entry rows v u ≡ true) (good_entry rows v) (λ x y. y) (row rows v) (and_r (strictly_rising (row rows v)) (all (good_entry rows v) (row rows v)) (row_at v h)) in
    let first : (v u : ℕ) → good_entry rows v u ≡ true → ltb u n && not (eqb u v) ≡ true = λ v u g. and_l (ltb u n && not (eqb u v)) (elem v (row rows u)) g in
    let back : (v u : ℕ) → v < n → elem u (row rows v) ≡ true → elem v (row rows u) ≡ true =
    λ v u h i. and_r (ltb u n && not (eqb u v)) (elem v (row rows u)) (all_in (λ u. good_entry rows v u ≡ true) (row rows v) u (good v h) i) in
    record {
      below = λ v h. all-to (λ u. good_entry rows v u ≡ true) (λ u. u < n) (λ u g. ltb-true u n (and_l (ltb u n) (not (eqb u v)) (first v u g))) (row rows v) (good v h);
      rises = λ v h. and_l (strictly_rising (row rows v)) (all (good_entry rows v) (row rows v)) (row_at v h);
      selfless = λ v h. split (elem v (row rows v))
          (λ i. absurd (eqb-false v v (not-of (eqb v v) (and_r (ltb v n) (not (eqb v v)) (first v v (all_in (λ u. good_entry rows v u ≡ true) (row rows v) v (good v h) i)))) refl))
          (λ i. i);
      symmetric = λ u v h k. iff-eq (elem v (row rows u)) (elem u (row rows v)) (back u v h) (back v u k);
    }

-- what the list test's 0 is worth
pub sound-lists : (offsets neighbors : List ℕ) → bad_lists offsets neighbors ≡ false → SoundLists offsets neighbors
unfolding bad_lists bad_offsets
sound-lists offsets neighbors e =
    let rows = rows_of offsets neighbors in
    let o1 : Bool = eqb (length offsets) 0 in
    let o2 : Bool = not (eqb (at offsets 0) 0) in
    let o3 : Bool = not (never_falling offsets) in
    let o4 : Bool = not (eqb (at offsets (vertex_count offsets)) (length neighbors)) in
    let good : Bool = all (good_row rows) (vertices rows) in
    let bad : o1 || o2 || o3 || o4 ≡ false = or_l (o1 || o2 || o3 || o4) (not good) e in
    let bad3 : o1 || o2 || o3 ≡ false = or_l (o1 || o2 || o3) o4 bad in
    let bad2 : o1 || o2 ≡ false = or_l (o1 || o2) o3 bad3 in
    let some : 1 ≤ length offsets = ne-zero (length offsets) (eqb-false (length offsets) 0 (or_l o1 o2 bad2)) in
    record {
      some = some;
      first = eqb-true (at offsets 0) 0 (not-false _ (or_r o1 o2 bad2));
      rises = λ v h. never-falls-by offsets (not-false _ (or_r (o1 || o2) o3 bad3)) v (v + 1) (omega arith) (omega arith);
      last = eqb-true (at offsets (vertex_count offsets)) (length neighbors) (not-false _ (or_r (o1 || o2 || o3) o4 bad));
      sound = sound-of rows (not-false _ (or_r (o1 || o2 || o3 || o4) (not good) e));
    }
