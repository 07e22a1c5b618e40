-- The cut entries counted row by row; and each cut link of sound rows is two of them, one from either end. Assumes nothing.
use Prim.Native.Nat.{ℕ, ◌+◌, ◌-◌, ◌*◌, ◌≤◌, ◌<◌}
use mathlib.Core.Path.{◌≡◌, refl, sym, ap, ◌∙◌}
use mathlib.Core.Bool.{Bool, true, false, not, ◌&&◌, cond, true≢false}
use mathlib.Core.List.{List, [], ◌∷◌, map}
use native.Mathlib.Omega.{arith}
use lib.ListN.{length, drop}
use lib.Dec.{ltb, eqb}
use borrow.Author.Tests.{eqb-false, lt-ltb, le-ltb, ltb-true, ltb-false}
use Rattle.links.specs.Lists.{at, filter, elem}
use Rattle.links.specs.Loads.{saturating}
use Rattle.links.specs.Graph.{row, vertex_count, rows_of, neighbors_of, Sound, OwnedLists, links, is_cut, foreign_in, links_cut, cut_entries}
use Rattle.links.proofs.ListLaws.{split, eqb-sym, tally, count, count-cons, count-is, count-length, count-drop, count-ext, count_kept, count-concat, total, total_ext, total-add, total-swap, total-le, total-same, total_left, total-done, sum-total, counted}
use Rattle.links.proofs.RowLaws.{length-rows, row-always, degree-few}
use Rattle.links.proofs.SoundLaws.{same-links}

-- ---- a row on both sides of its vertex

-- those later than v that pass a test, those earlier than v
abbrev pub later : ℕ → (ℕ → Bool) → ℕ → Bool
later v t u = ltb v u && t u

abbrev pub earlier : ℕ → (ℕ → Bool) → ℕ → Bool
earlier v t u = ltb u v && t u

pub both-sides : (v : ℕ) (t : ℕ → Bool) (us : List ℕ) → elem v us ≡ false → count (later v t) us + count (earlier v t) us ≡ count t us
both-sides v t [] h = refl
both-sides v t (u ∷ us) h = split (eqb v u)
    (λ d. absurd (true≢false (rw d at h)))
    (λ d.
    let ih = both-sides v t us (rw d at h) in
    let n = eqb-false v u d in
    let a = count-cons t u us in
    split (ltb v u)
    (λ p.
    let q : ltb u v ≡ false = le-ltb u v (omega (arith, ltb-true v u p)) in
    omega (arith, ih, a, count-is (later v t) u us (t u) (rw p), count-is (earlier v t) u us false (rw q)))
    (λ p.
    let q : ltb u v ≡ true = lt-ltb u v (omega (arith, ltb-false v u p)) in
    omega (arith, ih, a, count-is (later v t) u us false (rw p), count-is (earlier v t) u us (t u) (rw q))))

-- ---- cut links and cut entries

module _ (rows : List (List ℕ)) (s : Sound rows) (own : List ℕ) where
  -- v and an entry of its row have two owners: as a pair that begins with v, as one that ends with it
  abbrev cut_from : ℕ → ℕ → Bool
  cut_from v u = is_cut own (v, u)

  abbrev cut_to : ℕ → ℕ → Bool
  cut_to v u = is_cut own (u, v)

  -- an entry that is earlier in one row is later in the other
  mirrored
      : total 0 (length rows) (λ v. count (earlier v (cut_to v)) (row rows v)) ≡ total 0 (length rows) (λ v. count (later v (cut_from v)) (row rows v))
  mirrored =
      let n = length rows in
      total_ext 0 n _ (λ v. total 0 n (λ u. cond (earlier v (cut_to v) u) (count (eqb u) (row rows v)) 0))
      (λ v h k. sym (counted (earlier v (cut_to v)) n (row rows v) (s.below v (omega arith))))
      ∙ total-swap 0 n 0 n (λ v u. cond (earlier v (cut_to v) u) (count (eqb u) (row rows v)) 0)
      ∙ total_ext 0 n _ (λ u. total 0 n (λ v. cond (later u (cut_from u) v) (count (eqb v) (row rows u)) 0))
      (λ u h k. total_ext 0 n _ _ (λ v a b. rw (same-links rows s v u (omega arith) (omega arith))))
      ∙ total_ext 0 n _ (λ u. count (later u (cut_from u)) (row rows u))
      (λ u h k. counted (later u (cut_from u)) n (row rows u) (s.below u (omega arith)))

  -- a row's entries with another owner, on both sides
  row-sides : (v : ℕ) → v < length rows → count (cut_to v) (row rows v) ≡ count (later v (cut_from v)) (row rows v) + count (earlier v (cut_to v)) (row rows v)
  row-sides v h =
      let same : count (later v (cut_to v)) (row rows v) ≡ count (later v (cut_from v)) (row rows v) =
      count-ext (later v (cut_to v)) (later v (cut_from v)) (λ u. ap (λ (b : Bool). ltb v u && not b) (eqb-sym (at own u) (at own v))) (row rows v) in
      omega (arith, same, both-sides v (cut_to v) (row rows v) (s.selfless v h))

  -- "that the half is whole"
  pub cut_twice : cut_entries rows own ≡ 2 * links_cut rows own
  unfolding cut_entries links_cut links
  cut_twice =
      let n = length rows in
      let once = total 0 n (λ v. count (later v (cut_from v)) (row rows v)) in
      let listed : links_cut rows own ≡ once =
      count-concat (is_cut own) (λ v. map (λ u. (v, u)) (filter (ltb v) (row rows v))) 0 n
      ∙ total_ext 0 n _ _ (λ v h k. count_kept (is_cut own) (λ u. (v, u)) (ltb v) (row rows v)) in
      let entries : cut_entries rows own ≡ once + total 0 n (λ v. count (earlier v (cut_to v)) (row rows v)) =
      sum-total _ 0 n ∙ total_ext 0 n _ _ (λ v h k. row-sides v (omega arith)) ∙ total-add 0 n _ _ in
      omega (arith, listed, entries, mirrored)

-- ---- the cut entries, counted row by row

pub cut-total
    : (rows : List (List ℕ)) (owners : List ℕ) → cut_entries rows owners ≡ total 0 (length rows) (λ v. foreign_in (row rows v) owners (at owners v))
unfolding cut_entries foreign_in
cut-total rows owners = sum-total (λ v. foreign_in (row rows v) owners (at owners v)) 0 (length rows)

-- one entry more
pub foreign-drop
    : (us owners : List ℕ) (home i : ℕ)
    → i < length us
    → foreign_in (drop i us) owners home ≡ tally (not (eqb (at owners (at us i)) home)) + foreign_in (drop (i + 1) us) owners home
unfolding foreign_in
foreign-drop us owners home i h = count-drop us i 0 h (λ u. not (eqb (at owners u) home))

pub foreign-few : (us owners : List ℕ) (home : ℕ) → foreign_in us owners home ≤ length us
unfolding foreign_in
foreign-few us owners home = count-length (λ u. not (eqb (at owners u) home)) us

-- what is left to count from v on
abbrev pub cut_left : List ℕ → List ℕ → List ℕ → ℕ → ℕ
cut_left offsets neighbors owners v = total v (vertex_count offsets - v) (λ u. foreign_in (neighbors_of offsets neighbors u) owners (at owners u))

module _ (offsets neighbors owners : List ℕ) where
  pub cut-start : 0 + cut_left offsets neighbors owners 0 ≡ cut_entries (rows_of offsets neighbors) owners
  cut-start =
      let rows = rows_of offsets neighbors in
      let z : vertex_count offsets - 0 ≡ length rows = omega (arith, length-rows offsets neighbors) in
      let each = total_ext 0 (length rows) (λ u. foreign_in (row rows u) owners (at owners u)) (λ u. foreign_in (neighbors_of offsets neighbors u) owners (at owners u))
      (λ u a b. ap (λ (us : List ℕ). foreign_in us owners (at owners u)) (row-always offsets neighbors u)) in
      rw z (omega (arith, each, cut-total rows owners))

  -- one row more
  pub cut-more
      : (x v : ℕ)
      → v < vertex_count offsets
      → saturating (saturating (x + foreign_in (neighbors_of offsets neighbors v) owners (at owners v)) + cut_left offsets neighbors owners (v + 1))
      ≡ saturating (x + cut_left offsets neighbors owners v)
  cut-more x v h = omega (arith, total_left (λ u. foreign_in (neighbors_of offsets neighbors u) owners (at owners u)) v (vertex_count offsets) h)

  pub cut-done : (x v : ℕ) → vertex_count offsets ≤ v → saturating (x + cut_left offsets neighbors owners v) ≡ saturating x
  cut-done x v h = omega (arith, total-done (λ u. foreign_in (neighbors_of offsets neighbors u) owners (at owners u)) v (vertex_count offsets) h)

  -- within the limits the count does not saturate
  module _ (o : OwnedLists offsets neighbors owners) where
    pub cut-few : cut_entries (rows_of offsets neighbors) owners ≤ 131072 * 16384
    cut-few =
        let rows = rows_of offsets neighbors in
        let n = length rows in
        let each = total-le 0 n (λ v. foreign_in (row rows v) owners (at owners v)) (λ v. 131072) (λ v a b. omega (arith, foreign-few (row rows v) owners (at owners v), degree-few offsets neighbors v, o.short)) in
        omega (arith, cut-total rows owners, each, total-same 0 n 131072, length-rows offsets neighbors, o.sized, o.few)

    pub cut_fits : (x : ℕ) → x ≡ saturating (cut_entries (rows_of offsets neighbors) owners) → x ≡ cut_entries (rows_of offsets neighbors) owners
    cut_fits x e = omega (arith, e, cut-few)
