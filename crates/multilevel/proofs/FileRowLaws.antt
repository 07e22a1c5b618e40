-- Laws of the rows of an accepted file: made link by link they are the rising neighbor lists, the lone vertices' are the empty ones, they are sound,
-- and they have two entries a link. Assumes nothing.
use Prim.Native.Nat.{ℕ, zero, suc, ◌+◌, ◌-◌, ◌*◌, ◌≤◌, ◌<◌}
use mathlib.Core.Path.{◌≡◌, refl, sym, ap, ◌∙◌}
use mathlib.Core.Logic.{◌⊎◌, inl, inr, ⊎_elim}
use mathlib.Core.Bool.{Bool, true, false, not, ◌&&◌, ◌||◌, cond}
use mathlib.Core.List.{List, [], ◌∷◌, ◌++◌, map, append-nil}
use native.Mathlib.Omega.{arith}
use native.Mathlib.Nat.{zero-add}
use lib.ListN.{length, length-append, length-map}
use lib.Dec.{ltb, eqb}
use borrow.Author.Tests.{eq-eqb, ne_eqb, lt-ltb, ltb-true, eqb-true, eqb-false}
use Rattle.links.specs.Lists.{All, any, all, range, elem, empty, concat_map}
use Rattle.links.specs.Graph.{row, strictly_rising, rows_of, packed, Sound, SoundLists}
use Rattle.links.proofs.ListLaws.{split, any-ext, eqb-sym, and_l, and_r, all_of, all-to, all_in, all_append, all_filter, all-range, any_none, elem-filter, elem-range, elem-concat, length-range, total, total_ext, total-add, total-zero, total-point, and-true}
use Rattle.links.proofs.RangeLaws.{filter-ext, range_snoc, concat-append, filter-rises, rises-snoc, rising-filter}
use Rattle.links.proofs.RowLaws.{get_or-map-range}
use Rattle.links.proofs.PackLaws.{sound-packed, rows-packed}
use Rattle.multilevel.specs.File.{low_end, high_end, link_before, good_link, good_links, vertex_count_of, link_count_of, linked_in, file_row, file_rows, file_offsets, file_neighbors, other_end, row_up_to, is_end, lone_in, has_lone}

length-packed : (f : ℕ → List ℕ) (i n : ℕ) → length (packed (map f (range i n))) ≡ total i n (λ v. length (f v))
unfolding total
length-packed f i zero = refl
length-packed f i (suc n) = omega (arith, length-append (f i) (packed (map f (range (suc i) n))), length-packed f (suc i) n)

empty-append : (xs ys : List ℕ) → empty (xs ++ ys) ≡ (empty xs && empty ys)
empty-append [] ys = refl
empty-append (x ∷ xs) ys = refl

module _ (b : List ℕ) where
  -- link i has the ends v and u
  abbrev Touch : ℕ → ℕ → ℕ → Type 0
  Touch i v u = ((low_end b i ≡ v) × (high_end b i ≡ u)) ⊎ ((high_end b i ≡ v) × (low_end b i ≡ u))

  -- link i comes before link j
  pub record Before (i j : ℕ) : Type 0 where
    pub low : low_end b i ≤ low_end b j
    pub high : low_end b i ≡ low_end b j → high_end b i < high_end b j

  before_of : (i j : ℕ) → link_before b i j ≡ true → Before i j
  unfolding link_before
  before_of i j e = split (ltb (low_end b i) (low_end b j))
      (λ p. let h = ltb-true (low_end b i) (low_end b j) p in record { low = omega arith; high = λ q. absurd (omega arith) })
      (λ p.
      let q : (eqb (low_end b j) (low_end b i) && ltb (high_end b i) (high_end b j)) ≡ true = rw p at e in
      let s = eqb-true (low_end b j) (low_end b i) (and_l (eqb (low_end b j) (low_end b i)) (ltb (high_end b i) (high_end b j)) q) in
      let t = ltb-true (high_end b i) (high_end b j) (and_r (eqb (low_end b j) (low_end b i)) (ltb (high_end b i) (high_end b j)) q) in
      record { low = omega arith; high = λ z. t })

  before-trans : (i j k : ℕ) → Before i j → Before j k → Before i k
  before-trans i j k p q =
      record {
        low = omega (arith, p.low, q.low);
        high = λ e.
            let s : low_end b i ≡ low_end b j = omega (arith, p.low, q.low) in
            let t : low_end b j ≡ low_end b k = omega (arith, p.low, q.low) in
            omega (arith, p.high s, q.high t);
      }

  module _ (g : good_links b ≡ true) where
    good-at : (i : ℕ) → i < link_count_of b → good_link b i ≡ true
    unfolding good_links
    good-at i h =
        all_in (λ i. good_link b i ≡ true) (range 0 (link_count_of b)) i (all_of (λ i. good_link b i ≡ true) (good_link b) (λ x y. y) (range 0 (link_count_of b)) g)
        (elem-range i 0 (link_count_of b) (omega arith) (omega arith))

    module _ (i : ℕ) (h : i < link_count_of b) where
      inner : (ltb (low_end b i) (high_end b i) && ltb (high_end b i) (vertex_count_of b)) ≡ true
      unfolding good_link
      inner = and_l (ltb (low_end b i) (high_end b i) && ltb (high_end b i) (vertex_count_of b)) (eqb i 0 || link_before b (i - 1) i) (good-at i h)

      pub low-high : low_end b i < high_end b i
      low-high = ltb-true (low_end b i) (high_end b i) (and_l (ltb (low_end b i) (high_end b i)) (ltb (high_end b i) (vertex_count_of b)) inner)

      pub high-in : high_end b i < vertex_count_of b
      high-in = ltb-true (high_end b i) (vertex_count_of b) (and_r (ltb (low_end b i) (high_end b i)) (ltb (high_end b i) (vertex_count_of b)) inner)

    next : (i : ℕ) → suc i < link_count_of b → Before i (suc i)
    unfolding good_link
    next i h =
        let s : eqb (suc i) 0 ≡ false = ne_eqb (suc i) 0 (λ e. omega arith) in
        let p : suc i - 1 ≡ i = omega arith in
        before_of i (suc i)
        (rw (s, p) at (and_r (ltb (low_end b (suc i)) (high_end b (suc i)) && ltb (high_end b (suc i)) (vertex_count_of b)) (eqb (suc i) 0 || link_before b (suc i - 1) (suc i)) (good-at (suc i) h)))

    later : (i j : ℕ) → i < j → j < link_count_of b → Before i j
    later i zero h k = absurd (omega arith)
    later i (suc j) h k = split (eqb i j)
        (λ p. let e = eqb-true i j p in rw e (next j k))
        (λ p. let d = eqb-false i j p in before-trans i j (suc j) (later i j (omega arith) (omega arith)) (next j k))

    -- the other ends at v rise with the links
    ends-rise : (v u w i j : ℕ) → i < j → j < link_count_of b → Touch i v u → Touch j v w → u < w
    ends-rise v u w i j h k s t =
        let before = later i j h k in
        let p = low-high i (omega arith) in
        let q = low-high j k in
        ⊎_elim
        (λ x. ⊎_elim (λ y. omega (arith, before.high (x.0 ∙ sym y.0), x.1, y.1)) (λ y. absurd (omega (arith, before.low, x.0, y.0))) t)
        (λ x. ⊎_elim
        (λ y. omega (arith, x.0, x.1, y.0, y.1))
        (λ y. split (eqb u w)
        (λ e. let z = eqb-true u w e in absurd (omega (arith, before.high (x.1 ∙ z ∙ sym y.1), x.0, y.0)))
        (λ e. let d = eqb-false u w e in omega (arith, before.low, x.1, y.1)))
        t)
        s

    -- u is an end of one of the first i links whose other end is v
    abbrev Was : ℕ → ℕ → ℕ → Type 0
    Was v i u = (j : ℕ) × (j < i) × Touch j v u

    pub row_more : (v i : ℕ) → row_up_to b v (suc i) ≡ row_up_to b v i ++ other_end b v i
    unfolding row_up_to
    row_more v i =
        ap (concat_map (other_end b v)) (range_snoc 0 i i (omega arith))
        ∙ concat-append (other_end b v) (range 0 i) (i ∷ [])
        ∙ ap (λ (l : List ℕ). concat_map (other_end b v) (range 0 i) ++ l) (append-nil (other_end b v i))

    other-was : (v i : ℕ) → All (Was v (suc i)) (other_end b v i)
    unfolding other_end
    other-was v i = split (eqb (low_end b i) v)
        (λ p. rw p ((i, omega arith, inl (eqb-true (low_end b i) v p, refl)), tt))
        (λ p. split (eqb (high_end b i) v) (λ q. rw (p, q) ((i, omega arith, inr (eqb-true (high_end b i) v q, refl)), tt)) (λ q. rw (p, q) tt))

    row-was : (v i : ℕ) → All (Was v i) (row_up_to b v i)
    unfolding row_up_to
    row-was v zero = tt
    row-was v (suc i) =
        rw (row_more v i)
        (all_append (Was v (suc i)) (row_up_to b v i) (other_end b v i)
        (all-to (Was v i) (Was v (suc i)) (λ u w. (w.0, omega (arith, w.1), w.2)) (row_up_to b v i) (row-was v i))
        (other-was v i))

    snoc-end : (v i w : ℕ) → i < link_count_of b → Touch i v w → strictly_rising (row_up_to b v i) ≡ true → strictly_rising (row_up_to b v i ++ (w ∷ [])) ≡ true
    snoc-end v i w h t r =
        rises-snoc (row_up_to b v i) w r (all-to (Was v i) (λ u. u < w) (λ u s. ends-rise v u w s.0 i s.1 h s.2 t) (row_up_to b v i) (row-was v i))

    row-rising : (v i : ℕ) → i ≤ link_count_of b → strictly_rising (row_up_to b v i) ≡ true
    unfolding row_up_to other_end
    row-rising v zero h = refl
    row-rising v (suc i) h =
        let r = row-rising v i (omega arith) in
        rw (row_more v i)
        (split (eqb (low_end b i) v)
        (λ p. rw p (snoc-end v i (high_end b i) (omega arith) (inl (eqb-true (low_end b i) v p, refl)) r))
        (λ p. split (eqb (high_end b i) v)
        (λ q. rw (p, q) (snoc-end v i (low_end b i) (omega arith) (inr (eqb-true (high_end b i) v q, refl)) r))
        (λ q. rw (p, q, append-nil) r)))

    -- the test of one link, as its other end
    other_test
        : (v u i : ℕ)
        → i < link_count_of b
        → elem u (other_end b v i) ≡ ((eqb (low_end b i) v && eqb (high_end b i) u) || (eqb (low_end b i) u && eqb (high_end b i) v))
    unfolding other_end
    other_test v u i h =
        let l = low-high i h in
        split (eqb (low_end b i) v)
        (λ p.
        let e = eqb-true (low_end b i) v p in
        let z : eqb (high_end b i) v ≡ false = ne_eqb (high_end b i) v (λ q. omega arith) in
        rw (p, z, eqb-sym u (high_end b i)) (go (eqb (high_end b i) u) (eqb (low_end b i) u)))
        (λ p. split (eqb (high_end b i) v)
        (λ q. rw (p, q, eqb-sym u (low_end b i)) (went (eqb (low_end b i) u)))
        (λ q. rw (p, q) (gone (eqb (low_end b i) u))))
      where
        go : (x y : Bool) → cond x true false ≡ ((true && x) || (y && false))
        go true true = refl
        go true false = refl
        go false true = refl
        go false false = refl

        went : (x : Bool) → cond x true false ≡ (x && true)
        went true = refl
        went false = refl

        gone : (x : Bool) → false ≡ (x && false)
        gone true = refl
        gone false = refl

    -- made link by link, a row is the rising neighbor list
    pub row_made : (v : ℕ) → row_up_to b v (link_count_of b) ≡ file_row b v
    unfolding file_row linked_in row_up_to
    row_made v =
        let e = link_count_of b in
        let n = vertex_count_of b in
        let inside : All (λ u. (0 ≤ u) × (u < 0 + n)) (row_up_to b v e) =
        all-to (Was v e) (λ u. (0 ≤ u) × (u < 0 + n))
        (λ u w. (omega arith, ⊎_elim (λ x. omega (arith, high-in w.0 w.1, x.1)) (λ x. omega (arith, low-high w.0 w.1, high-in w.0 w.1, x.1)) w.2))
        (row_up_to b v e) (row-was v e) in
        sym (rising-filter n 0 (row_up_to b v e) (row-rising v e (omega arith)) inside)
        ∙ filter-ext (λ u. elem u (row_up_to b v e)) (linked_in b v) 0 n (λ u h k. tested u)
      where
        tested : (u : ℕ) → elem u (row_up_to b v (link_count_of b)) ≡ linked_in b v u
        tested u =
            elem-concat u (other_end b v) (range 0 (link_count_of b))
            ∙ any-ext (λ i. elem u (other_end b v i)) (λ i. (eqb (low_end b i) v && eqb (high_end b i) u) || (eqb (low_end b i) u && eqb (high_end b i) v)) 0 (link_count_of b) (λ i h k. other_test v u i (omega arith))

    -- ---- lone vertices: their rows are the empty ones

    other-empty : (v i : ℕ) → empty (other_end b v i) ≡ not (is_end b v i)
    unfolding other_end is_end
    other-empty v i = split (eqb (low_end b i) v) (λ p. rw p) (λ p. split (eqb (high_end b i) v) (λ q. rw (p, q)) (λ q. rw (p, q)))

    pub lone_row : (v : ℕ) → lone_in b v ≡ empty (file_row b v)
    unfolding lone_in row_up_to
    lone_row v = rw (← row_made v) (go (range 0 (link_count_of b)))
      where
        go : (is : List ℕ) → all (λ i. not (is_end b v i)) is ≡ empty (concat_map (other_end b v) is)
        go [] = refl
        go (i ∷ is) =
            rw (empty-append (other_end b v i) (concat_map (other_end b v) is), other-empty v i, ← go is)
            (split (is_end b v i) (λ p. rw p) (λ p. rw p))

    pub linked-rows : has_lone b ≡ false → 1 < vertex_count_of b → (v : ℕ) → v < vertex_count_of b → empty (file_row b v) ≡ false
    unfolding has_lone
    linked-rows l h v k =
        let vs = range 0 (vertex_count_of b) in
        let none : any (lone_in b) vs ≡ false = rw (lt-ltb 1 (vertex_count_of b) h) at l in
        sym (lone_row v)
        ∙ all_in (λ u. lone_in b u ≡ false) vs v (any_none (lone_in b) vs none) (elem-range v 0 (vertex_count_of b) (omega arith) (omega arith))

    -- ---- sound rows

    pub row_of : (v : ℕ) → v < vertex_count_of b → row (file_rows b) v ≡ file_row b v
    unfolding file_rows
    row_of v h = get_or-map-range [] (file_row b) 0 (vertex_count_of b) v h ∙ ap (file_row b) (zero-add v)

    pub length-file : length (file_rows b) ≡ vertex_count_of b
    unfolding file_rows
    length-file = length-map (range 0 (vertex_count_of b)) (file_row b) ∙ length-range 0 (vertex_count_of b)

    elem-row : (v u : ℕ) → u < vertex_count_of b → elem u (file_row b v) ≡ linked_in b v u
    unfolding file_row
    elem-row v u h = elem-filter u (linked_in b v) (range 0 (vertex_count_of b)) ∙ rw (elem-range u 0 (vertex_count_of b) (omega arith) (omega arith)) (and-true (linked_in b v u))

    linked-sym : (u v : ℕ) → linked_in b v u ≡ linked_in b u v
    unfolding linked_in
    linked-sym u v = any-ext _ _ 0 (link_count_of b) (λ i h k. or-sym (eqb (low_end b i) v && eqb (high_end b i) u) (eqb (low_end b i) u && eqb (high_end b i) v))
      where
        or-sym : (x y : Bool) → (x || y) ≡ (y || x)
        or-sym true true = refl
        or-sym true false = refl
        or-sym false true = refl
        or-sym false false = refl

    -- no link joins v with itself
    linked-self : (v : ℕ) → linked_in b v v ≡ false
    unfolding linked_in
    linked-self v = any-ext _ (λ i. false) 0 (link_count_of b) (λ i h k. apart i (omega arith)) ∙ nowhere (range 0 (link_count_of b))
      where
        apart : (i : ℕ) → i < link_count_of b → ((eqb (low_end b i) v && eqb (high_end b i) v) || (eqb (low_end b i) v && eqb (high_end b i) v)) ≡ false
        apart i h = split (eqb (low_end b i) v)
            (λ p. let z : eqb (high_end b i) v ≡ false = ne_eqb (high_end b i) v (λ q. omega (arith, low-high i h, eqb-true (low_end b i) v p)) in rw (p, z))
            (λ p. rw p)

        nowhere : (xs : List ℕ) → any (λ i. false) xs ≡ false
        nowhere [] = refl
        nowhere (x ∷ xs) = nowhere xs

    pub file-sound : Sound (file_rows b)
    unfolding file_row
    file-sound =
        let n = vertex_count_of b in
        let e = length-file in
        record {
          below = λ v h. rw (row_of v (rw e at h), e) (all_filter (λ u. u < n) (linked_in b v) (range 0 n) (all-range (λ u. u < n) 0 n (λ x p q. omega arith)));
          rises = λ v h. rw (row_of v (rw e at h)) (filter-rises (linked_in b v) 0 n);
          selfless = λ v h. rw (row_of v (rw e at h)) (elem-row v v (rw e at h) ∙ linked-self v);
          symmetric = λ u v h k.
              rw (row_of u (rw e at h), row_of v (rw e at k)) (elem-row u v (rw e at k) ∙ linked-sym v u ∙ sym (elem-row v u (rw e at h)));
        }

    pub file-lists : SoundLists (file_offsets b) (file_neighbors b) × (rows_of (file_offsets b) (file_neighbors b) ≡ file_rows b)
    file-lists = (sound-packed (file_rows b) file-sound, rows-packed (file_rows b))

    -- ---- two entries a link

    other-count : (v i : ℕ) → i < link_count_of b → length (other_end b v i) ≡ cond (eqb v (low_end b i)) 1 0 + cond (eqb v (high_end b i)) 1 0
    unfolding other_end
    other-count v i h =
        let l = low-high i h in
        split (eqb (low_end b i) v)
        (λ p.
        let e = eqb-true (low_end b i) v p in
        rw (p, eq-eqb v (low_end b i) (sym e), ne_eqb v (high_end b i) (λ q. omega arith)))
        (λ p. split (eqb (high_end b i) v)
        (λ q. rw (p, q, eqb-sym v (low_end b i), p, eqb-sym v (high_end b i), q))
        (λ q. rw (p, q, eqb-sym v (low_end b i), p, eqb-sym v (high_end b i), q)))

    other_length : (i : ℕ) → i < link_count_of b → total 0 (vertex_count_of b) (λ v. length (other_end b v i)) ≡ 2
    other_length i h =
        let n = vertex_count_of b in
        let l = low-high i h in
        let k = high-in i h in
        total_ext 0 n (λ v. length (other_end b v i)) (λ v. cond (eqb v (low_end b i)) 1 0 + cond (eqb v (high_end b i)) 1 0) (λ v p q. other-count v i h)
        ∙ total-add 0 n (λ v. cond (eqb v (low_end b i)) 1 0) (λ v. cond (eqb v (high_end b i)) 1 0)
        ∙ omega (arith, total-point 0 n (low_end b i) (λ v. 1) (omega arith) (omega arith), total-point 0 n (high_end b i) (λ v. 1) (omega arith) (omega arith))

    entries : (i : ℕ) → i ≤ link_count_of b → total 0 (vertex_count_of b) (λ v. length (row_up_to b v i)) ≡ 2 * i
    unfolding row_up_to
    entries zero h = total-zero 0 (vertex_count_of b) (λ v. length (row_up_to b v 0)) (λ v p q. refl)
    entries (suc i) h =
        total_ext 0 (vertex_count_of b) (λ v. length (row_up_to b v (suc i))) (λ v. length (row_up_to b v i) + length (other_end b v i)) (λ v p q. ap length (row_more v i) ∙ length-append (row_up_to b v i) (other_end b v i))
        ∙ total-add 0 (vertex_count_of b) (λ v. length (row_up_to b v i)) (λ v. length (other_end b v i))
        ∙ omega (arith, entries i (omega arith), other_length i (omega arith))

    pub length-entries : length (file_neighbors b) ≡ 2 * link_count_of b
    unfolding file_rows
    length-entries =
        length-packed (file_row b) 0 (vertex_count_of b)
        ∙ total_ext 0 (vertex_count_of b) (λ v. length (file_row b v)) (λ v. length (row_up_to b v (link_count_of b))) (λ v p q. ap length (sym (row_made v)))
        ∙ entries (link_count_of b) (omega arith)
