-- Laws of rule 7's lists: candidates come vertex by vertex and proposals product by product, the first n of a sorted list can be kept while it is
-- made, and a pass can be taken in parts. Assumes nothing.
use Prim.Native.Nat.{ℕ, zero, suc, ◌+◌, ◌-◌, ◌*◌, ◌≤◌, ◌<◌}
use mathlib.Core.Path.{◌≡◌, refl, sym, ap, ◌∙◌}
use mathlib.Core.Bool.{Bool, true, false, ◌&&◌, cond}
use mathlib.Core.List.{List, [], ◌∷◌, ◌++◌, map, append_assoc, append-nil}
use native.Mathlib.Omega.{arith}
use native.Mathlib.Numerals.{add-one}
use native.Mathlib.Nat.{mul-le-mul_right}
use lib.Dec.{eqb, ltb}
use lib.ListN.{length, take, length-append, length-take, length-map}
use lib.Seq.{take-take, take-nil, take_all}
use borrow.Author.Tests.{lt-ltb}
use Rattle.links.specs.Lists.{at, All, filter, foldl, insert, sort_by, range, concat_map}
use Rattle.links.specs.Loads.{Balance}
use Rattle.links.specs.Graph.{row, vertices, links_in, links_to}
use Rattle.links.proofs.ListLaws.{split, foldl-snoc, length-insert, count-length, all_take, all-sort, all_map, all_filter, all-to, all-concat, all-range, filter-append}
use Rattle.links.proofs.RangeLaws.{range_snoc}
use Rattle.stages.specs.Moves.{Step, swap, after, linked, gain}
use Rattle.stages.specs.Swaps.{Candidate, Proposal, ahead, sooner, propose, candidates, proposals, applies, swap_pass}
use Rattle.stages.specs.Keys.{candidate, Fair, key_of, gain_of, vertex_of, higher}
use Rattle.stages.specs.Slots.{proposal}
use Rattle.stages.specs.SwapsCode.{offer_vertex, product_of, proposed, Within, Named, used_by}
use Rattle.stages.proofs.StepLaws.{foldl-append}
use Rattle.stages.proofs.KeyLaws.{key-gain, key-vertex, map-fold}

-- ---- the first n of a sorted list

module _ {A : Type 0} (before : A → A → Bool) where
  take-cons : (n : ℕ) (y : A) (ys : List A) → take n (y ∷ take n ys) ≡ take n (y ∷ ys)
  take-cons zero y ys = refl
  take-cons (suc n) y ys = ap (λ (t : List A). y ∷ t) (take-take n (suc n) ys (omega arith))

  -- they are enough to know the first n after an insertion
  take-insert : (n : ℕ) (x : A) (s : List A) → take n (insert before x (take n s)) ≡ take n (insert before x s)
  take-insert zero x s = refl
  take-insert (suc n) x [] = refl
  take-insert (suc n) x (y ∷ ys) = split (before x y)
      (λ p. rw p (ap (λ (t : List A). x ∷ t) (take-cons n y ys)))
      (λ p. rw p (ap (λ (t : List A). y ∷ t) (take-insert n x ys)))

  -- the sort's step, of which only the first n are kept
  abbrev inserted : ℕ → List A → A → List A
  inserted n s x = take n (insert before x s)

  take-fold : (n : ℕ) (s : List A) (xs : List A) → take n (foldl (λ ys x. insert before x ys) s xs) ≡ foldl (inserted n) (take n s) xs
  take-fold n s [] = refl
  take-fold n s (x ∷ xs) = take-fold n (insert before x s) xs ∙ ap (λ (t : List A). foldl (inserted n) t xs) (sym (take-insert n x s))

  take-sort : (n : ℕ) (xs : List A) → take n (sort_by before xs) ≡ foldl (inserted n) [] xs
  take-sort n xs = take-fold n [] xs ∙ ap (λ (t : List A). foldl (inserted n) t xs) (take-nil n)

  length-fold : (s xs : List A) → length (foldl (λ ys x. insert before x ys) s xs) ≡ length s + length xs
  length-fold s [] = omega arith
  length-fold s (x ∷ xs) = omega (arith, length-fold (insert before x s) xs, length-insert before x s)

  length-sort : (xs : List A) → length (sort_by before xs) ≡ length xs
  length-sort xs = omega (arith, length-fold [] xs)

-- ---- candidates, vertex by vertex

module _ (n : ℕ) (rows : List (List ℕ)) (owners : List ℕ) (a b : ℕ) where
  abbrev passes : ℕ → Bool
  passes v = eqb (at owners v) a && ltb 0 (links_to rows owners v b)

  abbrev as_candidate : ℕ → Candidate
  as_candidate v = candidate (links_to rows owners v b) (links_to rows owners v a) v

  -- the list after the vertices below v
  unfoldable pub listed_to : ℕ → List ℕ
  listed_to v = foldl (offer_vertex n rows owners a b) [] (range 0 v)

  fold-kept
      : (s vs : List ℕ) → foldl (inserted higher n) s (map key_of (map as_candidate (filter passes vs))) ≡ foldl (offer_vertex n rows owners a b) s vs
  unfolding offer_vertex
  fold-kept s [] = refl
  fold-kept s (v ∷ vs) = split (passes v) (λ p. rw p (fold-kept (inserted higher n s (key_of (as_candidate v))) vs)) (λ p. rw p (fold-kept s vs))

  pub listed-none : listed_to 0 ≡ []
  unfolding listed_to
  listed-none = refl

  pub listed_more : (v : ℕ) → listed_to (v + 1) ≡ offer_vertex n rows owners a b (listed_to v) v
  unfolding listed_to
  listed_more v =
      let e : range 0 (v + 1) ≡ range 0 v ++ (v ∷ []) = rw add-one (range_snoc 0 v v (omega arith)) in
      foldl-snoc (offer_vertex n rows owners a b) [] (range 0 v) v e

  -- a vertex that is not a's, or has no neighbor in b, is not listed
  pub offer-other : (s : List ℕ) (v : ℕ) → eqb (at owners v) a ≡ false → offer_vertex n rows owners a b s v ≡ s
  unfolding offer_vertex
  offer-other s v e = rw e

  pub offer-none : (s : List ℕ) (v : ℕ) → ltb 0 (links_to rows owners v b) ≡ false → offer_vertex n rows owners a b s v ≡ s
  unfolding offer_vertex
  offer-none s v e = split (eqb (at owners v) a) (λ p. rw (p, e)) (λ p. rw p)

  pub offer-some
      : (s : List ℕ) (v : ℕ)
      → eqb (at owners v) a ≡ true
      → ltb 0 (links_to rows owners v b) ≡ true
      → offer_vertex n rows owners a b s v ≡ take n (insert higher (key_of (as_candidate v)) s)
  unfolding offer_vertex
  offer-some s v e f = rw (e, f)

-- ---- the numbers in them

module _ (rows : List (List ℕ)) (short : length rows ≤ 16384) (few : (v : ℕ) → v < length rows → length (row rows v) ≤ 16384) where
  pub links-few : (owners : List ℕ) (v r : ℕ) → v < length rows → links_to rows owners v r ≤ 16384
  unfolding links_in
  links-few owners v r h = omega (arith, count-length (λ u. eqb (at owners u) r) (row rows v), few v h)

  module _ (n : ℕ) (owners : List ℕ) (a b : ℕ) where
    abbrev members : List Candidate
    members = map (as_candidate n rows owners a b) (filter (passes n rows owners a b) (vertices rows))

    members-fair : All (Fair (length rows)) members
    members-fair =
        let make = as_candidate n rows owners a b in
        let vs = filter (passes n rows owners a b) (vertices rows) in
        let fair : (v : ℕ) → v < length rows → Fair (length rows) (make v) =
        λ v h. record { there-few = links-few owners v b h; home-few = links-few owners v a h; vertex-in = h } in
        all_map (Fair (length rows)) make vs
        (all-to (λ v. v < length rows) (λ v. Fair (length rows) (make v)) fair vs
        (all_filter (λ v. v < length rows) (passes n rows owners a b) (vertices rows)
        (all-range (λ v. v < length rows) 0 (length rows) (λ x h k. omega arith))))

    pub candidates-fair : All (Fair (length rows)) (candidates n rows owners a b)
    unfolding candidates
    candidates-fair = all_take (Fair (length rows)) n (sort_by ahead members) (all-sort (Fair (length rows)) ahead members members-fair)

    pub candidates-within : All (Within (length rows)) (map key_of (candidates n rows owners a b))
    candidates-within =
        all_map (Within (length rows)) key_of (candidates n rows owners a b)
        (all-to (Fair (length rows)) (λ x. Within (length rows) (key_of x)) (λ x h. rw (key-vertex short x h) h.vertex-in)
        (candidates n rows owners a b) candidates-fair)

    pub listed-all : listed_to n rows owners a b (length rows) ≡ map key_of (candidates n rows owners a b)
    unfolding candidates listed_to
    listed-all =
        sym
        (ap (map key_of) (take-sort ahead n members)
        ∙ map-fold short n [] members tt members-fair
        ∙ fold-kept n rows owners a b [] (vertices rows))

-- ---- proposals, product by product

module _ (rows : List (List ℕ)) where
  abbrev gains : Proposal → Bool
  gains p = ltb 0 p.net

  candidates-few : (n : ℕ) (owners : List ℕ) (a b : ℕ) → length (candidates n rows owners a b) ≤ n
  unfolding candidates
  candidates-few n owners a b = few (sort_by ahead (map (as_candidate n rows owners a b) (filter (passes n rows owners a b) (vertices rows))))
    where
      few : (s : List Candidate) → length (take n s) ≤ n
      few s = omega (arith, length-take n s)

  products-few
      : (n : ℕ) (xs ys : List Candidate) → length ys ≤ n → length (concat_map (λ x. map (propose rows x) ys) xs) ≤ length xs * n
  products-few n [] ys l = omega arith
  products-few n (x ∷ xs) ys l =
      omega
      (arith, length-append (map (propose rows x) ys) (concat_map (λ x. map (propose rows x) ys) xs), length-map ys (propose rows x), products-few n xs ys l)

  module _ {k : ℕ} (short : k ≤ 16384) where
    product_is : (x y : Candidate) → Fair k x → Fair k y → product_of rows (key_of x) (key_of y) ≡ propose rows x y
    unfolding product_of propose
    product_is x y a b =
        let o = linked rows x.vertex y.vertex in
        let e
        : x.there + 16384 - x.home + (y.there + 16384 - y.home) - (32768 + 2 * o) ≡ x.there + y.there - (x.home + y.home + 2 * o) =
        omega (arith, a.home-few, b.home-few) in
        rw (key-gain short x a, key-gain short y b, key-vertex short x a, key-vertex short y b)
        (ap (λ (g : ℕ). proposal g x.vertex y.vertex) e)

    module _ (m : ℕ) where
      proposed-is
          : (x y : Candidate) (s : List Proposal)
          → Fair k x
          → Fair k y
          → proposed m rows (key_of x) s (key_of y) ≡ cond (gains (propose rows x y)) (inserted sooner m s (propose rows x y)) s
      unfolding proposed
      proposed-is x y s a b = rw (product_is x y a b)

      row-fold
          : (x : Candidate) (s : List Proposal) (ys : List Candidate)
          → Fair k x
          → All (Fair k) ys
          → foldl (inserted sooner m) s (filter gains (map (propose rows x) ys)) ≡ foldl (proposed m rows (key_of x)) s (map key_of ys)
      row-fold x s [] a b = refl
      row-fold x s (y ∷ ys) a b =
          let joins = inserted sooner m s (propose rows x y) in
          let next : (t : List Proposal) → proposed m rows (key_of x) s (key_of y) ≡ t
          → foldl (proposed m rows (key_of x)) t (map key_of ys) ≡ foldl (proposed m rows (key_of x)) s (map key_of (y ∷ ys)) =
          λ t e. ap (λ (z : List Proposal). foldl (proposed m rows (key_of x)) z (map key_of ys)) (sym e) in
          split (gains (propose rows x y))
          (λ p. rw p (row-fold x joins ys a b.1 ∙ next joins (proposed-is x y s a b.0 ∙ rw p)))
          (λ p. rw p (row-fold x s ys a b.1 ∙ next s (proposed-is x y s a b.0 ∙ rw p)))

      -- a row of products for each candidate of the first list
      all-fold
          : (s : List Proposal) (xs ys : List Candidate)
          → All (Fair k) xs
          → All (Fair k) ys
          → foldl (inserted sooner m) s (filter gains (concat_map (λ x. map (propose rows x) ys) xs))
          ≡ foldl (λ s x. foldl (proposed m rows x) s (map key_of ys)) s (map key_of xs)
      all-fold s [] ys a b = refl
      all-fold s (x ∷ xs) ys a b =
          let more = concat_map (λ x. map (propose rows x) ys) xs in
          ap (foldl (inserted sooner m) s) (filter-append gains (map (propose rows x) ys) more)
          ∙ foldl-append (inserted sooner m) (filter gains (map (propose rows x) ys)) (filter gains more) s
          ∙ ap (λ (t : List Proposal). foldl (inserted sooner m) t (filter gains more)) (row-fold x s ys a.0 b)
          ∙ all-fold (foldl (proposed m rows (key_of x)) s (map key_of ys)) xs ys a.1 b

  -- no candidates on one side: no proposals
  no-products : (xs : List Candidate) → concat_map (λ x. map (propose rows x) []) xs ≡ []
  no-products [] = refl
  no-products (x ∷ xs) = no-products xs

  none-listed : (xs : List Candidate) → map key_of xs ≡ [] → xs ≡ []
  none-listed [] e = refl
  none-listed (x ∷ xs) e = let z : 0 ≡ suc (length (map key_of xs)) = sym (ap length e) in absurd (omega arith)

  pub proposals-none : (n : ℕ) (owners : List ℕ) (a b : ℕ) → map key_of (candidates n rows owners a b) ≡ [] → proposals n rows owners a b ≡ []
  unfolding proposals
  proposals-none n owners a b e = rw (none-listed (candidates n rows owners a b) e)

  pub proposals-none-back : (n : ℕ) (owners : List ℕ) (a b : ℕ) → map key_of (candidates n rows owners b a) ≡ [] → proposals n rows owners a b ≡ []
  unfolding proposals
  proposals-none-back n owners a b e = rw (none-listed (candidates n rows owners b a) e, no-products (candidates n rows owners a b))

  module _ (short : length rows ≤ 16384) (few : (v : ℕ) → v < length rows → length (row rows v) ≤ 16384) where
    -- room for m is enough for the products of two lists of n
    pub proposals-are
        : (n m : ℕ) (owners : List ℕ) (a b : ℕ)
        → n * n ≤ m
        → foldl (λ s x. foldl (proposed m rows x) s (map key_of (candidates n rows owners b a))) [] (map key_of (candidates n rows owners a b))
        ≡ proposals n rows owners a b
    unfolding proposals
    proposals-are n m owners a b h =
        let xs = candidates n rows owners a b in
        let ys = candidates n rows owners b a in
        let products = concat_map (λ x. map (propose rows x) ys) xs in
        let k : length (sort_by sooner (filter gains products)) ≤ m =
        omega (
          arith,
          h,
          length-sort sooner (filter gains products),
          count-length gains products,
          products-few n xs ys (candidates-few n owners b a),
          mul-le-mul_right n (candidates-few n owners a b),
        ) in
        sym (all-fold short m [] xs ys (candidates-fair rows short few n owners a b) (candidates-fair rows short few n owners b a))
        ∙ sym (take-sort sooner m (filter gains products))
        ∙ take_all m (sort_by sooner (filter gains products)) k

    pub proposals-named : (n : ℕ) (owners : List ℕ) (a b : ℕ) → All (Named (length rows)) (proposals n rows owners a b)
    unfolding proposals propose
    proposals-named n owners a b =
        let xs = candidates n rows owners a b in
        let ys = candidates n rows owners b a in
        let make : Candidate → List Proposal = λ x. map (propose rows x) ys in
        all-sort (Named (length rows)) sooner (filter gains (concat_map make xs))
        (all_filter (Named (length rows)) gains (concat_map make xs)
        (all-concat (Named (length rows)) make xs
        (all-to (Fair (length rows)) (λ x. All (Named (length rows)) (make x))
        (λ x h. all_map (Named (length rows)) (propose rows x) ys
        (all-to (Fair (length rows)) (λ y. Named (length rows) (propose rows x y))
        (λ y k. record { first-in = h.vertex-in; second-in = k.vertex-in }) ys (candidates-fair rows short few n owners b a)))
        xs (candidates-fair rows short few n owners a b))))

-- ---- a pass, taken in parts

module _ (b : Balance) (rows : List (List ℕ)) (weights : List ℕ) where
  pub pass-append
      : (ps qs : List Proposal) (used owners : List ℕ)
      → swap_pass b rows weights (ps ++ qs) used owners
      ≡ swap_pass b rows weights ps used owners
      ++ swap_pass b rows weights qs (foldl used_by used (swap_pass b rows weights ps used owners)) (foldl after owners (swap_pass b rows weights ps used owners))
  unfolding swap_pass
  pass-append [] qs used owners = refl
  pass-append (p ∷ ps) qs used owners = split (applies b rows weights used owners p.first p.second)
      (λ e. rw e
      (ap (λ (t : List Step). swap p.first p.second ∷ t)
      (pass-append ps qs (p.first ∷ p.second ∷ used) (after owners (swap p.first p.second)))))
      (λ e. rw e (pass-append ps qs used owners))

  pub pass-skip
      : (p : Proposal) (used owners : List ℕ)
      → applies b rows weights used owners p.first p.second ≡ false
      → swap_pass b rows weights (p ∷ []) used owners ≡ []
  unfolding swap_pass
  pass-skip p used owners e = rw e

  pub pass-take
      : (p : Proposal) (used owners : List ℕ)
      → applies b rows weights used owners p.first p.second ≡ true
      → swap_pass b rows weights (p ∷ []) used owners ≡ swap p.first p.second ∷ []
  unfolding swap_pass
  pass-take p used owners e = rw e

-- ---- one product

module _ (rows : List (List ℕ)) (x y m o : ℕ) (e : o ≡ linked rows (vertex_of x) (vertex_of y)) where
  product : product_of rows x y ≡ proposal (gain_of x + gain_of y - (32768 + 2 * o)) (vertex_of x) (vertex_of y)
  unfolding product_of
  product = ap (λ (k : ℕ). proposal (gain_of x + gain_of y - (32768 + 2 * k)) (vertex_of x) (vertex_of y)) (sym e)

  pub propose-yes
      : (s : List Proposal)
      → 32768 + 2 * o < gain_of x + gain_of y
      → proposed m rows x s y ≡ take m (insert sooner (proposal (gain_of x + gain_of y - (32768 + 2 * o)) (vertex_of x) (vertex_of y)) s)
  unfolding proposed
  propose-yes s l = rw (product, lt-ltb 0 (gain_of x + gain_of y - (32768 + 2 * o)) (omega arith))

-- ---- whether a swap applies

module _ (rows : List (List ℕ)) (owners : List ℕ) (u v a b there₁ joined₁ x there₂ joined₂ y home₁ home₂ r : ℕ) where
  -- a swap's gain, reckoned in the code's order
  pub gain-of
      : a ≡ at owners u
      → b ≡ at owners v
      → there₁ ≡ links_to rows owners u b
      → joined₁ ≡ linked rows u v
      → x ≡ there₁ - joined₁
      → there₂ ≡ links_to rows owners v a
      → joined₂ ≡ linked rows v u
      → y ≡ there₂ - joined₂
      → home₁ ≡ links_to rows owners u a
      → home₂ ≡ links_to rows owners v b
      → r ≡ x + y - (home₁ + home₂)
      → r ≡ gain rows owners (swap u v)
  unfolding gain
  gain-of a1 a2 a3 a4 a5 a6 a7 a8 a9 a10 a11 = cc

-- ---- proposals taken one by one

abbrev pub snoc : List Proposal → Proposal → List Proposal
snoc ps p = ps ++ p ∷ []

snoc-from : (ps qs : List Proposal) → foldl snoc ps qs ≡ ps ++ qs
snoc-from ps [] = sym (append-nil ps)
snoc-from ps (q ∷ qs) = snoc-from (snoc ps q) qs ∙ append_assoc ps (q ∷ []) qs

pub snoc-all : (qs : List Proposal) → foldl snoc [] qs ≡ qs
snoc-all qs = snoc-from [] qs
