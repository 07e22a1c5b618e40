-- A coarsening step: its rows are sound and no longer, every vertex is in a group, and groups weigh what their vertices weigh. Assumes nothing.
use Prim.Native.Nat.{ℕ, zero, suc, ◌+◌, ◌≤◌, ◌<◌}
use mathlib.Core.Path.{◌≡◌, refl, sym, ap, ◌∙◌, subst}
use mathlib.Core.Logic.{◌≢◌}
use mathlib.Core.Bool.{Bool, true, false, not, ◌&&◌, cond, false≢true}
use mathlib.Core.List.{List, [], ◌∷◌, map}
use mathlib.Core.Option.{Option, none, some}
use native.Mathlib.Omega.{arith}
use lib.ListN.{length, set, replicate, length-append, length-map, length-replicate, length-set}
use lib.Seq.{get_or-set_other, get_or-set_same}
use lib.Dec.{leb, ltb, eqb}
use borrow.Author.Tests.{eq-eqb, ne_eqb, eqb-true, eqb-false, ltb-true, ltb-false, leb-true, leb-false}
use Rattle.links.specs.Lists.{at, unassigned, filter, foldl, range, sum, elem, concat_map, All}
use Rattle.links.specs.Graph.{row, vertices, degree, strictly_rising, Sound, load}
use Rattle.stages.specs.Coarsen.{falling, highest_degree, of_degree, by_degree, closer, partner, Pairing, grouped, match, unmatched, pairing, coarse_row, coarsen_once}
use Rattle.links.proofs.ListLaws.{split, eqb-sym, and_l, and_r, and_i, iff-eq, tally, count-length, all_filter, all-to, to-all, all-concat, all-range, all_in, length-range, elem-filter, elem-range, any_of, to-any, any_none, elem-map, elem-concat, best-all, best-kept, total, total-add, total-le, total-zero, total-point, count-range}
use Rattle.links.proofs.RowLaws.{get_or-map-range}
use Rattle.links.proofs.RangeLaws.{filter-rises}
use Rattle.stages.proofs.GrowthLaws.{unowned-in, vacant, vacant-set}
use Rattle.stages.proofs.LoadLaws.{load_by, by_index, load-by, by-ext, by_all, by-none, by-set, index-snoc, index-ext, index-all, index-load}

-- ---- the coarse rows are sound, whatever the grouping

module _ (rows : List (List ℕ)) (group : List ℕ) where
  -- g's vertices, and the groups of their neighbors
  abbrev pub members : ℕ → List ℕ
  members g = filter (λ v. eqb (at group v) g) (vertices rows)

  abbrev pub touched : ℕ → List ℕ
  touched g = concat_map (λ v. map (at group) (row rows v)) (members g)

  -- a vertex v of g with a neighbor u of h
  pub record Touches (g h v u : ℕ) : Type 0 where
    pub from : v < length rows
    pub to : u < length rows
    pub of-g : at group v ≡ g
    pub of-h : at group u ≡ h
    pub linked : elem u (row rows v) ≡ true

  module _ (s : Sound rows) where
    pub touched-of : (g h : ℕ) → elem h (touched g) ≡ true → (v : ℕ) × (u : ℕ) × Touches g h v u
    touched-of g h e =
        let n = length rows in
        let groups : ℕ → List ℕ = λ v. map (at group) (row rows v) in
        let w = any_of (λ v. elem h (groups v)) (members g) (sym (elem-concat h groups (members g)) ∙ e) in
        let v = w.0 in
        let k : eqb (at group v) g && elem v (vertices rows) ≡ true = sym (elem-filter v (λ v. eqb (at group v) g) (vertices rows)) ∙ w.1 in
        let all-low = all-range (λ v. v < n) 0 n (λ x a b. omega arith) in
        let vn : v < n = all_in (λ v. v < n) (vertices rows) v all-low (and_r (eqb (at group v) g) (elem v (vertices rows)) k) in
        let z = any_of (λ u. eqb h (at group u)) (row rows v) (sym (elem-map h (at group) (row rows v)) ∙ w.2) in
        let u = z.0 in (
          v,
          u,
          record {
            from = vn;
            to = all_in (λ u. u < n) (row rows v) u (s.below v vn) z.1;
            of-g = eqb-true (at group v) g (and_l (eqb (at group v) g) (elem v (vertices rows)) k);
            of-h = sym (eqb-true h (at group u) z.2);
            linked = z.1;
          },
        )

    to-touched : (g h v u : ℕ) → Touches g h v u → elem h (touched g) ≡ true
    to-touched g h v u t =
        let in-vertices = elem-range v 0 (length rows) (omega arith) (omega (arith, t.from)) in
        let groups : ℕ → List ℕ = λ v. map (at group) (row rows v) in
        let k : elem v (members g) ≡ true =
        elem-filter v (λ v. eqb (at group v) g) (vertices rows) ∙ and_i _ _ (eq-eqb (at group v) g t.of-g) in-vertices in
        let z : elem h (groups v) ≡ true =
        elem-map h (at group) (row rows v) ∙ to-any (λ u. eqb h (at group u)) (row rows v) u t.linked (eq-eqb h (at group u) (sym t.of-h)) in
        elem-concat h groups (members g) ∙ to-any (λ v. elem h (groups v)) (members g) v k z

    touched-back : (g h : ℕ) → elem h (touched g) ≡ true → elem g (touched h) ≡ true
    touched-back g h e =
        let w = touched-of g h e in
        let v = w.0 in
        let u = w.1 in
        let t = w.2 in
        to-touched h g u v
        (record { from = t.to; to = t.from; of-g = t.of-h; of-h = t.of-g; linked = s.symmetric u v t.to t.from ∙ t.linked })

    module _ (m : ℕ) where
      pub elem-row : (g h : ℕ) → h < m → elem h (coarse_row rows group m g) ≡ (not (eqb h g) && elem h (touched g))
      unfolding coarse_row
      elem-row g h k =
          elem-filter h (λ h. not (eqb h g) && elem h (touched g)) (range 0 m)
          ∙ split (not (eqb h g) && elem h (touched g)) (λ p. rw (p, elem-range h 0 m (omega arith) (omega arith))) (λ p. rw p)

      row_below : (g : ℕ) → All (λ h. h < m) (coarse_row rows group m g)
      unfolding coarse_row
      row_below g = all_filter (λ h. h < m) (λ h. not (eqb h g) && elem h (touched g)) (range 0 m) (all-range (λ h. h < m) 0 m (λ x a b. omega arith))

      row-rises : (g : ℕ) → strictly_rising (coarse_row rows group m g) ≡ true
      unfolding coarse_row
      row-rises g = filter-rises (λ h. not (eqb h g) && elem h (touched g)) 0 m

      -- coarse rows are below the number of groups, rising, self-free and symmetric
      pub rows-sound : Sound (map (coarse_row rows group m) (range 0 m))
      rows-sound =
          let f = coarse_row rows group m in
          let size : length (map f (range 0 m)) ≡ m = length-map (range 0 m) f ∙ length-range 0 m in
          let row_is : (g : ℕ) → g < length (map f (range 0 m)) → row (map f (range 0 m)) g ≡ f g =
          λ g h. let z : 0 + g ≡ g = omega arith in get_or-map-range [] f 0 m g (omega (arith, size)) ∙ ap f z in
          let back : (g h : ℕ) → elem h (touched g) ≡ elem g (touched h) =
          λ g h. iff-eq (elem h (touched g)) (elem g (touched h)) (touched-back g h) (touched-back h g) in
          record {
            below = λ g h. rw (row_is g h, size) (row_below g);
            rises = λ g h. rw (row_is g h) (row-rises g);
            selfless = λ g h. rw (row_is g h) (elem-row g g (omega (arith, size)) ∙ rw (eq-eqb g g refl));
            symmetric = λ g h a b. rw (row_is g a, row_is h b)
                (elem-row g h (omega (arith, size)) ∙ rw (eqb-sym h g, back g h) (sym (elem-row h g (omega (arith, size)))));
          }

-- ---- how long a coarse row is

-- a number stands at most once in a range
total-once : (x d i n : ℕ) → total i n (λ h. cond (eqb h x) d 0) ≤ d
total-once x d i n = split (leb i x)
    (λ p. split (ltb x (i + n))
    (λ q. omega (arith, total-point i n x (λ h. d) (leb-true i x p) (ltb-true x (i + n) q)))
    (λ q. outside (λ h k l. let z = ltb-false x (i + n) q in ne_eqb h x (λ e. omega arith))))
    (λ p. outside (λ h k l. let z = leb-false i x p in ne_eqb h x (λ e. omega arith)))
  where
    outside : ((h : ℕ) → i ≤ h → h < i + n → eqb h x ≡ false) → total i n (λ h. cond (eqb h x) d 0) ≤ d
    outside f = omega (arith, total-zero i n (λ h. cond (eqb h x) d 0) (λ h k l. rw (f h k l)))

-- no more numbers of a range stand in a list than the list is long
elems-few : (xs : List ℕ) (i n : ℕ) → total i n (λ h. tally (elem h xs)) ≤ length xs
elems-few [] i n = omega (arith, total-zero i n (λ h. tally (elem h [])) (λ h k l. refl))
elems-few (x ∷ xs) i n =
    let here : ℕ → ℕ = λ h. cond (eqb h x) 1 0 in
    let rest : ℕ → ℕ = λ h. tally (elem h xs) in
    let each : (h : ℕ) → tally (elem h (x ∷ xs)) ≤ here h + rest h = λ h. split (eqb h x) (λ p. rw p (omega arith)) (λ p. rw p (omega arith)) in
    omega (
      arith,
      total-le i n (λ h. tally (elem h (x ∷ xs))) (λ h. here h + rest h) (λ h k l. each h),
      total-add i n here rest,
      total-once x 1 i n,
      elems-few xs i n,
    )

-- a row has no more entries than what it is made of
pub row-few : (m g : ℕ) (xs : List ℕ) → length (filter (λ h. not (eqb h g) && elem h xs) (range 0 m)) ≤ length xs
row-few m g xs =
    let test : ℕ → Bool = λ h. not (eqb h g) && elem h xs in
    let less : (h : ℕ) → tally (test h) ≤ tally (elem h xs) = λ h. split (not (eqb h g)) (λ p. rw p (omega arith)) (λ p. rw p (omega arith)) in
    omega (arith, count-range test 0 m, total-le 0 m (λ h. tally (test h)) (λ h. tally (elem h xs)) (λ h k l. less h), elems-few xs 0 m)

-- ---- the pairing

-- a group that is set stays set
set-stays : (os : List ℕ) (v m x : ℕ) → m ≢ unassigned → at os x ≢ unassigned → at (set os v m) x ≢ unassigned
set-stays [] v m x k h = h
set-stays (o ∷ os) zero m zero k h = k
set-stays (o ∷ os) zero m (suc x) k h = h
set-stays (o ∷ os) (suc v) m zero k h = h
set-stays (o ∷ os) (suc v) m (suc x) k h = set-stays os v m x k h

-- groups as made so far, of n vertices with these weights: there is room for more, and each weighs what its vertices weigh
pub record Grouped (n : ℕ) (ws : List ℕ) (p : Pairing) : Type 0 where
  pub sized : length p.group ≡ n
  pub room : length p.weights + vacant p.group ≤ n
  pub adds : (P : ℕ → Bool) → P unassigned ≡ false → load_by P ws p.group ≡ by_index P 0 p.weights

-- the partner is another, and unmatched
abbrev pub Apart : List ℕ → ℕ → Option ℕ → Type 0
Apart group v none = Unit {0}
Apart group v (some u) = (u ≢ v) × (at group u ≡ unassigned)

cond-add : (b : Bool) (x y : ℕ) → ◌≡◌ {A = ℕ} (cond b (x + y) 0) (cond b x 0 + cond b y 0)
cond-add true x y = refl
cond-add false x y = omega arith

module _ (n : ℕ) (ws : List ℕ) (small : n < unassigned) (weighed : length ws ≡ n) where
  new-group : (p : Pairing) → Grouped n ws p → length p.weights ≢ unassigned
  new-group p g e = omega (arith, g.room)

  grouped-keeps
      : (p : Pairing) (v : ℕ) (o : Option ℕ)
      → Grouped n ws p
      → at p.group v ≡ unassigned
      → Apart p.group v o
      → Grouped n ws (grouped ws p v o)
  unfolding grouped
  grouped-keeps p v none g e a =
      let m = length p.weights in
      let vn = unowned-in p.group v e in
      record {
        sized = length-set p.group v m ∙ g.sized;
        room = omega (arith, g.room, length-append p.weights (at ws v ∷ []), vacant-set p.group v m e (new-group p g));
        adds = λ P f.
            let z : P (at p.group v) ≡ false = ap P e ∙ f in
            let one = simp z at (by-set P ws p.group v m vn (rw (weighed ∙ sym g.sized) vn)) in
            omega (arith, g.adds P f, one, index-snoc P 0 p.weights (at ws v) m (omega arith));
      }
  grouped-keeps p v (some u) g e a =
      let m = length p.weights in
      let k = new-group p g in
      let g1 = set p.group v m in
      let vn : v < length p.group = unowned-in p.group v e in
      let un : u < length p.group = unowned-in p.group u a.1 in
      let eu : at g1 u ≡ unassigned = get_or-set_other p.group v u m 0 a.0 ∙ a.1 in
      let size1 : length g1 ≡ length p.group = length-set p.group v m in
      record {
        sized = length-set g1 u m ∙ size1 ∙ g.sized;
        room = omega (
          arith,
          g.room,
          length-append p.weights ((at ws v + at ws u) ∷ []),
          vacant-set p.group v m e k,
          vacant-set g1 u m eu k,
        );
        adds = λ P f.
            let z : P (at p.group v) ≡ false = ap P e ∙ f in
            let y : P (at g1 u) ≡ false = ap P eu ∙ f in
            let wv : v < length ws = omega (arith, weighed, g.sized) in
            let wu : u < length ws = omega (arith, weighed, g.sized) in
            let un1 : u < length g1 = omega arith in
            let one = simp z at (by-set P ws p.group v m vn wv) in
            let two = simp y at (by-set P ws g1 u m un1 wu) in
            let more = index-snoc P 0 p.weights (at ws v + at ws u) m (omega arith) in
            omega (arith, g.adds P f, one, two, more, cond-add (P m) (at ws v) (at ws u));
      }

  grouped-sets
      : (p : Pairing) (v x : ℕ) (o : Option ℕ) → Grouped n ws p → at p.group x ≢ unassigned → at (grouped ws p v o).group x ≢ unassigned
  unfolding grouped
  grouped-sets p v x none g h = set-stays p.group v (length p.weights) x (new-group p g) h
  grouped-sets p v x (some u) g h =
      let m = length p.weights in
      set-stays (set p.group v m) u m x (new-group p g) (set-stays p.group v m x (new-group p g) h)

  grouped-does : (p : Pairing) (v : ℕ) (o : Option ℕ) → Grouped n ws p → v < n → at (grouped ws p v o).group v ≢ unassigned
  unfolding grouped
  grouped-does p v none g h = rw (get_or-set_same p.group v (length p.weights) 0 (rw g.sized h)) (new-group p g)
  grouped-does p v (some u) g h =
      let m = length p.weights in
      let k = new-group p g in
      set-stays (set p.group v m) u m v k (rw (get_or-set_same p.group v m 0 (rw g.sized h)) k)

module _ (rows : List (List ℕ)) (s : Sound rows) where
  -- a vertex's partner is a vertex apart from it
  pub apart : (group : List ℕ) (v : ℕ) → v < length rows → (o : Option ℕ) → partner rows group v ≡ o → Apart group v o
  unfolding partner
  apart group v h none e = tt
  apart group v h (some u) e =
      let free : ℕ → Bool = λ u. eqb (at group u) unassigned in
      let other : ℕ → Type 0 = λ u. u ≢ v in
      let others : All other (row rows v) =
      all-to (λ u. eqb v u ≡ false) other (λ u f. λ q. eqb-false v u f (sym q)) (row rows v) (any_none (eqb v) (row rows v) (s.selfless v h)) in (
        best-all (closer rows v) other (filter free (row rows v)) u (all_filter other free (row rows v) others) e,
        eqb-true (at group u) unassigned (best-kept (closer rows v) free (row rows v) u e),
      )

module _ (rows : List (List ℕ)) (s : Sound rows) (ws : List ℕ) (small : length rows < unassigned) (weighed : length ws ≡ length rows) where
  match-keeps : (p : Pairing) (v : ℕ) → v < length rows → Grouped (length rows) ws p → Grouped (length rows) ws (match rows ws p v)
  unfolding match
  match-keeps p v h g =
      let o = partner rows p.group v in
      split (eqb (at p.group v) unassigned)
      (λ q.
      let e = eqb-true (at p.group v) unassigned q in
      rw q (grouped-keeps (length rows) ws small weighed p v o g e (apart rows s p.group v h o refl)))
      (λ q. rw q g)

  match-sets : (p : Pairing) (v x : ℕ) → Grouped (length rows) ws p → at p.group x ≢ unassigned → at (match rows ws p v).group x ≢ unassigned
  unfolding match
  match-sets p v x g h = split (eqb (at p.group v) unassigned)
      (λ q. rw q (grouped-sets (length rows) ws small weighed p v x (partner rows p.group v) g h))
      (λ q. rw q h)

  match-does : (p : Pairing) (v : ℕ) → v < length rows → Grouped (length rows) ws p → at (match rows ws p v).group v ≢ unassigned
  unfolding match
  match-does p v h g = split (eqb (at p.group v) unassigned)
      (λ q. rw q (grouped-does (length rows) ws small weighed p v (partner rows p.group v) g h))
      (λ q. rw q (eqb-false (at p.group v) unassigned q))

  -- after some vertices' turns
  pub all-match
      : (vs : List ℕ)
      → All (λ v. v < length rows) vs
      → (p : Pairing)
      → Grouped (length rows) ws p
      → Grouped (length rows) ws (foldl (match rows ws) p vs)
  all-match [] a p g = g
  all-match (v ∷ vs) a p g = all-match vs a.1 (match rows ws p v) (match-keeps p v a.0 g)

  stays-set
      : (vs : List ℕ)
      → All (λ v. v < length rows) vs
      → (p : Pairing)
      → Grouped (length rows) ws p
      → (x : ℕ)
      → at p.group x ≢ unassigned
      → at (foldl (match rows ws) p vs).group x ≢ unassigned
  stays-set [] a p g x h = h
  stays-set (v ∷ vs) a p g x h = stays-set vs a.1 (match rows ws p v) (match-keeps p v a.0 g) x (match-sets p v x g h)

  covers
      : (vs : List ℕ)
      → All (λ v. v < length rows) vs
      → (p : Pairing)
      → Grouped (length rows) ws p
      → (x : ℕ)
      → elem x vs ≡ true
      → at (foldl (match rows ws) p vs).group x ≢ unassigned
  covers [] a p g x e = absurd (false≢true e)
  covers (v ∷ vs) a p g x e =
      let q = match rows ws p v in
      let g1 = match-keeps p v a.0 g in
      split (eqb x v)
      (λ r. let z : v ≡ x = sym (eqb-true x v r) in
      stays-set vs a.1 q g1 x (subst (λ (y : ℕ). at q.group y ≢ unassigned) z (match-does p v a.0 g)))
      (λ r. covers vs a.1 q g1 x (rw r at e))

-- ---- every vertex has its turn

elem-falling : (d m : ℕ) → d ≤ m → elem d (falling m) ≡ true
elem-falling d zero h = rw (eq-eqb d 0 (omega arith))
elem-falling d (suc m) h = split (eqb d (suc m)) (λ q. rw q) (λ q. let z = eqb-false d (suc m) q in rw q (elem-falling d m (omega arith)))

-- no degree is above the highest
pub degree-most : (rows : List (List ℕ)) (v : ℕ) → degree rows v ≤ highest_degree rows
degree-most [] v = omega arith
degree-most (r ∷ rs) zero = omega arith
degree-most (r ∷ rs) (suc v) = omega (arith, degree-most rs v)

module _ (rows : List (List ℕ)) where
  -- every vertex is in the order by degree, and nothing else
  pub by_degree-has : (v : ℕ) → v < length rows → elem v (by_degree rows) ≡ true
  unfolding by_degree
  by_degree-has v h =
      let m = highest_degree rows in
      let here : elem v (of_degree rows (degree rows v)) ≡ true =
      elem-filter v (λ u. eqb (degree rows u) (degree rows v)) (vertices rows)
      ∙ and_i _ _ (eq-eqb (degree rows v) (degree rows v) refl) (elem-range v 0 (length rows) (omega arith) (omega arith)) in
      elem-concat v (of_degree rows) (falling m)
      ∙ to-any (λ d. elem v (of_degree rows d)) (falling m) (degree rows v) (elem-falling (degree rows v) m (degree-most rows v)) here

  pub by_degree-below : All (λ v. v < length rows) (by_degree rows)
  unfolding by_degree
  by_degree-below =
      let low : ℕ → Type 0 = λ v. v < length rows in
      let all-low : All low (vertices rows) = all-range low 0 (length rows) (λ x a b. omega arith) in
      all-concat low (of_degree rows) (falling (highest_degree rows))
      (to-all _ (λ d. all_filter low (λ v. eqb (degree rows v) d) (vertices rows) all-low) (falling (highest_degree rows)))

-- ---- a step as a whole

-- a weight for each group
pub coarse-weighed : (rows : List (List ℕ)) (ws : List ℕ) → length (coarsen_once rows ws).weights ≡ length (coarsen_once rows ws).rows
unfolding coarsen_once
coarse-weighed rows ws =
    let m = length (pairing rows ws).weights in
    sym (length-map (range 0 m) (coarse_row rows (pairing rows ws).group m) ∙ length-range 0 m)

module _ (rows : List (List ℕ)) (s : Sound rows) (ws : List ℕ) (small : length rows < unassigned) (weighed : length ws ≡ length rows) where
  -- before the first turn, and after the last
  pub unmatched-grouped : Grouped (length rows) ws (unmatched (length rows))
  unfolding unmatched by_index
  unmatched-grouped =
      let n = length rows in
      record {
        sized = length-replicate n unassigned;
        room = omega (arith, count-length (eqb unassigned) (replicate n unassigned), length-replicate n unassigned);
        adds = λ P f. by-none P f ws n;
      }

  pub pairing-grouped : Grouped (length rows) ws (pairing rows ws)
  unfolding pairing
  pairing-grouped = all-match rows s ws small weighed (by_degree rows) (by_degree-below rows) (unmatched (length rows)) unmatched-grouped

  -- every vertex is in a group
  pub pairing-covers : (v : ℕ) → v < length rows → at (pairing rows ws).group v ≢ unassigned
  unfolding pairing
  pairing-covers v h =
      covers rows s ws small weighed (by_degree rows) (by_degree-below rows) (unmatched (length rows)) unmatched-grouped v (by_degree-has rows v h)

  -- its rows are sound
  pub coarse-sound : Sound (coarsen_once rows ws).rows
  unfolding coarsen_once
  coarse-sound = rows-sound rows (pairing rows ws).group s (length (pairing rows ws).weights)

  -- a group for each vertex, and no more groups than vertices
  pub coarse-sized : length (coarsen_once rows ws).group ≡ length rows
  unfolding coarsen_once
  coarse-sized = pairing-grouped.sized

  -- what the groups that pass weigh, whatever the test
  pub groups-weigh : (P : ℕ → Bool) → load_by P ws (coarsen_once rows ws).group ≡ by_index P 0 (coarsen_once rows ws).weights
  unfolding coarsen_once
  groups-weigh P =
      let p = pairing rows ws in
      let made : ℕ → Bool = λ g. not (eqb g unassigned) && P g in
      let size = pairing-grouped.sized in
      let fine = by-ext P made ws p.group (λ i h. rw (ne_eqb (at p.group i) unassigned (pairing-covers i (omega arith)))) in
      let coarse = index-ext made P 0 p.weights (λ g j e h. rw (ne_eqb g unassigned (λ z. omega (arith, pairing-grouped.room)))) in
      fine ∙ pairing-grouped.adds made refl ∙ coarse

  -- the weights add up to the same
  pub coarse-sum : sum (coarsen_once rows ws).weights ≡ sum ws
  coarse-sum =
      let c = coarsen_once rows ws in
      sym (index-all 0 c.weights) ∙ sym (groups-weigh (λ g. true)) ∙ by_all ws c.group (omega (arith, weighed, coarse-sized))

  -- a rank's load after a take-over is what it was on the coarser level
  pub coarse-load
      : (o : List ℕ) (r : ℕ)
      → length o ≡ length (coarsen_once rows ws).rows
      → load ws (map (at o) (coarsen_once rows ws).group) r ≡ load (coarsen_once rows ws).weights o r
  coarse-load o r n =
      let c = coarsen_once rows ws in
      let owns : ℕ → Bool = λ g. eqb (at o g) r in
      let same = index-load owns 0 c.weights o r (n ∙ sym (coarse-weighed rows ws)) (λ g j e. let z : g ≡ j = omega arith in ap owns z) in
      load-by ws c.group o r ∙ groups-weigh owns ∙ same

-- ---- the counts of a step

-- pairs and singletons are all the groups
abbrev Counted : Pairing → Type 0
Counted p = p.pairs + p.singletons ≡ length p.weights

grouped-counted : (ws : List ℕ) (p : Pairing) (v : ℕ) (u : Option ℕ) → Counted p → Counted (grouped ws p v u)
unfolding grouped
grouped-counted ws p v none e = omega (arith, length-append p.weights (at ws v ∷ []))
grouped-counted ws p v (some u) e = omega (arith, length-append p.weights ((at ws v + at ws u) ∷ []))

match-counted : (rows : List (List ℕ)) (ws : List ℕ) (vs : List ℕ) (p : Pairing) → Counted p → Counted (foldl (match rows ws) p vs)
unfolding match
match-counted rows ws [] p e = e
match-counted rows ws (v ∷ vs) p e =
    match-counted rows ws vs (cond (eqb (at p.group v) unassigned) (grouped ws p v (partner rows p.group v)) p)
    (split (eqb (at p.group v) unassigned)
    (λ q. rw q (grouped-counted ws p v (partner rows p.group v) e))
    (λ q. rw q e))

pub coarse-counted
    : (rows : List (List ℕ)) (ws : List ℕ) → (coarsen_once rows ws).pairs + (coarsen_once rows ws).singletons ≡ length (coarsen_once rows ws).weights
unfolding coarsen_once pairing unmatched
coarse-counted rows ws =
    match-counted rows ws (by_degree rows) (record { group = replicate (length rows) unassigned; weights = []; pairs = 0; singletons = 0 }) refl
