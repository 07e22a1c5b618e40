-- What a coarsening step pairs: of two linked vertices one at least is in a group with a neighbor. So two linked groups weigh 3 at least, where every
-- vertex weighs 1 at least. Assumes nothing.
use Prim.Native.Nat.{ℕ, zero, suc, ◌+◌, ◌≤◌, ◌<◌}
use mathlib.Core.Path.{◌≡◌, refl, sym, ap, ◌∙◌, subst}
use mathlib.Core.Logic.{◌≢◌, ◌⊎◌, inl, inr, ⊎_elim}
use mathlib.Core.Bool.{Bool, true, not, ◌&&◌, true≢false, false≢true}
use mathlib.Core.List.{List, [], ◌∷◌}
use mathlib.Core.Option.{Option, none, some}
use native.Mathlib.Omega.{arith}
use lib.ListN.{length, set, length-set, get_or-replicate}
use lib.Seq.{get_or-set_same, get_or-set_other}
use lib.Dec.{eqb}
use borrow.Author.Tests.{eq-eqb, ne_eqb, eqb-true, eqb-false}
use Rattle.links.specs.Lists.{at, unassigned, filter, foldl, elem, All}
use Rattle.links.specs.Graph.{row, Sound, load}
use Rattle.stages.specs.Coarsen.{closer, partner, Pairing, grouped, match, unmatched, pairing, by_degree, coarse_row, coarsen_once}
use Rattle.links.proofs.ListLaws.{split, and_i, and_r, all_filter, all_append, all_in, elem-filter, best_none, best-all}
use Rattle.links.proofs.RowLaws.{get_or-map-range, all-place, by_place, elem-place}
use Rattle.stages.proofs.GrowthLaws.{unowned-in}
use Rattle.stages.proofs.LoadLaws.{load_by, by_index}
use Rattle.stages.proofs.LoadSetLaws.{load-set, load-holds}
use Rattle.stages.proofs.GroupingLaws.{touched, touched-of, elem-row, Grouped, apart, all-match, by_degree-below, unmatched-grouped, pairing-covers, coarse-sound, coarse-sized, coarse-weighed, groups-weigh}

-- ---- two of one rank, or of one group

-- two vertices' weights are part of their rank's load
pub load-two
    : (ws os : List ℕ) (v w : ℕ)
    → v ≢ w
    → v < length os
    → v < length ws
    → w < length os
    → at os w ≡ at os v
    → at ws v + at ws w ≤ load ws os (at os v)
load-two ws os v w d h k j e =
    let r = at os v in
    let there = set os v (suc r) in
    let moved = simp (eq-eqb r r refl, ne_eqb (suc r) r (λ z. omega arith)) at (load-set ws os v (suc r) r h k) in
    let owner : at there w ≡ r = get_or-set_other os v w (suc r) 0 (λ z. d (sym z)) ∙ e in
    let rest : at ws w ≤ load ws there r = rw owner at (load-holds ws there w (rw (length-set os v (suc r)) j)) in
    omega arith

-- every vertex weighs 1 at least
abbrev pub Weighty : List ℕ → Type 0
Weighty ws = All (λ w. 1 ≤ w) ws

module _ (rows : List (List ℕ)) (s : Sound rows) (ws : List ℕ) (weighed : length ws ≡ length rows) (some-weight : Weighty ws) where
  pub weight-some : (v : ℕ) → v < length rows → 1 ≤ at ws v
  weight-some v h = all-place (λ w. 1 ≤ w) ws v some-weight (omega arith)

  -- a rank that owns a vertex and a neighbor of it has a load of 2 at least
  pub neighbors-load
      : (os : List ℕ) (v w : ℕ)
      → length os ≡ length rows
      → v < length rows
      → elem w (row rows v) ≡ true
      → at os w ≡ at os v
      → 2 ≤ load ws os (at os v)
  neighbors-load os v w n h l e =
      let wn : w < length rows = all_in (λ u. u < length rows) (row rows v) w (s.below v h) l in
      let d : v ≢ w = λ z. true≢false (sym l ∙ ap (λ (x : ℕ). elem x (row rows v)) (sym z) ∙ s.selfless v h) in
      omega (arith, load-two ws os v w d (omega arith) (omega arith) (omega arith) e, weight-some v h, weight-some w wn)

-- ---- of two linked vertices one is paired

-- v is in a group with a neighbor
pub record Paired (rows : List (List ℕ)) (group : List ℕ) (v : ℕ) : Type 0 where
  pub mate : ℕ
  pub linked : elem mate (row rows v) ≡ true
  pub together : at group mate ≡ at group v
  pub made : at group v ≢ unassigned

-- of a vertex that is in a group and a neighbor of it, one is paired
abbrev EitherPaired : List (List ℕ) → List ℕ → Type 0
EitherPaired rows group =
    (v u : ℕ) → v < length rows → elem u (row rows v) ≡ true → at group v ≢ unassigned → Paired rows group v ⊎ Paired rows group u

module _ (rows : List (List ℕ)) where
  -- a vertex without a partner has no unmatched neighbor
  pub partner-none : (group : List ℕ) (v u : ℕ) → partner rows group v ≡ none → elem u (row rows v) ≡ true → at group u ≢ unassigned
  unfolding partner
  partner-none group v u e l z =
      let free : ℕ → Bool = λ x. eqb (at group x) unassigned in
      let nobody : filter free (row rows v) ≡ [] = best_none (closer rows v) (filter free (row rows v)) e in
      let somebody : elem u (filter free (row rows v)) ≡ true =
      elem-filter u free (row rows v) ∙ and_i (free u) (elem u (row rows v)) (eq-eqb (at group u) unassigned z) l in
      false≢true (ap (elem u) (sym nobody) ∙ somebody)

  -- a partner is a neighbor
  partner-linked : (group : List ℕ) (v u : ℕ) → partner rows group v ≡ some u → elem u (row rows v) ≡ true
  unfolding partner
  partner-linked group v u e =
      let xs = row rows v in
      let free : ℕ → Bool = λ x. eqb (at group x) unassigned in
      let inside : ℕ → Type 0 = λ x. elem x xs ≡ true in
      best-all (closer rows v) inside (filter free xs) u (all_filter inside free xs (by_place inside xs (λ i h. elem-place xs i (at xs i) h refl))) e

  -- a group for an unmatched vertex leaves the pairs as they are
  paired-set : (group : List ℕ) (x m v : ℕ) → at group x ≡ unassigned → Paired rows group v → Paired rows (set group x m) v
  paired-set group x m v e p =
      let same : (y : ℕ) → at group y ≢ unassigned → at (set group x m) y ≡ at group y =
      λ y d. get_or-set_other group x y m 0 (λ z. d (ap (at group) z ∙ e)) in
      let here = same v p.made in
      let there = same p.mate (λ z. p.made (sym p.together ∙ z)) in
      record { mate = p.mate; linked = p.linked; together = there ∙ p.together ∙ sym here; made = λ z. p.made (sym here ∙ z) }

  either-set
      : (group : List ℕ) (x m v u : ℕ)
      → at group x ≡ unassigned
      → Paired rows group v ⊎ Paired rows group u
      → Paired rows (set group x m) v ⊎ Paired rows (set group x m) u
  either-set group x m v u e (inl p) = inl (paired-set group x m v e p)
  either-set group x m v u e (inr p) = inr (paired-set group x m u e p)

  module _ (s : Sound rows) (group : List ℕ) (v m : ℕ) (h : v < length rows) (e : at group v ≡ unassigned) (either : EitherPaired rows group) where
    inside : (u : ℕ) → elem u (row rows v) ≡ true → u < length rows
    inside u l = all_in (λ w. w < length rows) (row rows v) u (s.below v h) l

    back : (u : ℕ) → elem u (row rows v) ≡ true → elem v (row rows u) ≡ true
    back u l = s.symmetric u v (inside u l) h ∙ l

    -- v becomes a singleton: each of its neighbors is in a group while v is not, so it is paired
    either-single : partner rows group v ≡ none → EitherPaired rows (set group v m)
    either-single q x y hx l d = split (eqb x v)
        (λ p.
        let lv : elem y (row rows v) ≡ true = subst (λ (z : ℕ). elem y (row rows z) ≡ true) (eqb-true x v p) l in
        ⊎_elim
        (λ w. inr (paired-set group v m y e w))
        (λ w. absurd (w.made e))
        (either y v (inside y lv) (back y lv) (partner-none group v y q lv)))
        (λ p.
        let same : at (set group v m) x ≡ at group x = get_or-set_other group v x m 0 (eqb-false x v p) in
        either-set group v m x y e (either x y hx l (λ z. d (same ∙ z))))

    -- v and u become a pair
    either-pair : (u : ℕ) → m ≢ unassigned → partner rows group v ≡ some u → EitherPaired rows (set (set group v m) u m)
    either-pair u k q x y hx l d =
        let lu = partner-linked group v u q in
        let a = apart rows s group v h (some u) q in
        let g1 = set group v m in
        let g2 = set g1 u m in
        let free : at g1 u ≡ unassigned = get_or-set_other group v u m 0 a.0 ∙ a.1 in
        let gv : at g2 v ≡ m = get_or-set_other g1 u v m 0 (λ z. a.0 (sym z)) ∙ get_or-set_same group v m 0 (unowned-in group v e) in
        let gu : at g2 u ≡ m = get_or-set_same g1 u m 0 (unowned-in g1 u free) in
        let pv : Paired rows g2 v = record { mate = u; linked = lu; together = gu ∙ sym gv; made = λ z. k (sym gv ∙ z) } in
        let pu : Paired rows g2 u = record { mate = v; linked = back u lu; together = gv ∙ sym gu; made = λ z. k (sym gu ∙ z) } in
        split (eqb x v)
        (λ p. inl (subst (Paired rows g2) (sym (eqb-true x v p)) pv))
        (λ p. split (eqb x u)
        (λ r. inl (subst (Paired rows g2) (sym (eqb-true x u r)) pu))
        (λ r.
        let same : at g2 x ≡ at group x = get_or-set_other g1 u x m 0 (eqb-false x u r) ∙ get_or-set_other group v x m 0 (eqb-false x v p) in
        either-set g1 u m x y free (either-set group v m x y e (either x y hx l (λ z. d (same ∙ z))))))

module _ (rows : List (List ℕ)) (s : Sound rows) (ws : List ℕ) (small : length rows < unassigned) (weighed : length ws ≡ length rows) where
  match-either
      : (p : Pairing) (v : ℕ)
      → v < length rows
      → Grouped (length rows) ws p
      → EitherPaired rows p.group
      → EitherPaired rows (match rows ws p v).group
  unfolding match grouped
  match-either p v h g either = split (eqb (at p.group v) unassigned)
      (λ q. rw q (go (eqb-true (at p.group v) unassigned q) (partner rows p.group v) refl))
      (λ q. rw q either)
    where
      go : at p.group v ≡ unassigned → (o : Option ℕ) → partner rows p.group v ≡ o → EitherPaired rows (grouped ws p v o).group
      go e none q = either-single rows s p.group v (length p.weights) h e either q
      go e (some u) q = either-pair rows s p.group v (length p.weights) h e either u (λ z. omega (arith, g.room)) q

  all-either
      : (vs : List ℕ)
      → All (λ v. v < length rows) vs
      → (p : Pairing)
      → Grouped (length rows) ws p
      → EitherPaired rows p.group
      → EitherPaired rows (foldl (match rows ws) p vs).group
  all-either [] a p g either = either
  all-either (v ∷ vs) a p g either =
      all-either vs a.1 (match rows ws p v) (all-match rows s ws small weighed (v ∷ []) (a.0, tt) p g) (match-either p v a.0 g either)

  -- after a step, of two linked vertices one is paired
  pub step-paired
      : (v u : ℕ)
      → v < length rows
      → elem u (row rows v) ≡ true
      → Paired rows (coarsen_once rows ws).group v ⊎ Paired rows (coarsen_once rows ws).group u
  unfolding coarsen_once pairing unmatched
  step-paired v u h l =
      all-either (by_degree rows) (by_degree-below rows) (unmatched (length rows)) (unmatched-grouped rows s ws small weighed)
      (λ x y k m d. absurd (d (get_or-replicate (length rows) x unassigned 0 k)))
      v u h l (pairing-covers rows s ws small weighed v h)

-- ---- what groups weigh

-- a group's weight, by its number
load-group : (ws gs : List ℕ) (g : ℕ) → load ws gs g ≡ load_by (λ h. eqb h g) ws gs
unfolding load load_by
load-group [] gs g = refl
load-group (w ∷ ws) [] g = refl
load-group (w ∷ ws) (h ∷ gs) g = omega (arith, load-group ws gs g)

index-none : (ws : List ℕ) (i g : ℕ) → g < i → by_index (λ h. eqb h g) i ws ≡ 0
unfolding by_index
index-none [] i g h = refl
index-none (w ∷ ws) i g h = rw (ne_eqb i g (λ e. omega arith), index-none ws (suc i) g (omega arith))

index_at : (ws : List ℕ) (i g j : ℕ) → g ≡ i + j → by_index (λ h. eqb h g) i ws ≡ at ws j
unfolding by_index
index_at [] i g j e = refl
index_at (w ∷ ws) i g zero e = rw (eq-eqb i g (omega arith), index-none ws (suc i) g (omega arith)) (omega arith)
index_at (w ∷ ws) i g (suc j) e = rw (ne_eqb i g (λ z. omega arith), index_at ws (suc i) g j (omega arith)) (omega arith)

module _ (rows : List (List ℕ)) (ws : List ℕ) (weighed : length ws ≡ length rows) (some-weight : Weighty ws) where
  grouped-weighty : (p : Pairing) (v : ℕ) (o : Option ℕ) → v < length rows → Weighty p.weights → Weighty (grouped ws p v o).weights
  unfolding grouped
  grouped-weighty p v none h a =
      all_append (λ w. 1 ≤ w) p.weights (at ws v ∷ []) a (all-place (λ w. 1 ≤ w) ws v some-weight (omega arith), tt)
  grouped-weighty p v (some u) h a =
      all_append (λ w. 1 ≤ w) p.weights ((at ws v + at ws u) ∷ []) a (omega (arith, all-place (λ w. 1 ≤ w) ws v some-weight (omega arith)), tt)

  all-weighty
      : (vs : List ℕ) → All (λ v. v < length rows) vs → (p : Pairing) → Weighty p.weights → Weighty (foldl (match rows ws) p vs).weights
  unfolding match
  all-weighty [] a p k = k
  all-weighty (v ∷ vs) a p k = all-weighty vs a.1 (match rows ws p v) (split (eqb (at p.group v) unassigned)
      (λ q. rw q (grouped-weighty p v (partner rows p.group v) a.0 k))
      (λ q. rw q k))

  -- every group weighs 1 at least
  pub coarse-weighty : Weighty (coarsen_once rows ws).weights
  unfolding coarsen_once pairing unmatched
  coarse-weighty = all-weighty (by_degree rows) (by_degree-below rows) (unmatched (length rows)) tt

-- two linked vertices weigh 3 at least
abbrev pub Heavy : List (List ℕ) → List ℕ → Type 0
Heavy rows ws = (v u : ℕ) → v < length rows → elem u (row rows v) ≡ true → 3 ≤ at ws v + at ws u

module _
    (rows : List (List ℕ)) (s : Sound rows) (ws : List ℕ) (small : length rows < unassigned)
    (weighed : length ws ≡ length rows) (some-weight : Weighty ws) where
  -- a group with a paired vertex weighs 2 at least
  paired-heavy : (v : ℕ) → v < length rows → (let c = coarsen_once rows ws in Paired rows c.group v → 2 ≤ at c.weights (at c.group v))
  paired-heavy v h p =
      let c = coarsen_once rows ws in
      let g = at c.group v in
      let weight : load ws c.group g ≡ at c.weights g =
      load-group ws c.group g ∙ groups-weigh rows s ws small weighed (λ h. eqb h g) ∙ index_at c.weights 0 g g (omega arith) in
      let sized = coarse-sized rows s ws small weighed in
      omega (arith, neighbors-load rows s ws weighed some-weight c.group v p.mate sized h p.linked p.together)

  -- two linked groups weigh 3 at least: they have two linked vertices, of which one is paired
  pub coarse-heavy : Heavy (coarsen_once rows ws).rows (coarsen_once rows ws).weights
  unfolding coarsen_once
  coarse-heavy g h k l =
      let c = coarsen_once rows ws in
      let m = length c.weights in
      let size : length c.weights ≡ length c.rows = coarse-weighed rows ws in
      let hm : h < m = omega (arith, all_in (λ x. x < length c.rows) (row c.rows g) h ((coarse-sound rows s ws small weighed).below g k) l) in
      let z : 0 + g ≡ g = omega arith in
      let is : row c.rows g ≡ coarse_row rows c.group m g =
      get_or-map-range [] (coarse_row rows c.group m) 0 m g (omega arith) ∙ ap (coarse_row rows c.group m) z in
      let both : not (eqb h g) && elem h (touched rows c.group g) ≡ true =
      sym (elem-row rows c.group s m g h hm) ∙ ap (elem h) (sym is) ∙ l in
      let w = touched-of rows c.group s g h (and_r (not (eqb h g)) (elem h (touched rows c.group g)) both) in
      let t = w.2 in
      let some-group : (x : ℕ) → x < m → 1 ≤ at c.weights x =
      λ x b. all-place (λ y. 1 ≤ y) c.weights x (coarse-weighty rows ws weighed some-weight) b in
      ⊎_elim
      (λ p. omega (arith, rw t.of-g at (paired-heavy w.0 t.from p), some-group h hm))
      (λ p. omega (arith, rw t.of-h at (paired-heavy w.1 t.to p), some-group g (omega arith)))
      (step-paired rows s ws small weighed w.0 w.1 t.from t.linked)
