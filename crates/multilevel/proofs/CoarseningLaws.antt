-- What the coarsening steps leave: a step is discarded exactly when its level has no link, so that numbers tell whether one is kept; a step at most
-- halves its level, and so refusal 7 needs coarse_vertices_per_rank = 1. Assumes nothing.
use Prim.Native.Nat.{ℕ, zero, suc, ◌+◌, ◌*◌, ◌≤◌, ◌<◌}
use mathlib.Core.Path.{◌≡◌, refl, sym, ap, ◌∙◌, subst}
use mathlib.Core.Logic.{◌↔◌, ◌≢◌, inl, inr, ⊎_elim}
use mathlib.Core.Bool.{Bool, true, false, cond, false≢true}
use mathlib.Core.List.{List, [], ◌∷◌, nil≢cons}
use mathlib.Core.Option.{Option, none, some}
use native.Mathlib.Nat.{mul_comm, mul-le-mul}
use native.Mathlib.Omega.{arith}
use lib.ListN.{length, set, replicate, length-append, length-replicate, length-set, get_or-replicate}
use lib.Seq.{get_or-set_other}
use lib.Dec.{leb, ltb, eqb}
use borrow.Author.Tests.{eq-eqb, ne_eqb, eqb-true, ltb-true, ltb-false, le-ltb, leb-true, leb-false}
use Rattle.links.specs.Lists.{at, unassigned, any, filter, foldl, best, elem, All}
use Rattle.links.specs.Loads.{Balance, balance}
use Rattle.links.specs.Graph.{row, degree, vertex_count, bad_lists, Sound}
use Rattle.links.specs.Workloads.{bad_workloads}
use Rattle.links.specs.Options.{bad_options, bad_swaps, stop_size}
use Rattle.stages.specs.Coarsen.{closer, partner, Pairing, grouped, match, unmatched, pairing, by_degree, Coarse, coarsen_once}
use Rattle.stages.specs.Seeds.{farthest_seeds}
use Rattle.stages.specs.Growth.{weighted_multisource, grown}
use Rattle.stages.specs.declared.swaps.Swapping.{Swapping}
use Rattle.multilevel.specs.Causes.{Call, bad_counts, over_limits, first_of, too_short, early_cause}
use Rattle.multilevel.specs.Division.{refused, coarsenings, coarsest_rows, take_over, swapping_of, no_swapping, grow, solve, division}
use Rattle.multilevel.specs.Demand3.{site_rows, balance_of, passes_of, kept_steps}
use Rattle.multilevel.specs.Stuck.{NoStep}
use Rattle.links.proofs.ListLaws.{split, all_in, none-filter, total-zero}
use Rattle.links.proofs.RowLaws.{length-rows, length-row, offsets-fit, by_place}
use Rattle.stages.proofs.CutLaws.{total-degrees, list-entries}
use Rattle.stages.proofs.GrowthLaws.{vacant, vacant-set}
use Rattle.stages.proofs.GroupingLaws.{Apart, apart, by_degree-has, by_degree-below, pairing-grouped, pairing-covers, coarse-sound, coarse-weighed, coarse-counted}
use Rattle.multilevel.proofs.PairedLaws.{partner-none}
use Rattle.multilevel.proofs.DivisionLaws.{Tested, tested, refine-unchecked}
use Rattle.multilevel.proofs.Demand3Laws.{refused-by}

-- ---- each pair makes one group less than vertices

-- groups as made so far, of n vertices
abbrev Spent : ℕ → Pairing → Type 0
Spent n p = (length p.group ≡ n) × (p.pairs + length p.weights + vacant p.group ≡ n)

module _ (n : ℕ) (small : n < unassigned) (ws : List ℕ) where
  grouped-spent
      : (p : Pairing) (v : ℕ) (o : Option ℕ) → Spent n p → at p.group v ≡ unassigned → Apart p.group v o → Spent n (grouped ws p v o)
  unfolding grouped
  grouped-spent p v none s e a =
      let m = length p.weights in
      (length-set p.group v m ∙ s.0, omega (arith, s.1, length-append p.weights (at ws v ∷ []), vacant-set p.group v m e (λ z. omega (arith, s.1))))
  grouped-spent p v (some u) s e a =
      let m = length p.weights in
      let g1 = set p.group v m in
      let eu : at g1 u ≡ unassigned = get_or-set_other p.group v u m 0 a.0 ∙ a.1 in (
        length-set g1 u m ∙ length-set p.group v m ∙ s.0,
        omega (
          arith,
          s.1,
          length-append p.weights ((at ws v + at ws u) ∷ []),
          vacant-set p.group v m e (λ z. omega (arith, s.1)),
          vacant-set g1 u m eu (λ z. omega (arith, s.1)),
        ),
      )

module _ (rows : List (List ℕ)) (ws : List ℕ) where
  -- pairs are never undone
  grouped-grows : (p : Pairing) (v : ℕ) (o : Option ℕ) → p.pairs ≤ (grouped ws p v o).pairs
  unfolding grouped
  grouped-grows p v none = omega arith
  grouped-grows p v (some u) = omega arith

  match_grows : (p : Pairing) (v : ℕ) → p.pairs ≤ (match rows ws p v).pairs
  unfolding match
  match_grows p v = split (eqb (at p.group v) unassigned)
      (λ q. rw q (grouped-grows p v (partner rows p.group v)))
      (λ q. rw q (omega arith))

  pairs-grow : (vs : List ℕ) (p : Pairing) → p.pairs ≤ (foldl (match rows ws) p vs).pairs
  pairs-grow [] p = omega arith
  pairs-grow (v ∷ vs) p = omega (arith, match_grows p v, pairs-grow vs (match rows ws p v))

  -- a vertex without a neighbor makes no pair
  alone : (group : List ℕ) (v : ℕ) → row rows v ≡ [] → partner rows group v ≡ none
  unfolding partner
  alone group v e = ap (λ (r : List ℕ). best (closer rows v) (filter (λ u. eqb (at group u) unassigned) r)) e

  no_pairs : ((v : ℕ) → row rows v ≡ []) → (vs : List ℕ) (p : Pairing) → (foldl (match rows ws) p vs).pairs ≡ p.pairs
  unfolding match grouped
  no_pairs e [] p = refl
  no_pairs e (v ∷ vs) p = no_pairs e vs (match rows ws p v) ∙ one
    where
      one : (match rows ws p v).pairs ≡ p.pairs
      one = split (eqb (at p.group v) unassigned) (λ q. rw (q, alone p.group v (e v))) (λ q. rw q)

module _ (rows : List (List ℕ)) (s : Sound rows) (ws : List ℕ) (small : length rows < unassigned) where
  match-spent : (p : Pairing) (v : ℕ) → v < length rows → Spent (length rows) p → Spent (length rows) (match rows ws p v)
  unfolding match
  match-spent p v h g =
      let o = partner rows p.group v in
      split (eqb (at p.group v) unassigned)
      (λ q. rw q (grouped-spent (length rows) small ws p v o g (eqb-true (at p.group v) unassigned q) (apart rows s p.group v h o refl)))
      (λ q. rw q g)

  all-spent : (vs : List ℕ) → All (λ v. v < length rows) vs → (p : Pairing) → Spent (length rows) p → Spent (length rows) (foldl (match rows ws) p vs)
  all-spent [] a p g = g
  all-spent (v ∷ vs) a p g = all-spent vs a.1 (match rows ws p v) (match-spent p v a.0 g)

  -- two linked vertices, both unmatched: the first of them has a partner
  first-pair
      : (p : Pairing) (v u : ℕ)
      → elem u (row rows v) ≡ true
      → at p.group v ≡ unassigned
      → at p.group u ≡ unassigned
      → 1 ≤ (match rows ws p v).pairs
  unfolding match grouped
  first-pair p v u l ev eu = rw (eq-eqb (at p.group v) unassigned ev) (go (partner rows p.group v) refl)
    where
      go : (o : Option ℕ) → partner rows p.group v ≡ o → 1 ≤ (grouped ws p v o).pairs
      go none e = absurd (partner-none rows p.group v u e l eu)
      go (some w) e = omega arith

  -- every vertex with a neighbor is unmatched still
  abbrev Open : Pairing → Type 0
  Open p = (x y : ℕ) → x < length rows → elem y (row rows x) ≡ true → at p.group x ≡ unassigned

  stays_open : (p : Pairing) (v : ℕ) → row rows v ≡ [] → Open p → Open (match rows ws p v)
  unfolding match grouped
  stays_open p v e i x y h l =
      let d : x ≢ v = λ z. false≢true (ap (elem y) (sym (ap (row rows) z ∙ e)) ∙ l) in
      split (eqb (at p.group v) unassigned)
      (λ q. rw (q, alone rows ws p.group v e) (get_or-set_other p.group v x (length p.weights) 0 d ∙ i x y h l))
      (λ q. rw q (i x y h l))

  some_pair
      : (vs : List ℕ)
      → All (λ v. v < length rows) vs
      → (p : Pairing)
      → Open p
      → (v u : ℕ)
      → elem u (row rows v) ≡ true
      → elem v vs ≡ true
      → 1 ≤ (foldl (match rows ws) p vs).pairs
  some_pair [] a p i v u l e = absurd (false≢true e)
  some_pair (x ∷ vs) a p i v u l e = go (row rows x) refl (λ o m. some_pair vs a.1 (match rows ws p x) o v u l m)
    where
      go
          : (r : List ℕ)
          → row rows x ≡ r
          → (Open (match rows ws p x) → elem v vs ≡ true → 1 ≤ (foldl (match rows ws) (match rows ws p x) vs).pairs)
          → 1 ≤ (foldl (match rows ws) (match rows ws p x) vs).pairs
      go [] q later =
          let d : eqb v x ≡ false = ne_eqb v x (λ z. false≢true (ap (elem u) (sym (ap (row rows) z ∙ q)) ∙ l)) in
          later (stays_open p x q i) (rw d at e)
      go (y ∷ ys) q later =
          let m : elem y (row rows x) ≡ true = ap (elem y) q ∙ rw (eq-eqb y y refl) in
          let yn : y < length rows = all_in (λ w. w < length rows) (row rows x) y (s.below x a.0) m in
          let back : elem x (row rows y) ≡ true = s.symmetric y x yn a.0 ∙ m in
          omega (arith, first-pair p x y m (i x y a.0 m) (i y x yn back), pairs-grow rows ws vs (match rows ws p x))

-- ---- a step as a whole

module _ (rows : List (List ℕ)) (s : Sound rows) (ws : List ℕ) (small : length rows < unassigned) (weighed : length ws ≡ length rows) where
  pairing-spent : Spent (length rows) (pairing rows ws)
  unfolding pairing unmatched
  pairing-spent =
      all-spent rows s ws small (by_degree rows) (by_degree-below rows) (unmatched (length rows))
      (length-replicate (length rows) unassigned, omega (arith, all-vacant (length rows)))
    where
      all-vacant : (n : ℕ) → vacant (replicate n unassigned) ≡ n
      all-vacant zero = refl
      all-vacant (suc n) = ap suc (all-vacant n)

  none-vacant : vacant (pairing rows ws).group ≡ 0
  none-vacant =
      let g = (pairing rows ws).group in
      let n : length g ≡ length rows = (pairing-grouped rows s ws small weighed).sized in
      ap length (none-filter (eqb unassigned) g (by_place (λ x. eqb unassigned x ≡ false) g
      (λ i h. ne_eqb unassigned (at g i) (λ e. pairing-covers rows s ws small weighed i (omega arith) (sym e)))))

  -- so many groups less than vertices as pairs
  pub coarse-pairs : (coarsen_once rows ws).pairs + length (coarsen_once rows ws).rows ≡ length rows
  coarse-pairs = unfold coarsen_once in omega (arith, coarse-weighed rows ws, pairing-spent.1, none-vacant)

  -- a step leaves at least half of them
  pub coarse-half : length rows ≤ 2 * length (coarsen_once rows ws).rows
  coarse-half = omega (arith, coarse-pairs, coarse-counted rows ws, coarse-weighed rows ws)

  linked_pairs : (v u : ℕ) → v < length rows → elem u (row rows v) ≡ true → 1 ≤ (coarsen_once rows ws).pairs
  unfolding coarsen_once pairing unmatched
  linked_pairs v u h l =
      some_pair rows s ws small (by_degree rows) (by_degree-below rows) (unmatched (length rows))
      (λ x y k m. get_or-replicate (length rows) x unassigned 0 k) v u l (by_degree-has rows v h)

  -- "a step that does not shrink is discarded": exactly when no vertex has a neighbor
  pub step-discarded
      : (ltb (length (coarsen_once rows ws).rows) (length rows) ≡ false) ↔ ((v : ℕ) → v < length rows → row rows v ≡ [])
  step-discarded = (no-link, no_step)
    where
      no-link : ltb (length (coarsen_once rows ws).rows) (length rows) ≡ false → (v : ℕ) → v < length rows → row rows v ≡ []
      no-link e v h = go (row rows v) refl
        where
          go : (r : List ℕ) → row rows v ≡ r → r ≡ []
          go [] q = refl
          go (u ∷ us) q =
              let m : elem u (row rows v) ≡ true = ap (elem u) q ∙ rw (eq-eqb u u refl) in
              let z = ltb-false (length (coarsen_once rows ws).rows) (length rows) e in
              absurd (omega (arith, linked_pairs v u h m, coarse-pairs))

      no_step : ((v : ℕ) → v < length rows → row rows v ≡ []) → ltb (length (coarsen_once rows ws).rows) (length rows) ≡ false
      no_step e =
          let z : (coarsen_once rows ws).pairs ≡ 0 = unfold coarsen_once pairing unmatched in no_pairs rows ws everywhere (by_degree rows) (unmatched (length rows)) in
          le-ltb (length (coarsen_once rows ws).rows) (length rows) (omega (arith, coarse-pairs))
        where
          past : (xs : List (List ℕ)) (v : ℕ) → length xs ≤ v → row xs v ≡ []
          past [] v h = refl
          past (x ∷ xs) zero h = absurd (omega arith)
          past (x ∷ xs) (suc v) h = past xs v (omega arith)

          everywhere : (v : ℕ) → row rows v ≡ []
          everywhere v = split (ltb v (length rows)) (λ p. e v (ltb-true v (length rows) p)) (λ p. past rows v (ltb-false v (length rows) p))

-- ---- whether a step is kept, by numbers alone

module _ (c : Call) (g : Tested c) where
  sized : length (site_rows c) ≡ vertex_count c.offsets
  sized = length-rows c.offsets c.neighbors

  -- every row is empty exactly when there is no entry
  unlinked : (length c.neighbors ≡ 0) ↔ ((v : ℕ) → v < length (site_rows c) → row (site_rows c) v ≡ [])
  unlinked = (empty-rows, no-entries)
    where
      nothing : (r : List ℕ) → length r ≡ 0 → r ≡ []
      nothing [] e = refl
      nothing (x ∷ r) e = absurd (omega arith)

      empty-rows : length c.neighbors ≡ 0 → (v : ℕ) → v < length (site_rows c) → row (site_rows c) v ≡ []
      empty-rows z v h =
          let inside : v < vertex_count c.offsets = omega (arith, sized) in
          let fits = offsets-fit c.offsets c.neighbors g.lists (v + 1) (omega arith) in
          nothing (row (site_rows c) v) (omega (arith, length-row c.offsets c.neighbors g.lists v inside))

      no-entries : ((v : ℕ) → v < length (site_rows c) → row (site_rows c) v ≡ []) → length c.neighbors ≡ 0
      no-entries e =
          let rows = site_rows c in
          let none = total-zero 0 (length rows) (degree rows) (λ v h l. ap length (e v (omega arith))) in
          omega (arith, list-entries c.offsets c.neighbors g.lists, total-degrees rows)

  -- no more vertices than coarsening stops at, or no link
  pub no_step : (kept_steps c ≡ []) ↔ NoStep c
  unfolding coarsenings
  no_step = go c.options.max_levels g.some-levels
    where
      n : ℕ
      n = length (site_rows c)

      stop : ℕ
      stop = stop_size c.options c.ranks

      groups : ℕ
      groups = length (coarsen_once (site_rows c) c.workloads).rows

      discarded : (ltb groups n ≡ false) ↔ ((v : ℕ) → v < n → row (site_rows c) v ≡ [])
      discarded =
          step-discarded (site_rows c) g.lists.sound c.workloads (omega (arith, sized, g.few-vertices)) (g.workloads.sized ∙ sym sized)

      -- neither of the two, and so it shrinks
      shrinks : leb n stop ≡ false → ltb groups n ≡ true → ¬ NoStep c
      shrinks p q =
          ⊎_elim (λ few. omega (arith, sized, leb-false n stop p)) (λ z. false≢true (sym (discarded.1 (unlinked.0 z)) ∙ q))

      go : (l : ℕ) → 1 ≤ l → (coarsenings l stop (site_rows c) c.workloads ≡ []) ↔ NoStep c
      go zero h = absurd (omega arith)
      go (suc l) h = split (leb n stop)
          (λ p. rw p (λ e. inl (omega (arith, sized, leb-true n stop p)), λ s. refl))
          (λ p. split (ltb groups n)
          (λ q. rw (p, q) (λ e. absurd (nil≢cons (sym e)), λ s. absurd (shrinks p q s)))
          (λ q. rw (p, q) (λ e. inr (unlinked.1 (discarded.0 q)), λ s. refl)))

-- ---- refusal 7

-- steps that stop at twice the ranks leave a group for each
coarsest-many
    : (k l stop : ℕ) (rows : List (List ℕ)) (ws : List ℕ)
    → 2 * k ≤ stop
    → k ≤ length rows
    → Sound rows
    → length rows < unassigned
    → length ws ≡ length rows
    → k ≤ length (coarsest_rows rows (coarsenings l stop rows ws))
unfolding coarsenings
coarsest-many k zero stop rows ws t h s n w = h
coarsest-many k (suc l) stop rows ws t h s n w =
    let c = coarsen_once rows ws in
    split (leb (length rows) stop)
    (λ p. rw p h)
    (λ p. split (ltb (length c.rows) (length rows))
    (λ q.
    let less = ltb-true (length c.rows) (length rows) q in
    let more = leb-false (length rows) stop p in
    rw (p, q) (coarsest-many k l stop c.rows c.weights t (omega (arith, coarse-half rows s ws n w)) (coarse-sound rows s ws n w) (omega arith) (coarse-weighed rows ws)))
    (λ q. rw (p, q) h))

module _ (b : Balance) (passes : ℕ) where
  grow-7 : (rows : List (List ℕ)) (ws : List ℕ) → (grow b passes rows ws).refusal ≡ 7 → length rows < b.ranks
  unfolding grow
  grow-7 rows ws e =
      let g = weighted_multisource b.cap rows ws (farthest_seeds rows b.ranks) in
      let vacancy = any (eqb unassigned) (grown g g.turns) in
      split (any (ltb b.cap) ws)
      (λ p. let z : ◌≡◌ {A = ℕ} 6 7 = rw p at e in absurd (omega arith))
      (λ p. split (ltb (length rows) b.ranks)
      (λ q. ltb-true (length rows) b.ranks q)
      (λ q. absurd (not7 vacancy (rw (p, q) at e))))
    where
      not7 : (x : Bool) → ◌≢◌ {A = ℕ} (cond x 8 0) 7
      not7 true z = omega arith
      not7 false z = omega arith

  -- 7 comes from the coarsest level alone
  solve-7
      : (cs : List Coarse) (swapping : Swapping) (rows : List (List ℕ)) (ws : List ℕ)
      → (solve b passes swapping rows ws cs).refusal ≡ 7
      → length (coarsest_rows rows cs) < b.ranks
  unfolding solve
  solve-7 [] swapping rows ws e =
      let t = grow b passes rows ws in
      split (eqb t.refusal 0)
      (λ p. absurd (refine-unchecked b passes swapping rows ws [] t 7 refl (rw p at e)))
      (λ p. grow-7 rows ws (rw p at e))
  solve-7 (c ∷ cs) swapping rows ws e =
      let t = solve b passes no_swapping c.rows c.weights cs in
      split (eqb t.refusal 0)
      (λ p. absurd (refine-unchecked b passes swapping rows ws c.group (take_over c.group t) 7 refl (rw p at e)))
      (λ p. solve-7 cs no_swapping c.rows c.weights (rw p at e))

first-7 : (x q y z w u v : Bool) → ◌≢◌ {A = ℕ} (first_of x q y z w u v) 7
first-7 true q y z w u v e = omega arith
first-7 false true y z w u v e = omega arith
first-7 false false true z w u v e = omega arith
first-7 false false false true w u v e = omega arith
first-7 false false false false true u v e = omega arith
first-7 false false false false false true v e = omega arith
first-7 false false false false false false true e = omega arith
first-7 false false false false false false false e = omega arith

early-7 : (c : Call) → early_cause c ≢ 7
unfolding early_cause
early-7 c =
    let n = vertex_count c.offsets in
    first-7
    (bad_options c.options)
    (bad_swaps c.options)
    (bad_counts n c.ranks)
    (over_limits n (length c.neighbors) c.ranks c.options.max_levels)
    (bad_lists c.offsets c.neighbors)
    (bad_workloads n c.workloads)
    (too_short c)

few-groups : (c : Call) → (division c).outcome ≡ refused 7 → (early_cause c ≡ 0) × (length (coarsest_rows (site_rows c) (kept_steps c)) < c.ranks)
unfolding balance
few-groups c e = ⊎_elim
    (λ z. absurd (early-7 c z))
    (λ z.
    let rows = site_rows c in
    (z.0, solve-7 (balance_of c) (passes_of c) (kept_steps c) (swapping_of c.options) rows c.workloads z.1))
    (refused-by c 7 e)

-- 7 needs coarse_vertices_per_rank = 1: with more, the steps stop at twice the ranks or above
pub seven-needs-one : (c : Call) → (division c).outcome ≡ refused 7 → c.options.coarse_vertices_per_rank ≡ 1
unfolding stop_size
seven-needs-one c e =
    let f = few-groups c e in
    let g = tested c f.0 in
    let k = c.ranks in
    let d = c.options.coarse_vertices_per_rank in
    let rows = site_rows c in
    let n = length-rows c.offsets c.neighbors in
    split (ltb d 2)
    (λ p. let z = ltb-true d 2 p in omega (arith, g.some-per-rank))
    (λ p.
    let z = ltb-false d 2 p in
    let twice : 2 * k ≤ k * d = subst (λ (x : ℕ). x ≤ k * d) (mul_comm k 2) (mul-le-mul {n₂ = k} {m₂ = d} (omega arith) z) in
    let many = coarsest-many k c.options.max_levels (stop_size c.options k) rows c.workloads
    (omega (arith, g.few-ranks)) (omega (arith, g.enough-vertices)) g.lists.sound (omega (arith, g.few-vertices)) (g.workloads.sized ∙ sym n) in
    absurd (omega (arith, f.1)))
