-- Refusal 9 comes only where the floor is 0 and no coarsening step was kept: with a floor of 1 at least no move empties a rank; otherwise the cap is
-- 2 at most, and then a division with a kept step makes no move. Assumes nothing.
use Prim.Native.Nat.{ℕ, zero, suc, ◌+◌, ◌-◌, ◌*◌, ◌/◌, ◌≤◌, ◌<◌}
use mathlib.Core.Path.{◌≡◌, refl, sym, ap, ◌∙◌, subst}
use mathlib.Core.Logic.{◌≢◌, ◌⊎◌, inl, inr, ⊎_elim}
use mathlib.Core.Bool.{Bool, true, false, cond, false≢true}
use mathlib.Core.List.{List, [], ◌∷◌, map}
use mathlib.Core.Option.{none}
use native.Mathlib.Nat.{mul-le-mul_left, div-lt_iff_lt-mul}
use native.Mathlib.Omega.{arith}
use lib.ListN.{length, length-map}
use lib.Dec.{leb, ltb, eqb}
use borrow.Author.Tests.{ne_eqb, eqb-true, eqb-false, ltb-true, ltb-false, le-ltb}
use Rattle.links.specs.Lists.{at, unassigned, any, foldl, sum}
use Rattle.links.specs.Loads.{saturating, share, load_cap, minimum_load, Balance, balance}
use Rattle.links.specs.Graph.{Sound}
use Rattle.links.specs.Options.{stop_size}
use Rattle.stages.specs.Coarsen.{Coarse, coarsen_once}
use Rattle.stages.specs.Seeds.{farthest_seeds}
use Rattle.stages.specs.Growth.{Growth, weighted_multisource, grown}
use Rattle.stages.specs.Moves.{after, repeat, destination, refine_by_cut}
use Rattle.stages.specs.Swaps.{refine_fine_pair_swaps}
use Rattle.stages.specs.declared.swaps.Swapping.{Swapping}
use Rattle.multilevel.specs.Causes.{Call, early_cause}
use Rattle.multilevel.specs.Division.{Trace, refused, stopped, coarsenings, take_over, swapping_of, no_swapping, refine, grow, solve, division}
use Rattle.multilevel.specs.Demand3.{site_rows, balance_of, passes_of, kept_steps, Early}
use Rattle.links.proofs.ListLaws.{split}
use Rattle.links.proofs.RowLaws.{length-rows}
use Rattle.stages.proofs.StepLaws.{length-steps}
use Rattle.stages.proofs.GrowthLaws.{length-grown}
use Rattle.stages.proofs.GroupingLaws.{coarse-sound, coarse-weighed, coarse-sized, coarse-load}
use Rattle.multilevel.proofs.RoomLaws.{at_map}
use Rattle.multilevel.proofs.DivisionLaws.{tested, early-number}
use Rattle.multilevel.proofs.Demand3Laws.{refused-by}
use Rattle.multilevel.proofs.PairedLaws.{Weighty, coarse-weighty, Heavy, coarse-heavy}
use Rattle.multilevel.proofs.QuietLaws.{moves-none, heavy-stays, taken-stays}
use Rattle.multilevel.proofs.PeopledLaws.{Peopled, check-peopled, growth-peopled, moves-peopled}

-- the floor is 1 at least, or the cap 2 at most: a floor of 0 says that there are fewer than two vertices to a rank
floor-or-cap
    : (total k t : ℕ) → 1 ≤ k → k ≤ 256 → t ≤ 500 → (1 ≤ (balance total k t).floor) ⊎ ((balance total k t).cap ≤ 2)
unfolding balance load_cap minimum_load share
floor-or-cap total k t h few j =
    let a : ltb 500 t ≡ false = le-ltb 500 t j in
    let b : eqb k 0 ≡ false = ne_eqb k 0 (λ e. omega arith) in
    let low = saturating (total * (1000 - t)) in
    let high = saturating (total * (1000 + t)) in
    rw (a, b) (split (ltb (low / (1000 * k)) 1)
    (λ q.
    let less : low < 1 * (1000 * k) = (div-lt_iff_lt-mul (omega arith)).0 (ltb-true (low / (1000 * k)) 1 q) in
    let least = mul-le-mul_left {m = 500} {n = 1000 - t} total (omega arith) in
    let most = mul-le-mul_left {m = 1000 + t} {n = 1500} total (omega arith) in
    let cap : high / (1000 * k) < 3 = (div-lt_iff_lt-mul (omega arith)).1 (omega arith) in
    inr (omega arith))
    (λ q. inl (ltb-false (low / (1000 * k)) 1 q)))

module _ (b : Balance) (passes : ℕ) (few-ranks : b.ranks < unassigned) (narrow : (1 ≤ b.floor) ⊎ (b.cap ≤ 2)) where
  -- a division on its way that was not refused by 9, and whose ranks all own something while it is not refused
  record Occupied (rows : List (List ℕ)) (ws : List ℕ) (t : Trace) : Type 0 where
    not-9 : t.refusal ≢ 9
    sized : t.refusal ≡ 0 → length t.owners ≡ length rows
    peopled : t.refusal ≡ 0 → Peopled b.ranks ws t.owners

  -- a level that needs no coarser one: the floor is 1 at least, or a step made it
  abbrev Settled : List (List ℕ) → List ℕ → Type 0
  Settled rows ws = (1 ≤ b.floor) ⊎ ((b.cap ≤ 2) × Heavy rows ws)

  -- ---- a level

  module _ (rows : List (List ℕ)) (ws : List ℕ) (weighed : length ws ≡ length rows) where
    abbrev moved_from : List ℕ → List ℕ
    moved_from o = foldl after o (refine_by_cut b rows ws passes o).steps

    -- its moves leave no rank empty
    moved-peopled
        : (o : List ℕ)
        → length o ≡ length rows
        → Peopled b.ranks ws o
        → (1 ≤ b.floor) ⊎ ((v : ℕ) → v < length rows → destination b rows ws o v ≡ none)
        → Peopled b.ranks ws (moved_from o)
    moved-peopled o n p =
        ⊎_elim (λ f. moves-peopled b rows ws weighed f passes o n p) (λ stay. rw (moves-none b rows ws passes o stay) p)

    -- so the check after them does not answer 9
    refine-9
        : (swapping : Swapping) (group : List ℕ) (t : Trace)
        → Peopled b.ranks ws (moved_from t.owners)
        → (refine b passes swapping rows ws group t).refusal ≢ 9
    unfolding refine
    refine-9 swapping group t p = check-peopled b.ranks ws (moved_from t.owners) p

    -- without passes for swaps it ends as its moves leave it
    unswapped : (group : List ℕ) (t : Trace) → (refine b passes no_swapping rows ws group t).owners ≡ moved_from t.owners
    unfolding refine refine_fine_pair_swaps repeat
    unswapped group t = go (eqb (refine b passes no_swapping rows ws group t).refusal 0)
      where
        go : (x : Bool) → foldl after (moved_from t.owners) (cond x [] []) ≡ moved_from t.owners
        go true = refl
        go false = refl

    refine-occupied
        : (group : List ℕ) (t : Trace)
        → length t.owners ≡ length rows
        → Peopled b.ranks ws (moved_from t.owners)
        → Occupied rows ws (refine b passes no_swapping rows ws group t)
    refine-occupied group t n p =
        record {
          not-9 = refine-9 no_swapping group t p;
          sized = λ z. ap length (unswapped group t) ∙ length-steps (refine_by_cut b rows ws passes t.owners).steps t.owners ∙ n;
          peopled = λ z. subst (Peopled b.ranks ws) (sym (unswapped group t)) p;
        }

    -- growth
    grow-occupied : Weighty ws → Occupied rows ws (grow b passes rows ws)
    unfolding grow
    grow-occupied some-weight = go (any (ltb b.cap) ws) (ltb (length rows) b.ranks) refl
      where
        g : Growth
        g = weighted_multisource b.cap rows ws (farthest_seeds rows b.ranks)

        run : Trace
        run = record { growth = g; levels = []; refusal = cond (any (eqb unassigned) (grown g g.turns)) 8 0; owners = grown g g.turns }

        not-9 : (x : Bool) → ◌≢◌ {A = ℕ} (cond x 8 0) 9
        not-9 true e = omega arith
        not-9 false e = omega arith

        go : (x y : Bool) → ltb (length rows) b.ranks ≡ y → Occupied rows ws (cond x (stopped 6) (cond y (stopped 7) run))
        go true y q = record { not-9 = λ e. omega arith; sized = λ z. absurd (omega arith); peopled = λ z. absurd (omega arith) }
        go false true q = record { not-9 = λ e. omega arith; sized = λ z. absurd (omega arith); peopled = λ z. absurd (omega arith) }
        go false false q = record {
          not-9 = not-9 (any (eqb unassigned) (grown g g.turns));
          sized = λ z. unfold weighted_multisource in length-grown g g.turns;
          peopled = λ z. growth-peopled b.cap rows ws b.ranks some-weight weighed (ltb-false (length rows) b.ranks q) few-ranks;
        }

    -- the coarsest level
    module _ (s : Sound rows) (some-weight : Weighty ws) (settled : Settled rows ws) where
      coarsest-peopled : (let t = grow b passes rows ws in t.refusal ≡ 0 → Peopled b.ranks ws (moved_from t.owners))
      coarsest-peopled z =
          let t = grow b passes rows ws in
          let k = grow-occupied some-weight in
          let n = k.sized z in
          moved-peopled t.owners n (k.peopled z)
          (⊎_elim inl (λ h. inr (heavy-stays b h.0 rows s ws weighed some-weight t.owners n h.1)) settled)

      coarsest-occupied : Occupied rows ws (solve b passes no_swapping rows ws [])
      unfolding solve
      coarsest-occupied =
          let t = grow b passes rows ws in
          let k = grow-occupied some-weight in
          split (eqb t.refusal 0)
          (λ q. let z = eqb-true t.refusal 0 q in rw q (refine-occupied [] t (k.sized z) (coarsest-peopled z)))
          (λ q. rw q k)

      coarsest-9 : (swapping : Swapping) → (solve b passes swapping rows ws []).refusal ≢ 9
      unfolding solve
      coarsest-9 swapping =
          let t = grow b passes rows ws in
          split (eqb t.refusal 0)
          (λ q. rw q (refine-9 swapping [] t (coarsest-peopled (eqb-true t.refusal 0 q))))
          (λ q. rw q (grow-occupied some-weight).not-9)

  -- a finer level, where the level of its groups left no rank empty
  module _
      (rows : List (List ℕ)) (s : Sound rows) (ws : List ℕ) (small : length rows < unassigned)
      (weighed : length ws ≡ length rows) (some-weight : Weighty ws) (cs : List Coarse)
      (below : (let c = coarsen_once rows ws in Occupied c.rows c.weights (solve b passes no_swapping c.rows c.weights cs))) where
    abbrev coarse : Coarse
    coarse = coarsen_once rows ws

    abbrev lower : Trace
    lower = solve b passes no_swapping coarse.rows coarse.weights cs

    -- the owners taken over
    abbrev taken : List ℕ
    taken = map (at lower.owners) coarse.group

    length_taken : length taken ≡ length rows
    length_taken = length-map coarse.group (at lower.owners) ∙ coarse-sized rows s ws small weighed

    taken-peopled : lower.refusal ≡ 0 → Peopled b.ranks ws (moved_from rows ws weighed taken)
    taken-peopled z =
        let n = coarse-sized rows s ws small weighed in
        let start : Peopled b.ranks ws taken =
        λ r h. omega (arith, coarse-load rows s ws small weighed lower.owners r (below.sized z), below.peopled z r h) in
        let owner : (v : ℕ) → v < length rows → at taken v ≡ at lower.owners (at coarse.group v) =
        λ v h. at_map (at lower.owners) coarse.group v (omega arith) in
        let stays : b.cap ≤ 2 → (v : ℕ) → v < length rows → destination b rows ws taken v ≡ none =
        λ k. taken-stays b k rows s ws weighed some-weight taken length_taken small
        (λ v u h j e. owner v h ∙ ap (at lower.owners) e ∙ sym (owner u j)) in
        moved-peopled rows ws weighed taken length_taken start (⊎_elim inl (λ k. inr (stays k)) narrow)

    finer-occupied : Occupied rows ws (solve b passes no_swapping rows ws (coarse ∷ cs))
    unfolding solve
    finer-occupied = split (eqb lower.refusal 0)
        (λ q.
        let z = eqb-true lower.refusal 0 q in
        rw q (refine-occupied rows ws weighed coarse.group (take_over coarse.group lower) length_taken (taken-peopled z)))
        (λ q. rw q (record {
          not-9 = below.not-9;
          sized = λ z. absurd (eqb-false lower.refusal 0 q z);
          peopled = λ z. absurd (eqb-false lower.refusal 0 q z);
        }))

    finest-9 : (swapping : Swapping) → (solve b passes swapping rows ws (coarse ∷ cs)).refusal ≢ 9
    unfolding solve
    finest-9 swapping = split (eqb lower.refusal 0)
        (λ q.
        let z = eqb-true lower.refusal 0 q in
        rw q (refine-9 rows ws weighed swapping coarse.group (take_over coarse.group lower) (taken-peopled z)))
        (λ q. rw q below.not-9)

  -- ---- all levels

  step-settled
      : (rows : List (List ℕ))
      → Sound rows
      → (ws : List ℕ)
      → length rows < unassigned
      → length ws ≡ length rows
      → Weighty ws
      → (let c = coarsen_once rows ws in Settled c.rows c.weights)
  step-settled rows s ws n w some-weight = ⊎_elim inl (λ k. inr (k, coarse-heavy rows s ws n w some-weight)) narrow

  -- the levels from a settled one on, by induction on the steps that may follow
  settled-occupied
      : (l stop : ℕ) (rows : List (List ℕ)) (ws : List ℕ)
      → Sound rows
      → length rows < unassigned
      → length ws ≡ length rows
      → Weighty ws
      → Settled rows ws
      → Occupied rows ws (solve b passes no_swapping rows ws (coarsenings l stop rows ws))
  unfolding coarsenings
  settled-occupied zero stop rows ws s n w some-weight settled = coarsest-occupied rows ws w s some-weight settled
  settled-occupied (suc l) stop rows ws s n w some-weight settled =
      let c = coarsen_once rows ws in
      let coarsest = coarsest-occupied rows ws w s some-weight settled in
      split (leb (length rows) stop)
      (λ p. rw p coarsest)
      (λ p. split (ltb (length c.rows) (length rows))
      (λ q.
      let less = ltb-true (length c.rows) (length rows) q in
      rw (p, q) (finer-occupied rows s ws n w some-weight (coarsenings l stop c.rows c.weights)
      (settled-occupied l stop c.rows c.weights (coarse-sound rows s ws n w) (omega arith) (coarse-weighed rows ws)
      (coarse-weighty rows ws w some-weight) (step-settled rows s ws n w some-weight))))
      (λ q. rw (p, q) coarsest))

  -- what 9 needs of the steps and of the floor
  abbrev Told-9 : List Coarse → Type 0
  Told-9 kept = (kept ≡ []) × (b.floor ≡ 0)

  solve-9
      : (l stop : ℕ) (swapping : Swapping) (rows : List (List ℕ)) (ws : List ℕ)
      → Sound rows
      → length rows < unassigned
      → length ws ≡ length rows
      → Weighty ws
      → (solve b passes swapping rows ws (coarsenings l stop rows ws)).refusal ≡ 9
      → Told-9 (coarsenings l stop rows ws)
  unfolding coarsenings
  solve-9 l stop swapping rows ws s n w some-weight = go l
    where
      unkept : (solve b passes swapping rows ws []).refusal ≡ 9 → Told-9 []
      unkept e = split (ltb 0 b.floor)
          (λ p. absurd (coarsest-9 rows ws w s some-weight (inl (ltb-true 0 b.floor p)) swapping e))
          (λ p. let z = ltb-false 0 b.floor p in (refl, omega arith))

      go : (l : ℕ) → (solve b passes swapping rows ws (coarsenings l stop rows ws)).refusal ≡ 9 → Told-9 (coarsenings l stop rows ws)
      go zero e = unkept e
      go (suc l) e =
          let c = coarsen_once rows ws in
          split (leb (length rows) stop)
          (λ p. rw p (unkept (rw p at e)))
          (λ p. split (ltb (length c.rows) (length rows))
          (λ q.
          let less = ltb-true (length c.rows) (length rows) q in
          let below =
          settled-occupied l stop c.rows c.weights (coarse-sound rows s ws n w) (omega arith) (coarse-weighed rows ws)
          (coarse-weighty rows ws w some-weight) (step-settled rows s ws n w some-weight) in
          absurd (finest-9 rows s ws n w some-weight (coarsenings l stop c.rows c.weights) below swapping (rw (p, q) at e)))
          (λ q. rw (p, q) (unkept (rw (p, q) at e))))

nine-needs : (c : Call) → (division c).outcome ≡ refused 9 → (kept_steps c ≡ []) × ((balance_of c).floor ≡ 0)
unfolding balance
nine-needs c e = ⊎_elim
    (λ z. let d : early_cause c ≢ 0 = λ y. omega arith in absurd (false≢true (subst Early z (early-number c d))))
    (λ z.
    let g = tested c z.0 in
    let rows = site_rows c in
    let n = length-rows c.offsets c.neighbors in
    let t = c.options.imbalance_per_mille in
    let narrow = floor-or-cap (sum c.workloads) c.ranks t g.some-ranks g.few-ranks g.tolerance in
    solve-9 (balance_of c) (passes_of c) (omega (arith, g.few-ranks)) narrow c.options.max_levels (stop_size c.options c.ranks)
    (swapping_of c.options) rows c.workloads g.lists.sound (omega (arith, g.few-vertices)) (g.workloads.sized ∙ sym n)
    g.workloads.some z.1)
    (refused-by c 9 e)

-- 9 comes only where no coarsening step was kept, since every workload is 1 at least
pub nine-needs-none : (c : Call) → (division c).outcome ≡ refused 9 → kept_steps c ≡ []
nine-needs-none c e = (nine-needs c e).0

-- and only where the floor is 0
pub nine-needs-no-floor : (c : Call) → (division c).outcome ≡ refused 9 → (balance_of c).floor ≡ 0
nine-needs-no-floor c e = (nine-needs c e).1
