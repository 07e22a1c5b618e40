-- What a vertex's turn does in the work slice: the best offer, the loads after a move, and the step that was made. Assumes nothing.
use Prim.Native.Nat.{ℕ, ◌+◌, ◌-◌, ◌≤◌, ◌<◌, ◌^◌, ◌*◌}
use mathlib.Core.Path.{◌≡◌, sym, ap, ◌∙◌}
use mathlib.Core.Bool.{Bool, true, false, cond}
use mathlib.Core.List.{List, [], ◌∷◌, ◌++◌, map, map-append}
use mathlib.Core.Option.{Option, none, some}
use Rattle.std.specs.Prelude as code
use Rattle.std.specs.Prelude.{Some, None}
use native.Mathlib.Numerals.{add-one}
use native.Mathlib.Omega.{arith}
use lib.ListN.{length, set, length-set}
use lib.Seq.{get_or-set_same, get_or-set_other, ext_get_or, take_all}
use lib.Dec.{leb, ltb, eqb}
use borrow.Author.Tests.{eqb-true, eqb-false, ltb-true, ltb-false, le-leb, leb-true}
use Rattle.links.specs.Lists.{at, All, any, range}
use Rattle.links.specs.Parts.{part, Kept}
use Rattle.links.specs.Graph.{row, links_to, load}
use Rattle.links.proofs.ListLaws.{split, iff-eq, all-to, all-range, foldl-snoc, foldl-in}
use Rattle.links.proofs.RangeLaws.{range_snoc}
use Rattle.links.proofs.PartLaws.{kept_set, kept_refl, kept-wide, part-set-in}
use Rattle.stages.specs.Level.{rows_at, weights_at, owners_at, Ready, balance_in}
use Rattle.stages.specs.Moves.{Step, after, may_leave, target, destination, move_pass}
use Rattle.stages.specs.MovesCode.{Clear, Roomed, Tallied, Weighed, Moving, Shifted, Stepped, tempts, tempting, rank_offer, better_offer, best_rank, offered}
use Rattle.stages.specs.declared.level.HierarchyLevel.{HierarchyLevel}
use Rattle.stages.specs.declared.level.Limits.{Limits}
use Rattle.stages.specs.declared.moves.Offer.{Offer}
use Rattle.stages.proofs.LoadSetLaws.{load-set, load-sum, load-holds}
use Rattle.stages.proofs.TallyLaws.{part-snoc, any-cons}
use Rattle.stages.proofs.TargetLaws.{offer_at, best_offer, target-by-row, target-by-ranks, target-rank, untempted}
use Rattle.stages.proofs.LevelLaws.{length-weights, length-owners, all-vertices, neighbor-below, rows-kept, weights-kept, owners-kept, ready-kept, ready_by, beneath}

-- the tallies stand behind the loads
pub tallies-roomed : {w : List ℕ} {l : HierarchyLevel} {scratch ranks : ℕ} → Weighed w l scratch ranks → Roomed w l (scratch + ranks) ranks
tallies-roomed {w} {l} {scratch} {ranks} q =
    record { ready = ready_by (scratch + ranks) q.ready (omega arith) (omega (arith, q.room)); room = omega (arith, q.room); ranked = q.ranked }

pub weighed-whole : {w : List ℕ} {l : HierarchyLevel} {scratch ranks : ℕ} → Weighed w l scratch ranks → Ready w l (length w)
weighed-whole {w} {l} {scratch} {ranks} q = ready_by (length w) q.ready (omega (arith, q.room)) (omega arith)

-- ---- whether there is any

-- a neighbor's owner tempts v
abbrev tempter : List ℕ → HierarchyLevel → Limits → ℕ → ℕ → Bool
tempter w l limits v u =
    tempts limits.cap (at (weights_at w l) v) (load (weights_at w l) (owners_at w l) (at (owners_at w l) u)) (at (owners_at w l) v) (at (owners_at w l) u)

-- and one of those from the i-th on
abbrev pub tempted_from : List ℕ → HierarchyLevel → Limits → ℕ → ℕ → Bool
tempted_from w l limits v i = any (tempter w l limits v) (part (row (rows_at w l) v) i (length (row (rows_at w l) v)))

abbrev pub tempted_at : List ℕ → HierarchyLevel → Limits → ℕ → Bool
tempted_at w l limits v = tempting (balance_in limits) (rows_at w l) (weights_at w l) (owners_at w l) v

-- all of a list
whole-part : (xs : List ℕ) → part xs 0 (length xs) ≡ xs
whole-part xs = let z : length xs - 0 ≡ length xs = omega arith in rw z (take_all (length xs) xs (omega arith))

-- a neighbor's owner is a rank
pub owner-ranked
    : {w : List ℕ} {l : HierarchyLevel} {scratch ranks : ℕ} (q : Weighed w l scratch ranks) (v : ℕ)
    → v < l.vertices
    → (us : List ℕ)
    → us ≡ row (rows_at w l) v
    → (i : ℕ)
    → i < length us
    → (at us i < l.vertices) × (at (owners_at w l) (at us i) < ranks)
owner-ranked q v h us e i k =
    let u = neighbor-below q.ready v h i (rw e at k) in rw e (u, q.ranked _ u)

module _ {w : List ℕ} {l : HierarchyLevel} {scratch : ℕ} (limits : Limits) (q : Weighed w l scratch limits.ranks) (v : ℕ) where
  pub tempted-start : tempted_from w l limits v 0 ≡ tempted_at w l limits v
  unfolding tempting
  tempted-start = ap (any (tempter w l limits v)) (whole-part (row (rows_at w l) v))

  -- a turn
  module _
      (home weight i r : ℕ) (a : home ≡ at (owners_at w l) v) (b : weight ≡ at (weights_at w l) v) (to : i < length (row (rows_at w l) v))
      (c : r ≡ at (owners_at w l) (at (row (rows_at w l) v) i)) (d : r < limits.ranks) (x : Bool)
      (e : x ≡ tempts limits.cap weight (at w (scratch + r)) home r) (t : tempted_from w l limits v i ≡ tempted_at w l limits v) where
    tempter-is : tempter w l limits v (at (row (rows_at w l) v) i) ≡ x
    tempter-is = rw (← c, ← a, ← b, ← q.loaded r d) (sym e)

    one : tempted_from w l limits v i ≡ cond x true (tempted_from w l limits v (i + 1))
    one =
        any-cons (tempter w l limits v) (row (rows_at w l) v) i (length (row (rows_at w l) v)) to (omega arith)
        ∙ ap (λ (y : Bool). cond y true (tempted_from w l limits v (i + 1))) tempter-is

    pub tempted-here : x ≡ true → true ≡ tempted_at w l limits v
    tempted-here y = sym (one ∙ rw y) ∙ t

    pub tempted-next : x ≡ false → tempted_from w l limits v (i + 1) ≡ tempted_at w l limits v
    tempted-next y = sym (one ∙ rw y) ∙ t

-- ---- the best offer

-- the best offer of the owners of v's first i neighbors
abbrev pub best_to : List ℕ → HierarchyLevel → Limits → ℕ → ℕ → code.Option Offer
best_to w l limits v i =
    best_offer (balance_in limits) (rows_at w l) (weights_at w l) (owners_at w l) v (map (at (owners_at w l)) (part (row (rows_at w l) v) 0 i))

-- one rank more
pub rank-turn
    : (w : List ℕ) (scratch : ℕ) (limits : Limits) (weight home r : ℕ) (best o best' : code.Option Offer)
    → best ≡ best_rank w scratch limits weight home r
    → o ≡ rank_offer w scratch limits weight home r
    → best' ≡ better_offer best o
    → best' ≡ best_rank w scratch limits weight home (r + 1)
rank-turn w scratch limits weight home r best o best' f g k =
    let step : code.Option Offer → ℕ → code.Option Offer = λ x s. better_offer x (rank_offer w scratch limits weight home s) in
    let s : range 0 (r + 1) ≡ range 0 r ++ (r ∷ []) = ap (range 0) (add-one r) ∙ range_snoc 0 r r (omega arith) in
    k ∙ rw (f, g) (sym (foldl-snoc step None (range 0 r) r s))

module _ {w : List ℕ} {l : HierarchyLevel} {scratch : ℕ} (limits : Limits) (q : Weighed w l scratch limits.ranks) (v : ℕ) (h : v < l.vertices) where
  abbrev rows : List (List ℕ)
  rows = rows_at w l

  abbrev ws : List ℕ
  ws = weights_at w l

  abbrev os : List ℕ
  os = owners_at w l

  abbrev tallies : ℕ
  tallies = scratch + limits.ranks

  module _ (t : Tallied w l tallies limits.ranks v) where
    offer-is
        : (mine weight home r : ℕ)
        → mine ≡ at os v
        → weight ≡ at ws v
        → home ≡ at w (tallies + mine)
        → r < limits.ranks
        → rank_offer w scratch limits weight home r ≡ offer_at (balance_in limits) rows ws os v r
    offer-is mine weight home r a b c d =
        let e : home ≡ links_to rows os v (at os v) = c ∙ ap (λ (x : ℕ). at w (tallies + x)) a ∙ t (at os v) (q.ranked v h) in
        rw (b, e, q.loaded r d, t r d)

    -- a turn
    pub best-turn
        : (mine weight home i r : ℕ) (best o best' : code.Option Offer)
        → mine ≡ at os v
        → weight ≡ at ws v
        → home ≡ at w (tallies + mine)
        → i < length (row rows v)
        → r ≡ at os (at (row rows v) i)
        → r < limits.ranks
        → best ≡ best_to w l limits v i
        → o ≡ rank_offer w scratch limits weight home r
        → best' ≡ better_offer best o
        → best' ≡ best_to w l limits v (i + 1)
    best-turn mine weight home i r best o best' a b c to d e f g k =
        let step : code.Option Offer → ℕ → code.Option Offer = λ x r. better_offer x (offer_at (balance_in limits) rows ws os v r) in
        let us = part (row rows v) 0 i in
        let s : part (row rows v) 0 (i + 1) ≡ us ++ (at (row rows v) i ∷ []) = part-snoc (row rows v) 0 i (omega arith) to in
        let m : map (at os) (part (row rows v) 0 (i + 1)) ≡ map (at os) us ++ (r ∷ []) =
        ap (map (at os)) s ∙ map-append (at os) us (at (row rows v) i ∷ []) ∙ ap (λ (x : ℕ). map (at os) us ++ (x ∷ [])) (sym d) in
        k ∙ rw (f, g ∙ offer-is mine weight home r a b c e)
        (sym (foldl-snoc step None (map (at os) us) r m))

    -- all ranks met
    pub ranks-end
        : (mine weight home : ℕ)
        → mine ≡ at os v
        → weight ≡ at ws v
        → home ≡ at w (tallies + mine)
        → offered (best_rank w scratch limits weight home limits.ranks) ≡ target (balance_in limits) rows ws os v
    ranks-end mine weight home a b c =
        ap offered
        (foldl-in (λ r. r < limits.ranks)
        (λ x r. better_offer x (rank_offer w scratch limits weight home r))
        (λ x r. better_offer x (offer_at (balance_in limits) rows ws os v r))
        (λ x r d. ap (better_offer x) (offer-is mine weight home r a b c d))
        (range 0 limits.ranks) None
        (all-range (λ r. r < limits.ranks) 0 limits.ranks (λ r m n. omega arith)))
        ∙ target-by-ranks (balance_in limits) rows ws os v

  row-ranked : All (λ u. at os u < limits.ranks) (row rows v)
  row-ranked =
      let n = all-vertices q.ready in
      all-to (λ u. u < length rows) (λ u. at os u < limits.ranks) (λ u k. q.ranked u (omega (arith, n))) (row rows v)
      (q.ready.lists.sound.below v (omega (arith, n)))

  pub best-end : offered (best_to w l limits v (length (row rows v))) ≡ target (balance_in limits) rows ws os v
  best-end = rw (whole-part (row rows v)) (target-by-row (balance_in limits) rows ws os v row-ranked)

-- ---- whether it may leave

pub leaves : (floor weight load : ℕ) → weight ≤ load → leb floor (load - weight) ≡ leb (floor + weight) load
leaves floor weight load h =
    iff-eq (leb floor (load - weight)) (leb (floor + weight) load)
    (λ p. let k = leb-true floor (load - weight) p in le-leb (floor + weight) load (omega arith))
    (λ p. let k = leb-true (floor + weight) load p in le-leb floor (load - weight) (omega arith))

module _ {w : List ℕ} {l : HierarchyLevel} {scratch ranks : ℕ} (q : Weighed w l scratch ranks) (v : ℕ) (h : v < l.vertices) where
  -- v's weight is part of its rank's load
  pub load-covers : (home weight : ℕ) → home ≡ at (owners_at w l) v → weight ≡ at (weights_at w l) v → weight ≤ at w (scratch + home)
  load-covers home weight a b =
      let e : at w (scratch + home) ≡ load (weights_at w l) (owners_at w l) (at (owners_at w l) v) = ap (λ (x : ℕ). at w (scratch + x)) a
      ∙ q.loaded (at (owners_at w l) v) (q.ranked v h) in
      omega (arith, load-holds (weights_at w l) (owners_at w l) v (omega (arith, length-owners q.ready)))

  pub may-leave
      : (limits : Limits) (home weight : ℕ)
      → home ≡ at (owners_at w l) v
      → weight ≡ at (weights_at w l) v
      → leb (limits.floor + weight) (at w (scratch + home)) ≡ may_leave (balance_in limits) (rows_at w l) (weights_at w l) (owners_at w l) v
  unfolding may_leave
  may-leave limits home weight a b = rw (a, b, q.loaded (at (owners_at w l) v) (q.ranked v h))

  -- ---- v goes over to a rank: three stores

  module _ (rank : ℕ) (k : rank < ranks) (home weight : ℕ) (a : home ≡ at (owners_at w l) v) (b : weight ≡ at (weights_at w l) v) where
    abbrev less : List ℕ
    less = set w (scratch + home) (at w (scratch + home) - weight)

    abbrev more : List ℕ
    more = set less (scratch + rank) (at less (scratch + rank) + weight)

    pub home-in : home < ranks
    home-in = rw a (q.ranked v h)

    -- the loads, by rank
    in-less : (r : ℕ) → r < ranks → at less (scratch + r) ≡ cond (eqb home r) (at w (scratch + r) - weight) (at w (scratch + r))
    in-less r m = split (eqb home r)
        (λ p. let e : home ≡ r = eqb-true home r p in
        rw (p, ← e) (get_or-set_same w (scratch + home) (at w (scratch + home) - weight) 0 (omega (arith, home-in, q.room))))
        (λ p. let n = eqb-false home r p in rw p (get_or-set_other w (scratch + home) (scratch + r) (at w (scratch + home) - weight)
        0 (λ x. n (omega arith))))

    in-more : (r : ℕ) → r < ranks → at more (scratch + r) ≡ cond (eqb rank r) (at less (scratch + r) + weight) (at less (scratch + r))
    in-more r m = split (eqb rank r)
        (λ p. let e : rank ≡ r = eqb-true rank r p in
        rw (p, ← e) (get_or-set_same less (scratch + rank) (at less (scratch + rank) + weight) 0 (simp length-set (omega (arith, q.room)))))
        (λ p. let n = eqb-false rank r p in rw p (get_or-set_other less (scratch + rank) (scratch + r) (at less (scratch + rank) + weight)
        0 (λ x. n (omega arith))))

    -- a load is at most the total
    load_low : (r : ℕ) → r < ranks → at w (scratch + r) < 2 ^ 31
    load_low r m = omega (arith, q.loaded r m, load-sum (weights_at w l) (owners_at w l) r, q.ready.light)

    pub more-fits : at less (scratch + rank) + weight < 2 ^ 32
    more-fits =
        let c = load-covers home weight a b in
        let d = load_low home home-in in
        let e = load_low rank k in
        split (eqb home rank)
        (λ p. let f = rw p at (in-less rank k) in omega arith)
        (λ p. let f = rw p at (in-less rank k) in omega arith)

    moved-load : (r : ℕ) → r < ranks → at more (scratch + r) ≡ load (weights_at w l) (set (owners_at w l) v rank) r
    moved-load r m =
        let s = load-set (weights_at w l) (owners_at w l) v rank r (omega (arith, length-owners q.ready)) (omega (arith, length-weights q.ready)) in
        let s' : load (weights_at w l) (set (owners_at w l) v rank) r + cond (eqb home r) weight 0 ≡ load (weights_at w l) (owners_at w l)
        r + cond (eqb rank r) weight 0 = rw (a, b) s in
        let o = q.loaded r m in
        let x = in-less r m in
        let y = in-more r m in
        split (eqb home r)
        (λ p.
        let c : weight ≤ at w (scratch + r) = rw (← eqb-true home r p) (load-covers home weight a b) in
        split (eqb rank r) (λ n. omega (arith, simp (p, n) at s', rw p at x, rw n at y))
        (λ n. omega (arith, simp (p, n) at s', rw p at x, rw n at y)))
        (λ p. split (eqb rank r) (λ n. omega (arith, simp (p, n) at s', rw p at x, rw n at y))
        (λ n. omega (arith, simp (p, n) at s', rw p at x, rw n at y)))

    low : l.owners + l.vertices ≤ scratch
    low = omega (arith, q.ready.laid)

    kept_more : Kept l.owners (scratch + ranks) more w
    kept_more =
        kept_set l.owners (scratch + ranks) less w (scratch + rank) (at less (scratch + rank) + weight)
        (kept_set l.owners (scratch + ranks) w w (scratch + home) (at w (scratch + home) - weight) (kept_refl l.owners (scratch + ranks) w)
        (omega (arith, low)) (omega (arith, home-in)))
        (omega (arith, low)) (omega arith)

    kept-loads : Kept scratch (scratch + ranks) more w
    kept-loads =
        kept_set scratch (scratch + ranks) less w (scratch + rank) (at less (scratch + rank) + weight)
        (kept_set scratch (scratch + ranks) w w (scratch + home) (at w (scratch + home) - weight) (kept_refl scratch (scratch + ranks) w)
        (omega arith) (omega (arith, home-in)))
        (omega arith) (omega arith)

    set-ranked : (u : ℕ) → u < l.vertices → at (set (owners_at w l) v rank) u < ranks
    set-ranked u m = split (eqb u v)
        (λ p. let e : u ≡ v = eqb-true u v p in rw (e, get_or-set_same (owners_at w l) v rank 0 (omega (arith, length-owners q.ready))) k)
        (λ p. rw (get_or-set_other (owners_at w l) v u rank 0 (eqb-false u v p)) (q.ranked u m))

    pub shifted : (w' : List ℕ) → w' ≡ set more (l.owners + v) rank → Shifted w w' l scratch ranks v rank
    shifted w' e =
        let n : length more ≡ length w = kept_more.same_length in
        let kept : Kept l.owners (scratch + ranks)
        w' w = rw e (kept_set l.owners (scratch + ranks) more w (l.owners + v) rank kept_more (omega arith) (omega (arith, low))) in
        let owners : owners_at w' l ≡ set (owners_at w l) v rank =
        ap (λ (x : List ℕ). owners_at x l) e
        ∙ part-set-in more l.owners (l.owners + l.vertices) v rank (omega arith) (omega (arith, q.ready.laid, q.ready.inside)) (omega arith)
        ∙ ap (λ (x : List ℕ). set x v rank) (owners-kept q.ready kept-loads (omega arith)) in
        let weights : weights_at w' l ≡ weights_at w l = weights-kept q.ready kept (beneath q.ready (omega arith)) in
        record {
          owners = owners;
          weighed = record {
            ready = ready-kept q.ready kept (beneath q.ready (omega arith));
            room = rw kept.same_length q.room;
            few = q.few;
            ranked = λ u m. rw owners (set-ranked u m);
            loaded = λ r m. rw (owners, weights) (ap (λ (x : List ℕ). at x (scratch + r)) e ∙ get_or-set_other more (l.owners + v) (scratch + r)
                rank 0 (λ x. omega (arith, low)) ∙ moved-load r m);
          };
          kept = kept;
        }

-- ---- the turn

-- no rank tempts v: no offer
pub no-offer
    : (limits : Limits) (rows : List (List ℕ)) (weights owners : List ℕ) (v : ℕ) (r : Bool)
    → r ≡ tempting (balance_in limits) rows weights owners v
    → r ≡ false
    → offered None ≡ target (balance_in limits) rows weights owners v
unfolding offered
no-offer limits rows weights owners v r e f = sym (untempted (balance_in limits) rows weights owners v (sym e ∙ f))

-- the tallies are as they were
pub cleared-again
    : (w w₁ w₂ : List ℕ) (a n : ℕ)
    → Clear w a n
    → Kept a (a + n) w₁ w
    → Clear w₂ a n
    → Kept a (a + n) w₂ w₁
    → w₂ ≡ w
cleared-again w w₁ w₂ a n z k z₂ k₂ = ext_get_or 0 w₂ w (k₂.same_length ∙ k.same_length) (λ i h. go i)
  where
    go : (i : ℕ) → at w₂ i ≡ at w i
    go i = split (ltb i a)
        (λ p. let m = ltb-true i a p in k₂.below i m ∙ k.below i m)
        (λ p. let m = ltb-false i a p in
        split (ltb i (a + n))
        (λ r. let o = ltb-true i (a + n) r in
        let e : a + (i - a) ≡ i = omega arith in
        rw e at (z₂ (i - a) (omega arith) ∙ sym (z (i - a) (omega arith))))
        (λ r. let o = ltb-false i (a + n) r in k₂.beyond i o ∙ k.beyond i o))

-- the level as it is when tallies are made
module _ {w w₁ : List ℕ} {l : HierarchyLevel} {scratch ranks : ℕ} (q : Weighed w l scratch ranks) (k : Kept (scratch + ranks) (scratch + ranks + ranks) w₁ w) where
  below : l.owners ≤ scratch + ranks
  below = omega (arith, q.ready.laid)

  same-owners : owners_at w₁ l ≡ owners_at w l
  same-owners = owners-kept q.ready k (omega arith)

  pub weighed-kept : Weighed w₁ l scratch ranks
  weighed-kept = record {
    ready = ready-kept q.ready k (beneath q.ready below);
    room = rw k.same_length q.room;
    few = q.few;
    ranked = λ v h. rw same-owners (q.ranked v h);
    loaded = λ r h. rw (same-owners, weights-kept q.ready k (beneath q.ready below)) (k.below (scratch + r) (omega arith) ∙ q.loaded r h);
  }

  pub target-kept
      : (limits : Limits) (v : ℕ) (o : Option ℕ)
      → o ≡ target (balance_in limits) (rows_at w₁ l) (weights_at w₁ l) (owners_at w₁ l) v
      → o ≡ target (balance_in limits) (rows_at w l) (weights_at w l) (owners_at w l) v
  target-kept limits v o e = e ∙ rw (rows-kept q.ready k (beneath q.ready below), weights-kept q.ready k (beneath q.ready below), same-owners)

module _ {w : List ℕ} {l : HierarchyLevel} {scratch : ℕ} (limits : Limits) (m : Moving w l scratch limits.ranks) (v : ℕ) where
  abbrev steps : List Step
  steps = move_pass (balance_in limits) (rows_at w l) (weights_at w l) (v ∷ []) (owners_at w l)

  abbrev goal : Option ℕ
  goal = target (balance_in limits) (rows_at w l) (weights_at w l) (owners_at w l) v

  abbrev leaving : Bool
  leaving = may_leave (balance_in limits) (rows_at w l) (weights_at w l) (owners_at w l) v

  stays : steps ≡ [] → Stepped w w l scratch limits.ranks steps 0
  stays e = record {
    owners = rw e;
    number = rw e;
    moving = m;
    kept = kept_refl l.owners (scratch + 2 * limits.ranks) w;
  }

  pub may-not : (r : Bool) → r ≡ leaving → r ≡ false → Stepped w w l scratch limits.ranks steps 0
  unfolding move_pass destination
  may-not r d f = let e : leaving ≡ false = sym d ∙ f in stays (rw e)

  pub nowhere : (r : Bool) → r ≡ leaving → r ≡ true → offered None ≡ goal → Stepped w w l scratch limits.ranks steps 0
  unfolding move_pass destination offered
  nowhere r d y f =
      let e : leaving ≡ true = sym d ∙ y in
      let t : goal ≡ none = sym f in
      stays (rw (e, t))

  offer-taken : (o : Offer) → offered (Some o) ≡ goal → goal ≡ some o.rank
  unfolding offered
  offer-taken o f = sym f

  pub goes_in : (o : Offer) → offered (Some o) ≡ goal → o.rank < limits.ranks
  goes_in o f = target-rank (balance_in limits) (rows_at w l) (weights_at w l) (owners_at w l) v o.rank (offer-taken o f)

  pub goes
      : (r : Bool)
      → r ≡ leaving
      → r ≡ true
      → (o : Offer)
      → offered (Some o) ≡ goal
      → (w' : List ℕ)
      → Shifted w w' l scratch limits.ranks v o.rank
      → Stepped w w' l scratch limits.ranks steps 1
  unfolding move_pass destination after
  goes r d y o f w' s =
      let e : leaving ≡ true = sym d ∙ y in
      let t = offer-taken o f in
      record {
        owners = rw (e, t) s.owners;
        number = rw (e, t);
        moving = record {
          weighed = s.weighed;
          clear = λ i h. s.kept.beyond (scratch + limits.ranks + i) (omega arith) ∙ m.clear i h;
        };
        kept = kept-wide l.owners (scratch + limits.ranks) l.owners (scratch + 2 * limits.ranks) w' w (omega arith) (omega arith) s.kept;
      }
