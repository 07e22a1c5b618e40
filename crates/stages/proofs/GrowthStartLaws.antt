-- The start of a growth in the work slice: nobody owns a group, then each rank its seed; and growth from there. Assumes nothing.
use mathlib.Core.Path.{◌≡◌, refl, sym, ap, ap₂, ◌∙◌, subst}
use mathlib.Core.Bool.{false≢true}
use mathlib.Core.List.{List, [], ◌∷◌, ◌++◌, map}
use Prim.Native.Nat.{ℕ, zero, suc, ◌+◌, ◌-◌, ◌≤◌, ◌<◌, ◌^◌}
use native.Mathlib.Omega.{arith}
use lib.Dec.{eqb, leb}
use lib.ListN.{length, get_or, set, drop, replicate, get_or-replicate, length-map, length-drop, drop_of_length-le}
use lib.Seq.{get_or-set_other, drop-cons, drop-nil, get_or-drop}
use borrow.Author.Tests.{eqb-true, eqb-false}
use Rattle.links.specs.Lists.{at, unassigned, filter, foldl, sum}
use Rattle.links.specs.Parts.{filled_part, Kept}
use Rattle.links.specs.Graph.{row, load}
use Rattle.links.proofs.ListLaws.{split, and_l, count-length}
use Rattle.links.proofs.PartLaws.{get_or-part, kept-part-before, filled-kept, filled_at, filled-part}
use Rattle.stages.specs.Coarsen.{by_degree}
use Rattle.stages.specs.Growth.{Growing, Growth, seeded, seed_owners, grown, weighted_multisource, unowned, rounds, after_turn, restart_count}
use Rattle.stages.specs.FrontierCode.{cells, front, opens, Memory, memory, rows_in, weights_in, memory_in, GrowthLaid, Outside, cells_of, front_of, Good, Stands, owning, begun, GrowthReady, Stored}
use Rattle.stages.specs.GrowthCode.{StandsIn, rounds_of, grown_answer, left_cause, GrownTo, seeds_in, Seeds, Sown, Blank, Cleared, Seated, growth_in, Multisource}
use Rattle.stages.specs.declared.growth.GrowthRoom.{GrowthRoom}
use Rattle.std.specs.Prelude.{Result}
use Rattle.links.specs.declared.refusal.Refusal.{Refusal}
use Rattle.stages.proofs.LoadLaws.{load-none}
use Rattle.stages.proofs.FrontierLaws.{filter-sub}
use Rattle.stages.proofs.GrowthMemoryLaws.{outside_refl, outside_trans, between-same, laid-after, lengths}
use Rattle.stages.proofs.GrowthStateLaws.{Step, good-step, front-there, begin-step, begin-front}
use Rattle.stages.proofs.GrowthTurnLaws.{open_to}
use Rattle.stages.proofs.GrowthSliceLaws.{rows_all, rows_same, weights-same, order_same, lists-same, ready-after}

-- ---- nobody owns a group

sown-after : {l : GrowthRoom} {w w' : List ℕ} → Sown l w → Outside l w w' → Sown l w'
sown-after {l} S o =
    let L = S.laid in
    record {
      laid = laid-after o L;
      lists = lists-same L o S.lists;
      light = subst (λ (x : List ℕ). sum x < 2 ^ 31) (sym (weights-same {l = l} L o)) S.light;
      ordered = order_same L o ∙ S.ordered ∙ ap by_degree (sym (rows_same {l = l} L o));
      seeds = subst (Seeds l.level.vertices l.ranks) (sym (between-same o l.seeds (l.seeds + l.ranks) (omega arith) (omega arith))) S.seeds;
    }

module _ {l : GrowthRoom} {w w₁ w₂ w₃ : List ℕ} (S : Sown l w)
    (e₁ : w₁ ≡ filled_part w l.level.owners (l.level.owners + l.level.vertices) unassigned)
    (e₂ : w₂ ≡ filled_part w₁ l.loads (l.loads + l.ranks) 0)
    (e₃ : w₃ ≡ filled_part w₂ l.counts (l.counts + l.ranks) 0) where
  abbrev a₁ : ℕ
  a₁ = l.level.owners

  abbrev n₁ : ℕ
  n₁ = l.level.vertices

  fit₁ : l.level.owners + l.level.vertices ≤ length w
  fit₁ = let L = S.laid in omega arith

  k₁ : Kept l.level.owners (l.level.owners + l.level.vertices) w₁ w
  k₁ = filled-kept w w₁ a₁ n₁ unassigned fit₁ e₁

  fit₂ : l.loads + l.ranks ≤ length w₁
  fit₂ = let L = S.laid in omega (arith, k₁.same_length)

  k₂ : Kept l.loads (l.loads + l.ranks) w₂ w₁
  k₂ = filled-kept w₁ w₂ l.loads l.ranks 0 fit₂ e₂

  fit₃ : l.counts + l.ranks ≤ length w₂
  fit₃ = let L = S.laid in omega (arith, k₁.same_length, k₂.same_length)

  k₃ : Kept l.counts (l.counts + l.ranks) w₃ w₂
  k₃ = filled-kept w₂ w₃ l.counts l.ranks 0 fit₃ e₃

  out : Outside l w w₃
  out =
      let L = S.laid in
      record {
        same_length = k₃.same_length ∙ k₂.same_length ∙ k₁.same_length;
        below = λ i h. k₃.below i (omega arith) ∙ k₂.below i (omega arith) ∙ k₁.below i h;
        between = λ i h k. k₃.below i (omega arith) ∙ k₂.below i (omega arith) ∙ k₁.beyond i h;
        beyond = λ i h. k₃.beyond i h ∙ k₂.beyond i (omega arith) ∙ k₁.beyond i (omega arith);
      }

  owners-blank : (memory_in l w₃).owners ≡ replicate l.level.vertices unassigned
  unfolding memory_in memory
  owners-blank =
      let L = S.laid in
      kept-part-before l.counts (l.counts + l.ranks) w₃ w₂ k₃ a₁ (a₁ + n₁) (omega arith)
      ∙ kept-part-before l.loads (l.loads + l.ranks) w₂ w₁ k₂ a₁ (a₁ + n₁) (omega arith)
      ∙ filled-part w w₁ a₁ n₁ unassigned fit₁ e₁

  loads-blank : (d : ℕ) → d < l.ranks → at (memory_in l w₃).loads d ≡ 0
  unfolding memory_in memory
  loads-blank d q =
      let L = S.laid in
      get_or-part w₃ l.loads (l.loads + l.ranks) d (omega arith)
      ∙ k₃.below (l.loads + d) (omega arith)
      ∙ filled_at w₁ w₂ l.loads l.ranks 0 fit₂ e₂ d q

  counts-blank : (d : ℕ) → d < l.ranks → at (memory_in l w₃).counts d ≡ 0
  unfolding memory_in memory
  counts-blank d q = get_or-part w₃ l.counts (l.counts + l.ranks) d (omega arith) ∙ filled_at w₂ w₃ l.counts l.ranks 0 fit₃ e₃ d q

  pub clear-is : Cleared l w w₃
  clear-is = record {
    outside = out;
    blank = record { sown = sown-after S out; owners-are = owners-blank; loads-are = loads-blank; counts-are = counts-blank };
  }

-- ---- each rank owns its seed

module _ {l : GrowthRoom} {w : List ℕ} (b : Blank l w) where
  rows-n : length (rows_in l w) ≡ l.level.vertices
  rows-n = rows_all l w b.sown.laid

  few-ranks : l.ranks < unassigned
  few-ranks = let L = b.sown.laid in omega arith

  no_cells : (d : ℕ) → d < l.ranks → cells_of (memory_in l w) d ≡ []
  unfolding cells
  no_cells d q = rw (b.counts-are d q)

  blank-good : Good (rows_in l w) (weights_in l w) l.ranks (memory_in l w)
  blank-good =
      let n = lengths w b.sown.laid in
      record {
        owners-all = n.0 ∙ sym rows-n;
        links-all = n.1 ∙ sym rows-n;
        loads-all = n.2;
        heads-all = n.3;
        tails-all = n.4;
        places-all = n.5;
        counts_all = n.6;
        loads-are = λ r q.
            b.loads-are r q
            ∙ sym
            (ap (λ (o : List ℕ). load (weights_in l w) o r) b.owners-are ∙ load-none (weights_in l w) l.level.vertices r (λ e. omega (arith, few-ranks)));
        chains = λ r q. record { inside = rw (no_cells r q) tt; place_in = λ z. absurd (omega (arith, b.counts-are r q)) };
        distinct = λ r q. rw (no_cells r q) tt;
        owned = λ r x q h. absurd (false≢true (rw (no_cells r q) at h));
        lasts = λ r q z. absurd (omega (arith, b.counts-are r q));
        short = λ r q. omega (arith, b.counts-are r q, count-length (eqb unassigned) (memory_in l w).owners, n.0, rows-n);
      }

  blank-ready : GrowthReady l w
  blank-ready = record { laid = b.sown.laid; lists = b.sown.lists; light = b.sown.light; ordered = b.sown.ordered; good = blank-good }

  pub seated-start : Seated l w w l.ranks
  unfolding seed_owners
  seated-start =
      let S = b.sown.seeds in
      record {
        outside = outside_refl l w;
        ready = blank-ready;
        owners-are =
            b.owners-are
            ∙ sym (ap (λ (x : List ℕ). seed_owners l.level.vertices x l.ranks) (drop_of_length-le (seeds_in l w) {i = l.ranks} (omega (arith, S.all))));
        counts-are = b.counts-are;
        loads-are = b.loads-are;
        fronts = λ d x y. absurd (omega arith);
      }

-- a seed that is not among the later ones is unowned
seed-free : (n : ℕ) (ss : List ℕ) (r v : ℕ) → v < n → ((d : ℕ) → d < length ss → at ss d ≡ v → ⊥) → at (seed_owners n ss r) v ≡ unassigned
unfolding seed_owners
seed-free n [] r v h o = get_or-replicate n v unassigned 0 h
seed-free n (s ∷ ss) r v h o =
    get_or-set_other (seed_owners n ss (suc r)) s v r 0 (λ e. o 0 (omega arith) (sym e)) ∙ seed-free n ss (suc r) v h (λ d x y. o (suc d) (omega arith) y)

module _ {l : GrowthRoom} {w w' : List ℕ} (b : Blank l w) (r : ℕ) (q : r < l.ranks) (t : Seated l w w' (suc r)) where
  abbrev seeds : List ℕ
  seeds = seeds_in l w

  abbrev v : ℕ
  v = at (seeds_in l w) r

  -- the seeds stay where they are
  pub seed-at : at w' (l.seeds + r) ≡ at (seeds_in l w) r
  seed-at =
      let L = b.sown.laid in
      t.outside.between (l.seeds + r) (omega arith) (omega arith) ∙ sym (get_or-part w l.seeds (l.seeds + l.ranks) r (omega arith))

  pub seat-pre : (GrowthLaid l (length w')) × (v < l.level.vertices) × (at (memory_in l w').loads r ≡ 0)
  seat-pre = (t.ready.laid, b.sown.seeds.inside r q, t.loads-are r (omega arith))

  free-then : at (memory_in l w').owners v ≡ unassigned
  free-then =
      let S = b.sown.seeds in
      ap (λ (x : List ℕ). at x v) t.owners-are
      ∙ seed-free l.level.vertices (drop (suc r) seeds) (suc r) v (S.inside r q)
      (λ d x y. let z : suc r + d ≡ r = S.apart (suc r + d) r (omega (arith, length-drop (suc r) seeds, S.all)) q (sym (get_or-drop (suc r) seeds d 0) ∙ y) in omega arith)

  in_rows : v < length (rows_in l w')
  in_rows = omega (arith, rows_all l w' t.ready.laid, b.sown.seeds.inside r q)

  seat : Memory
  seat = begun (owning (memory_in l w') r v (at (weights_in l w') v)) r v

  step : Step (rows_in l w') (weights_in l w') l.ranks (memory_in l w') seat r
  unfolding seat
  step = begin-step t.ready.good q (few-ranks b) free-then in_rows (t.counts-are r (omega arith))

  owners-seat : seat.owners ≡ set (memory_in l w').owners v r
  unfolding seat begun owning memory
  owners-seat = refl

  loads-seat : (d : ℕ) → (d ≡ r → ⊥) → at seat.loads d ≡ at (memory_in l w').loads d
  unfolding seat begun owning memory
  loads-seat d z = get_or-set_other (memory_in l w').loads r d (at (memory_in l w').loads r + at (weights_in l w') v) 0 z

  no_front : front_of (rows_in l w') (memory_in l w') r ≡ []
  unfolding front_of front cells
  no_front = rw (t.counts-are r (omega arith)) (drop-nil (at (memory_in l w').places r))

  rs : rows_in l w' ≡ rows_in l w
  rs = rows_same b.sown.laid t.outside

  module _ {w₂ : List ℕ} (s : Stored l w' w₂ (begun (owning (memory_in l w') r v (at (weights_in l w') v)) r v)) where
    after : memory_in l w₂ ≡ seat
    unfolding seat
    after = s.after

    front-r : front_of (rows_in l w) (memory_in l w₂) r ≡ row (rows_in l w) v
    unfolding seat
    front-r =
        subst (λ (R : List (List ℕ)). front_of R (memory_in l w₂) r ≡ row R v) rs
        (ap (λ (m : Memory). front_of (rows_in l w') m r) s.after
        ∙ begin-front t.ready.good q (few-ranks b) free-then in_rows (t.counts-are r (omega arith))
        ∙ ap (λ (x : List ℕ). x ++ row (rows_in l w') v) no_front)

    front-d : (d : ℕ) → d < l.ranks → (d ≡ r → ⊥) → front_of (rows_in l w) (memory_in l w₂) d ≡ front_of (rows_in l w) (memory_in l w') d
    front-d d x y =
        subst (λ (R : List (List ℕ)). front_of R (memory_in l w₂) d ≡ front_of R (memory_in l w') d) rs
        (ap (λ (m : Memory). front_of (rows_in l w') m d) after ∙ front-there t.ready.good step d x y)

    pub seated-step : Seated l w w₂ r
    unfolding seed_owners
    seated-step = record {
      outside = outside_trans t.outside s.outside;
      ready = ready-after t.ready s.outside (subst (Good (rows_in l w') (weights_in l w') l.ranks) (sym after) (good-step t.ready.good step));
      owners-are =
          ap (λ (m : Memory). m.owners) after
          ∙ owners-seat
          ∙ ap (λ (x : List ℕ). set x v r) t.owners-are
          ∙ sym (ap (λ (x : List ℕ). seed_owners l.level.vertices x r) (drop-cons seeds r 0 (omega (arith, b.sown.seeds.all))));
      counts-are = λ d x. ap (λ (m : Memory). at m.counts d) after ∙ step.counts-there d (λ e. omega arith) ∙ t.counts-are d (omega arith);
      loads-are = λ d x. ap (λ (m : Memory). at m.loads d) after ∙ loads-seat d (λ e. omega arith) ∙ t.loads-are d (omega arith);
      fronts = λ d x y. split (eqb d r)
          (λ p. subst (λ (j : ℕ). front_of (rows_in l w) (memory_in l w₂) j ≡ row (rows_in l w) (at seeds j)) (sym (eqb-true d r p)) front-r)
          (λ p. front-d d y (eqb-false d r p) ∙ t.fronts d (let z = eqb-false d r p in omega arith) y);
    }

-- a count down from i: the rank before it is seated
module _ {l : GrowthRoom} {w w' : List ℕ} (b : Blank l w) (i : ℕ) (some : 0 < i) (all : i ≤ l.ranks) (t : Seated l w w' i) where
  abbrev r : ℕ
  r = i - 1

  abbrev g : ℕ
  g = at w' (l.seeds + r)

  in-ranks : r < l.ranks
  in-ranks = omega arith

  seated : Seated l w w' (suc r)
  seated = let e : i ≡ suc r = omega arith in subst (Seated l w w') e t

  pub seat-next : (GrowthLaid l (length w')) × (r < l.ranks) × (g < l.level.vertices) × (at (memory_in l w').loads r ≡ 0)
  seat-next =
      let p = seat-pre b r in-ranks seated in
      (p.0, in-ranks, rw (seed-at b r in-ranks seated) p.1, p.2)

  pub seated-next : {w₂ : List ℕ} → Stored l w' w₂ (begun (owning (memory_in l w') r g (at (weights_in l w') g)) r g) → Seated l w w₂ r
  seated-next {w₂} s =
      seated-step b r in-ranks seated
      (subst (λ (v : ℕ). Stored l w' w₂ (begun (owning (memory_in l w') r v (at (weights_in l w') v)) r v)) (seed-at b r in-ranks seated) s)

get_or-mapped : (f : ℕ → List ℕ) (xs : List ℕ) (d : ℕ) → d < length xs → get_or (map f xs) d [] ≡ f (at xs d)
get_or-mapped f [] d h = absurd (omega arith)
get_or-mapped f (x ∷ xs) zero h = refl
get_or-mapped f (x ∷ xs) (suc d) h = get_or-mapped f xs d (omega arith)

-- the memory stands for the definition's start
seated-stands : {l : GrowthRoom} {w w' : List ℕ} (cap : ℕ) → Blank l w → Seated l w w' 0 → StandsIn cap l w w' (seeded (rows_in l w) (seeds_in l w))
unfolding seeded opens
seated-stands {l} {w} {w'} cap b t =
    let W = weights_in l w in
    let seeds = seeds_in l w in
    let n = length (rows_in l w) in
    let os = seed_owners n seeds 0 in
    let oe : (memory_in l w').owners ≡ os = t.owners-are ∙ ap (λ (n : ℕ). seed_owners n seeds 0) (sym (rows-n b)) in
    let new : ℕ → List ℕ = λ g. filter (unowned os) (row (rows_in l w) g) in
    record {
      owners-are = oe;
      fronts = λ d q.
          subst (λ (o : List ℕ). filter (open_to cap W o d) (front_of (rows_in l w) (memory_in l w') d) ≡ filter (open_to cap W o d) (get_or (map new seeds) d []))
          (sym oe)
          (ap (filter (open_to cap W os d)) (t.fronts d (omega arith) q)
          ∙ sym (ap (filter (open_to cap W os d)) (get_or-mapped new seeds d (omega (arith, b.sown.seeds.all)))
          ∙ filter-sub (open_to cap W os d) (unowned os) (λ x e. and_l (unowned os x) (leb (load W os d + at W x) cap) e) (row (rows_in l w) (at seeds d))));
      all-ranks = length-map seeds new ∙ b.sown.seeds.all;
    }

-- ---- growth from there

module _ {l : GrowthRoom} {cap : ℕ} {w w₁ w₂ : List ℕ} {r : Result ℕ Refusal} (b : Blank l w) (t : Seated l w w₁ 0) (g : GrownTo l cap w₁ w₂ r) where
  abbrev Facts : List (List ℕ) → List ℕ → Type 0
  Facts R W =
      (z : Growing)
      → Stands cap R W l.ranks (memory_in l w₁) z
      → ((memory_in l w₂).owners ≡ foldl after_turn z.owners (rounds cap R W l.level.vertices l.ranks z))
      × (r ≡ grown_answer (left_cause (memory_in l w₂).owners) (restart_count (rounds cap R W l.level.vertices l.ranks z)))

  all-facts : Facts (rows_in l w) (weights_in l w)
  all-facts =
      subst (λ (R : List (List ℕ)). Facts R (weights_in l w)) (rows_same b.sown.laid t.outside)
      (subst (λ (W : List ℕ). Facts (rows_in l w₁) W) (weights-same b.sown.laid t.outside) (λ z st. (g.owners-are z st, g.answer z st)))

  start : Growing
  start = seeded (rows_in l w) (seeds_in l w)

  facts
      : ((memory_in l w₂).owners ≡ foldl after_turn start.owners (rounds_of cap l w l.level.vertices start))
      × (r ≡ grown_answer (left_cause (memory_in l w₂).owners) (restart_count (rounds_of cap l w l.level.vertices start)))
  unfolding start
  facts = all-facts (seeded (rows_in l w) (seeds_in l w)) (seated-stands cap b t)

  turns-are : rounds_of cap l w l.level.vertices start ≡ (growth_in cap l w).turns
  unfolding weighted_multisource start
  turns-are = ap₂ (λ (n k : ℕ). rounds cap (rows_in l w) (weights_in l w) n k (seeded (rows_in l w) (seeds_in l w))) (sym (rows-n b)) (sym b.sown.seeds.all)

  owned : (memory_in l w₂).owners ≡ grown (growth_in cap l w) (growth_in cap l w).turns
  unfolding grown weighted_multisource seeded start
  owned = facts.0 ∙ ap (foldl after_turn (seed_owners (length (rows_in l w)) (seeds_in l w) 0)) turns-are

  pub multisource-is : Multisource l cap w w₂ r
  multisource-is = record {
    outside = outside_trans t.outside g.outside;
    owners-are = owned;
    answer = facts.1 ∙ ap₂ (λ (o : List ℕ) (e : ℕ). grown_answer (left_cause o) e) owned (ap restart_count turns-are);
  }

-- the growth is the same one before the owners were cleared
pub multisource-after
    : {l : GrowthRoom} {cap : ℕ} {w w₁ w₂ : List ℕ} {r : Result ℕ Refusal}
    → Sown l w
    → Outside l w w₁
    → Multisource l cap w₁ w₂ r
    → Multisource l cap w w₂ r
multisource-after {l} {cap} {w} {w₁} {w₂} {r} S o M =
    let L = S.laid in
    let seeds-same : seeds_in l w₁ ≡ seeds_in l w = between-same o l.seeds (l.seeds + l.ranks) (omega arith) (omega arith) in
    let same : growth_in cap l w₁ ≡ growth_in cap l w =
    ap₂ (λ (R : List (List ℕ)) (W : List ℕ). weighted_multisource cap R W (seeds_in l w₁)) (rows_same L o) (weights-same L o)
    ∙ ap (weighted_multisource cap (rows_in l w) (weights_in l w)) seeds-same in
    record {
      outside = outside_trans o M.outside;
      owners-are = M.owners-are ∙ ap (λ (g : Growth). grown g g.turns) same;
      answer = M.answer ∙ ap (λ (g : Growth). grown_answer (left_cause (grown g g.turns)) (restart_count g.turns)) same;
    }
