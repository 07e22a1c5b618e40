-- A rank's turn in the work slice. Assumes nothing.
use mathlib.Core.Path.{◌≡◌, refl, sym, ap, ap₂, ◌∙◌, subst}
use mathlib.Core.Bool.{Bool, true, false, true≢false}
use mathlib.Core.List.{List, [], ◌∷◌, ◌++◌}
use mathlib.Core.Option.{none, some}
use Rattle.std.specs.Prelude.{Option, Some, None, MatchOption}
use Prim.Native.Nat.{ℕ, zero, suc, ◌+◌, ◌-◌, ◌≤◌, ◌<◌, ◌^◌}
use native.Mathlib.Omega.{arith}
use lib.Dec.{eqb, ltb}
use lib.ListN.{length, set, length-set, replicate, length-replicate}
use lib.Seq.{get_or-set_same, get_or-set_other}
use borrow.Author.Tests.{eqb-true, eqb-false, ltb-true, ltb-false}
use Rattle.links.specs.Lists.{at, unassigned, filter, best, range, sum, All}
use Rattle.links.specs.Graph.{row, degree, load, rows_of, vertex_count, SoundLists}
use Rattle.links.proofs.ListLaws.{split, best-kept, all-to}
use Rattle.links.proofs.PartLaws.{length_part, get_or-part}
use Rattle.links.proofs.RowLaws.{length-rows}
use Rattle.stages.specs.Level.{offsets_at, neighbors_at, owners_at}
use Rattle.stages.specs.Coarsen.{by_degree}
use Rattle.stages.specs.Growth.{restart}
use Rattle.stages.specs.FrontierCode.{opens, front, higher, Chain, Sought, FirstOpen, candidate_at, Lent, Memory, memory, rows_in, weights_in, order_in, links_in, memory_in, vacant_in, GrowthLaid, Outside, front_of, Good, Stands, parked, owning, begun, appended, GrowthReady, Stored}
use Rattle.stages.specs.GrowthCode.{open_in, open_now, SoughtIn, restart_in, Behind, Advanced, Claimed, TurnMade}
use Rattle.stages.specs.declared.growth.GrowthRoom.{GrowthRoom}
use Rattle.stages.specs.declared.growth.TurnKind.TheVariants.{Pass, Claim, Restart}
use Rattle.stages.proofs.GroupingLaws.{by_degree-below}
use Rattle.stages.proofs.GrowthLaws.{unowned-in, vacant-set}
use Rattle.stages.proofs.LoadSetLaws.{load-joins}
use Rattle.stages.proofs.FrontierLaws.{first, open-facts, opens_before}
use Rattle.stages.proofs.OrderLaws.{order-first, first_found, first-none}
use Rattle.stages.proofs.ChainLaws.{at-end, at_open, head_in}
use Rattle.stages.proofs.GrowthMemoryLaws.{below-same, between-same, outside_trans, laid-after, read-load, read_head, read-place, read_count}
use Rattle.stages.proofs.GrowthStateLaws.{Step, good-step, front-there, park-step, park-front, begin-step, begin-front, append-step, append-front, tail-facts}
use Rattle.stages.proofs.GrowthTurnLaws.{open_to, restart-is, stands-parked, pass-made, claim-made, restart-made}

-- ---- the parts that are lent

module _ (l : GrowthRoom) (w : List ℕ) (h : GrowthLaid l (length w)) where
  pub n-is : vertex_count (offsets_at w l.level) ≡ l.level.vertices
  n-is = omega (arith, length_part w l.level.offsets (l.level.offsets + (l.level.vertices + 1)) (omega arith) (omega arith))

  weights-length : length (weights_in l w) ≡ l.level.vertices
  weights-length = length_part w l.level.weights (l.level.weights + l.level.vertices) (omega arith) (omega arith) ∙ omega arith

  owners-length : length (owners_at w l.level) ≡ l.level.vertices
  owners-length = length_part w l.level.owners (l.level.owners + l.level.vertices) (omega arith) (omega arith) ∙ omega arith

  pub links-length : length (links_in l w) ≡ vertex_count (offsets_at w l.level)
  links-length = length_part w l.links (l.links + l.level.vertices) (omega arith) (omega arith) ∙ omega (arith, n-is)

  pub rows_all : length (rows_in l w) ≡ l.level.vertices
  unfolding rows_in
  rows_all = length-rows (offsets_at w l.level) _ ∙ n-is

  pub lent
      : SoundLists (offsets_at w l.level) (neighbors_at w l.level)
      → Lent (offsets_at w l.level) (neighbors_at w l.level) (weights_in l w) (owners_at w l.level)
  lent s = record { lists = s; few = omega (arith, n-is); weights-all = weights-length ∙ sym n-is; owners-all = owners-length ∙ sym n-is }

module _ {l : GrowthRoom} {w : List ℕ} (d : GrowthReady l w) (r : ℕ) (q : r < l.ranks) where
  abbrev lists-rows : List (List ℕ)
  lists-rows = rows_of (offsets_at w l.level) (neighbors_at w l.level)

  pub chain-pre
      : Chain lists-rows (links_in l w) (vertex_count (offsets_at w l.level)) (at w (l.heads + r)) (at w (l.places + r)) (at w (l.counts + r))
  unfolding memory_in memory rows_in
  chain-pre =
      rw (n-is l w d.laid, read_head w d.laid r q, read-place w d.laid r q, read_count w d.laid r q)
      (rw (rows_all l w d.laid) at (d.good.chains r q))

  pub seek-post
      : (cap h p n : ℕ)
      → Sought lists-rows (links_in l w) (opens cap (weights_in l w) (owners_at w l.level) (at w (l.loads + r))) (vertex_count (offsets_at w l.level))
      (at w (l.heads + r)) (at w (l.places + r)) (at w (l.counts + r)) h p n
      → SoughtIn cap l w r h p n
  unfolding memory_in memory rows_in
  seek-post cap h p n s =
      rw (n-is l w d.laid, read-load w d.laid r q, read_head w d.laid r q, read-place w d.laid r q, read_count w d.laid r q) at s

  pub open-post
      : (cap from p : ℕ)
      → FirstOpen (opens cap (weights_in l w) (owners_at w l.level) (at w (l.loads + r))) (order_in l w) from p
      → FirstOpen (open_now cap l w r) (order_in l w) from p
  unfolding memory_in memory
  open-post cap from p f = rw (read-load w d.laid r q) at f

-- the candidate at a place, on the parts that are lent for it
module _ {l : GrowthRoom} {w : List ℕ} (d : GrowthReady l w) (h p n : ℕ) where
  pub found-lent
      : (0 < n → (h < l.level.vertices) × (p < degree (rows_in l w) h))
      → SoundLists (offsets_at w l.level) (neighbors_at w l.level)
      × (0 < n → (h < vertex_count (offsets_at w l.level)) × (p < degree (rows_of (offsets_at w l.level) (neighbors_at w l.level)) h))
  unfolding rows_in
  found-lent f = (d.lists, λ z. (rw (n-is l w d.laid) (f z).0, (f z).1))

-- ---- the level's lists stay

module _ {l : GrowthRoom} {w w' : List ℕ} (h : GrowthLaid l (length w)) (o : Outside l w w') where
  offsets-same : offsets_at w' l.level ≡ offsets_at w l.level
  offsets-same = below-same o l.level.offsets (l.level.offsets + (l.level.vertices + 1)) (omega arith)

  neighbors-same : neighbors_at w' l.level ≡ neighbors_at w l.level
  neighbors-same = below-same o l.level.neighbors (l.level.neighbors + l.level.entries) (omega arith)

  pub rows_same : rows_in l w' ≡ rows_in l w
  unfolding rows_in
  rows_same = ap₂ rows_of offsets-same neighbors-same

  pub weights-same : weights_in l w' ≡ weights_in l w
  weights-same = below-same o l.level.weights (l.level.weights + l.level.vertices) (omega arith)

  pub order_same : order_in l w' ≡ order_in l w
  order_same = between-same o l.order (l.order + l.level.vertices) (omega arith) (omega arith)

  pub lists-same : SoundLists (offsets_at w l.level) (neighbors_at w l.level) → SoundLists (offsets_at w' l.level) (neighbors_at w' l.level)
  lists-same s =
      subst (λ (a : List ℕ). SoundLists a (neighbors_at w' l.level)) (sym offsets-same)
      (subst (λ (b : List ℕ). SoundLists (offsets_at w l.level) b) (sym neighbors-same) s)

  good-same : Good (rows_in l w) (weights_in l w) l.ranks (memory_in l w') → Good (rows_in l w') (weights_in l w') l.ranks (memory_in l w')
  good-same g =
      subst (λ (a : List (List ℕ)). Good a (weights_in l w') l.ranks (memory_in l w')) (sym rows_same)
      (subst (λ (b : List ℕ). Good (rows_in l w) b l.ranks (memory_in l w')) (sym weights-same) g)

pub ready-after
    : {l : GrowthRoom} {w w' : List ℕ}
    → GrowthReady l w
    → Outside l w w'
    → Good (rows_in l w) (weights_in l w) l.ranks (memory_in l w')
    → GrowthReady l w'
ready-after {l} d o g = record {
  laid = laid-after o d.laid;
  lists = lists-same d.laid o d.lists;
  light = subst (λ (x : List ℕ). sum x < 2 ^ 31) (sym (weights-same {l = l} d.laid o)) d.light;
  ordered = order_same d.laid o ∙ d.ordered ∙ ap by_degree (sym (rows_same {l = l} d.laid o));
  good = good-same d.laid o g;
}

-- a change of rank r's chain leaves the memory good
ready-step
    : {l : GrowthRoom} {w w' : List ℕ} {m : Memory} {r : ℕ}
    → GrowthReady l w
    → Stored l w w' m
    → Step (rows_in l w) (weights_in l w) l.ranks (memory_in l w) m r
    → GrowthReady l w'
ready-step {l} {w} d s t = ready-after d s.outside (subst (Good (rows_in l w) (weights_in l w) l.ranks) (sym s.after) (good-step d.good t))

-- ---- the frontier is brought to its first open candidate

module _ {l : GrowthRoom} {w : List ℕ} (cap r : ℕ) {h p n : ℕ} (d : GrowthReady l w) (q : r < l.ranks)
    (t : SoughtIn cap l w r h p n) where
  abbrev ok : ℕ → Bool
  ok = open_to cap (weights_in l w) (memory_in l w).owners r

  ok-is : opens cap (weights_in l w) (memory_in l w).owners (at (memory_in l w).loads r) ≡ ok
  ok-is = ap (opens cap (weights_in l w) (memory_in l w).owners) (d.good.loads-are r q)

  to : Sought (rows_in l w) (memory_in l w).links ok (length (rows_in l w)) (at (memory_in l w).heads r) (at (memory_in l w).places r) (at (memory_in l w).counts r) h p n
  to =
      subst
      (λ (b : ℕ). Sought (rows_in l w) (memory_in l w).links ok b (at (memory_in l w).heads r) (at (memory_in l w).places r) (at (memory_in l w).counts r) h p n)
      (sym (rows_all l w d.laid))
      (subst (λ (f : ℕ → Bool). Sought (rows_in l w) (memory_in l w).links f l.level.vertices (at (memory_in l w).heads r) (at (memory_in l w).places r) (at (memory_in l w).counts r) h p n) ok-is t)

  pub found-pre : 0 < n → (h < l.level.vertices) × (p < degree (rows_in l w) h)
  found-pre z = (
    rw (rows_all l w d.laid) at (head_in (memory_in l w).links (length (rows_in l w)) h n to.going.inside z),
    (at_open (rows_in l w) (memory_in l w).links ok h p n to.stopped (λ e. omega arith)).0,
  )

  step-here : Step (rows_in l w) (weights_in l w) l.ranks (memory_in l w) (parked (memory_in l w) r h p n) r
  step-here = park-step d.good q to.going

  front-now : front_of (rows_in l w) (parked (memory_in l w) r h p n) r ≡ front (rows_in l w) (memory_in l w).links h p n
  front-now = park-front d.good q to.going

  owners-now : (parked (memory_in l w) r h p n).owners ≡ (memory_in l w).owners
  unfolding parked memory
  owners-now = refl

  same-now : filter ok (front_of (rows_in l w) (parked (memory_in l w) r h p n) r) ≡ filter ok (front_of (rows_in l w) (memory_in l w) r)
  unfolding front_of
  same-now = ap (filter ok) front-now ∙ to.going.same

  abbrev Found : Option ℕ → Memory → Type 0
  Found g m =
      MatchOption g (filter (open_to cap (weights_in l w) m.owners r) (front_of (rows_in l w) m r) ≡ [])
      (λ x. (xs : List ℕ) × (filter (open_to cap (weights_in l w) m.owners r) (front_of (rows_in l w) m r) ≡ x ∷ xs) × (open_to cap (weights_in l w) m.owners r x ≡ true))

  found-now : Found (candidate_at (rows_in l w) h p n) (parked (memory_in l w) r h p n)
  unfolding candidate_at parked memory
  found-now = split (eqb n 0)
      (λ z. let n₀ : n ≡ 0 = eqb-true n 0 z in
      rw z (ap (filter ok) (front-now ∙ ap (front (rows_in l w) (memory_in l w).links h p) n₀) ∙ at-end (rows_in l w) (memory_in l w).links ok h p))
      (λ z. let a = at_open (rows_in l w) (memory_in l w).links ok h p n to.stopped (eqb-false n 0 z) in
      rw z (filter ok (front (rows_in l w) (memory_in l w).links h (p + 1) n), ap (filter ok) front-now ∙ a.2, a.1))

  pub advance-is : {w' : List ℕ} (g : Option ℕ) → g ≡ candidate_at (rows_in l w) h p n → Stored l w w' (parked (memory_in l w) r h p n) → Advanced l cap w w' r g
  advance-is g e s = record {
    outside = s.outside;
    ready = ready-step d s step-here;
    stands = λ z st.
        subst (λ (m : Memory). Stands cap (rows_in l w) (weights_in l w) l.ranks m z) (sym s.after)
        (stands-parked r q st (parked (memory_in l w) r h p n) owners-now same-now (front-there d.good step-here));
    owners-are = ap (λ (m : Memory). m.owners) s.after ∙ owners-now;
    found = subst (Found g) (sym s.after) (subst (λ (o : Option ℕ). Found o (parked (memory_in l w) r h p n)) (sym e) found-now);
  }

-- ---- a claim

module _ {l : GrowthRoom} {w : List ℕ} (cap r g : ℕ) (d : GrowthReady l w) (q : r < l.ranks) (op : open_in cap l w w r g ≡ true) where
  free : at (memory_in l w).owners g ≡ unassigned
  free = (open-facts cap (weights_in l w) (memory_in l w).owners (load (weights_in l w) (memory_in l w).owners r) g op).0

  in_rows : g < length (rows_in l w)
  in_rows = rw d.good.owners-all at (unowned-in (memory_in l w).owners g free)

  few-ranks : l.ranks < unassigned
  few-ranks = omega (arith, d.laid.enough, d.laid.few)

  -- a load is a part of all weights, so it fits
  pub claim-pre : (g < l.level.vertices) × (at (memory_in l w).loads r + at (weights_in l w) g < 2 ^ 32)
  claim-pre =
      let a = load-joins (weights_in l w) (memory_in l w).owners g r (unowned-in (memory_in l w).owners g free) (λ e. omega (arith, free, few-ranks)) in
      (omega (arith, in_rows, rows_all l w d.laid), omega (arith, d.good.loads-are r q, d.light))

  abbrev owned : Memory
  owned = owning (memory_in l w) r g (at (weights_in l w) g)

  counts-owned : owned.counts ≡ (memory_in l w).counts
  unfolding owning memory
  counts-owned = refl

  tails-owned : owned.tails ≡ (memory_in l w).tails
  unfolding owning memory
  tails-owned = refl

  owners-begun : (begun owned r g).owners ≡ set (memory_in l w).owners g r
  unfolding begun owning memory
  owners-begun = refl

  owners-appended : (appended owned r g).owners ≡ set (memory_in l w).owners g r
  unfolding appended owning memory
  owners-appended = refl

  made
      : {w' : List ℕ} (m' : Memory)
      → Stored l w w' m'
      → Step (rows_in l w) (weights_in l w) l.ranks (memory_in l w) m' r
      → m'.owners ≡ set (memory_in l w).owners g r
      → front_of (rows_in l w) m' r ≡ front_of (rows_in l w) (memory_in l w) r ++ row (rows_in l w) g
      → Claimed l w w' r g
  made m' s t eo ef = record {
    outside = s.outside;
    ready = ready-step d s t;
    owners-are = ap (λ (m : Memory). m.owners) s.after ∙ eo;
    here = ap (λ (m : Memory). front_of (rows_in l w) m r) s.after ∙ ef;
    there = λ e a b. ap (λ (m : Memory). front_of (rows_in l w) m e) s.after ∙ front-there d.good t e a b;
  }

  module _ {w₁ : List ℕ} (s : Stored l w w₁ owned) where
    counts-now : at (memory_in l w₁).counts r ≡ at (memory_in l w).counts r
    counts-now = ap (λ (m : Memory). at m.counts r) s.after ∙ ap (λ (c : List ℕ). at c r) counts-owned

    tails-now : at (memory_in l w₁).tails r ≡ at (memory_in l w).tails r
    tails-now = ap (λ (m : Memory). at m.tails r) s.after ∙ ap (λ (c : List ℕ). at c r) tails-owned

    then : {w₂ : List ℕ} (f : Memory → Memory) → Stored l w₁ w₂ (f (memory_in l w₁)) → Stored l w w₂ (f owned)
    then f t = record { after = t.after ∙ ap f s.after; outside = outside_trans s.outside t.outside }

    pub claim-begins : {w₂ : List ℕ} → at (memory_in l w₁).counts r ≡ 0 → Stored l w₁ w₂ (begun (memory_in l w₁) r g) → Claimed l w w₂ r g
    claim-begins z t =
        let z' : at (memory_in l w).counts r ≡ 0 = sym counts-now ∙ z in
        made (begun owned r g) (then (λ m. begun m r g) t) (begin-step d.good q few-ranks free in_rows z') owners-begun
        (begin-front d.good q few-ranks free in_rows z')

    module _ (z : at (memory_in l w₁).counts r ≡ 0 → ⊥) where
      some-count : at (memory_in l w).counts r ≡ suc (at (memory_in l w).counts r - 1)
      some-count = let nz : at (memory_in l w).counts r ≡ 0 → ⊥ = λ y. z (counts-now ∙ y) in omega arith

      pub append-pre : (at (memory_in l w₁).counts r < unassigned) × (at (memory_in l w₁).tails r < l.level.vertices)
      append-pre = (
        omega (arith, counts-now, d.good.short r q, rows_all l w d.laid, d.laid.few),
        omega (arith, tails-now, rows_all l w d.laid, (tail-facts d.good q few-ranks free in_rows (at (memory_in l w).counts r - 1) some-count).0),
      )

      pub claim-appends : {w₂ : List ℕ} → Stored l w₁ w₂ (appended (memory_in l w₁) r g) → Claimed l w w₂ r g
      claim-appends t =
          let c = at (memory_in l w).counts r - 1 in
          made (appended owned r g) (then (λ m. appended m r g) t) (append-step d.good q few-ranks free in_rows c some-count) owners-appended
          (append-front d.good q few-ranks free in_rows c some-count)

-- ---- the search for a restart

module _ {l : GrowthRoom} {w : List ℕ} (cap r : ℕ) (d : GrowthReady l w) (q : r < l.ranks) where
  order-size : length (order_in l w) ≡ l.level.vertices
  order-size = let h = d.laid in length_part w l.order (l.order + l.level.vertices) (omega arith) (omega arith) ∙ omega arith

  pub order-inside : length (order_in l w) ≡ l.level.vertices
  order-inside = order-size

  -- the order has groups
  pub order-groups : All (λ g. (g < length (weights_in l w)) × (g < length (owners_at w l.level))) (order_in l w)
  order-groups =
      subst (All (λ g. (g < length (weights_in l w)) × (g < length (owners_at w l.level)))) (sym d.ordered)
      (all-to (λ g. g < length (rows_in l w)) (λ g. (g < length (weights_in l w)) × (g < length (owners_at w l.level)))
      (λ g h. (omega (arith, rows_all l w d.laid, weights-length l w d.laid), omega (arith, rows_all l w d.laid, owners-length l w d.laid)))
      (by_degree (rows_in l w)) (by_degree-below (rows_in l w)))

  now-is : open_now cap l w r ≡ open_in cap l w w r
  now-is = ap (opens cap (weights_in l w) (memory_in l w).owners) (d.good.loads-are r q)

  module _ {cs : List ℕ} (b : Behind cap l w cs) {p : ℕ} (f : FirstOpen (open_now cap l w r) (order_in l w) (at cs r) p) where
    closed-before : (i : ℕ) → i < p → open_now cap l w r (at (order_in l w) i) ≡ false
    closed-before i h = split (ltb i (at cs r))
        (λ y. ap (λ (ok : ℕ → Bool). ok (at (order_in l w) i)) now-is ∙ b.closed r i q (ltb-true i (at cs r) y))
        (λ y. f.closed i (ltb-false i (at cs r) y) h)

    -- the cursor goes along
    pub cursor-behind : Behind cap l w (set cs r p)
    cursor-behind =
        let here : at (set cs r p) r ≡ p = get_or-set_same cs r p 0 (omega (arith, b.all, d.laid.few-ranks)) in
        record {
          all = length-set cs r p ∙ b.all;
          inside = λ e h. split (eqb e r)
              (λ y. subst (λ (x : ℕ). at (set cs r p) x ≤ l.level.vertices) (sym (eqb-true e r y)) (omega (arith, here, f.inside, order-size)))
              (λ y. omega (arith, get_or-set_other cs r e p 0 (eqb-false e r y), b.inside e h));
          closed = λ e i h. split (eqb e r)
              (λ y. subst (λ (x : ℕ). i < at (set cs r p) x → open_in cap l w w x (at (order_in l w) i) ≡ false) (sym (eqb-true e r y))
              (λ z. ap (λ (ok : ℕ → Bool). ok (at (order_in l w) i)) (sym now-is) ∙ closed-before i (omega (arith, here))))
              (λ y z. b.closed e i h (omega (arith, get_or-set_other cs r e p 0 (eqb-false e r y))));
        }

    first-is-best : restart_in cap l w r ≡ first (filter (open_now cap l w r) (order_in l w))
    first-is-best =
        ap (λ (n : ℕ). best (higher (rows_in l w)) (filter (open_now cap l w r) (range 0 n))) (sym (rows_all l w d.laid))
        ∙ order-first (rows_in l w) (open_now cap l w r)
        ∙ ap (λ (xs : List ℕ). first (filter (open_now cap l w r) xs)) (sym d.ordered)

    -- the group at the place where the search stopped
    pub restart-there : p < l.level.vertices → restart_in cap l w r ≡ some (at w (l.order + p))
    restart-there h =
        let k : p < length (order_in l w) = omega (arith, order-size) in
        let e : at (order_in l w) p ≡ at w (l.order + p) = get_or-part w l.order (l.order + l.level.vertices) p (omega arith) in
        first-is-best ∙ first_found (open_now cap l w r) (order_in l w) p closed-before k (f.found k) ∙ ap some e

    pub restart-nowhere : l.level.vertices ≤ p → restart_in cap l w r ≡ none
    restart-nowhere h =
        first-is-best ∙ first-none (open_now cap l w r) (order_in l w) (λ i k. closed-before i (omega (arith, order-size)))

zeros : (n d : ℕ) → at (replicate n 0) d ≡ 0
zeros zero d = refl
zeros (suc n) zero = refl
zeros (suc n) (suc d) = zeros n d

-- every cursor at the start of the order
pub behind-start : (cap : ℕ) (l : GrowthRoom) (w : List ℕ) → Behind cap l w (replicate 256 0)
behind-start cap l w = record {
  all = length-replicate {A = ℕ} 256 0;
  inside = λ d h. omega (arith, zeros 256 d);
  closed = λ d i h k. absurd (omega (arith, zeros 256 d));
}

-- what is closed stays closed
behind-less
    : {l : GrowthRoom} {w w' cs : List ℕ} {cap : ℕ}
    → order_in l w' ≡ order_in l w
    → ((e x : ℕ) → e < l.ranks → open_in cap l w' w' e x ≡ true → open_in cap l w w e x ≡ true)
    → Behind cap l w cs
    → Behind cap l w' cs
behind-less {l} {w} {w'} {cs} {cap} o f b = record {
  all = b.all;
  inside = b.inside;
  closed = λ e i h k. split (open_in cap l w' w' e (at (order_in l w') i))
      (λ y. absurd (true≢false (sym (f e (at (order_in l w') i) h y) ∙ ap (λ (xs : List ℕ). open_in cap l w w e (at xs i)) o ∙ b.closed e i h k)))
      (λ y. y);
}

module _ {l : GrowthRoom} {w w' cs : List ℕ} {cap r : ℕ} (d : GrowthReady l w) where
  pub behind-advanced : {g : Option ℕ} → Advanced l cap w w' r g → Behind cap l w cs → Behind cap l w' cs
  behind-advanced a = behind-less (order_same d.laid a.outside) (λ e x h y.
      ap₂ (λ (W o : List ℕ). open_to cap W o e x) (sym (weights-same {l = l} d.laid a.outside)) (sym a.owners-are) ∙ y)

  pub behind-claimed : {g : ℕ} → r < l.ranks → Claimed l w w' r g → open_in cap l w w r g ≡ true → Behind cap l w cs → Behind cap l w' cs
  behind-claimed {g} q c op =
      let u = (open-facts cap (weights_in l w) (memory_in l w).owners (load (weights_in l w) (memory_in l w).owners r) g op).0 in
      behind-less (order_same d.laid c.outside) (λ e x h y.
      opens_before cap (weights_in l w) (memory_in l w).owners g r e u (λ z. omega (arith, d.laid.few-ranks)) (λ z. omega (arith, d.laid.few-ranks)) x
      (ap₂ (λ (W o : List ℕ). open_to cap W o e x) (sym (weights-same {l = l} d.laid c.outside)) (sym c.owners-are) ∙ y))

-- ---- a turn

module _ {l : GrowthRoom} {w : List ℕ} (cap r : ℕ) (d : GrowthReady l w) (q : r < l.ranks) where
  restart-now : restart cap (rows_in l w) (weights_in l w) (memory_in l w).owners r ≡ restart_in cap l w r
  restart-now =
      restart-is cap (rows_in l w) (weights_in l w) (memory_in l w).owners r
      ∙ ap₂ (λ (x n : ℕ). best (higher (rows_in l w)) (filter (opens cap (weights_in l w) (memory_in l w).owners x) (range 0 n))) (sym (d.good.loads-are r q))
      (rows_all l w d.laid)

  pub restart-open : (g : ℕ) → restart_in cap l w r ≡ some g → open_in cap l w w r g ≡ true
  restart-open g e =
      best-kept (higher (rows_in l w)) (open_to cap (weights_in l w) (memory_in l w).owners r) (range 0 (length (rows_in l w))) g
      (sym (restart-is cap (rows_in l w) (weights_in l w) (memory_in l w).owners r) ∙ restart-now ∙ e)

module _ {l : GrowthRoom} {w w₁ : List ℕ} {cap r : ℕ} {g : Option ℕ} (d : GrowthReady l w) (q : r < l.ranks) (a : Advanced l cap w w₁ r g) where
  rs : rows_in l w₁ ≡ rows_in l w
  rs = rows_same d.laid a.outside

  ws : weights_in l w₁ ≡ weights_in l w
  ws = weights-same d.laid a.outside

  first-is : (v : ℕ) → g ≡ Some v → (xs : List ℕ) × (filter (open_in cap l w w₁ r) (front_of (rows_in l w) (memory_in l w₁) r) ≡ v ∷ xs) × (open_in cap l w w₁ r v ≡ true)
  first-is v z = rw z at a.found

  pub advanced-open : (v : ℕ) → g ≡ Some v → open_in cap l w₁ w₁ r v ≡ true
  advanced-open v z = subst (λ (x : List ℕ). open_to cap x (memory_in l w₁).owners r v ≡ true) (sym ws) (first-is v z).2

  none_open : g ≡ None → filter (open_in cap l w w₁ r) (front_of (rows_in l w) (memory_in l w₁) r) ≡ []
  none_open z = rw z at a.found

  restart-then : restart cap (rows_in l w) (weights_in l w) (memory_in l w₁).owners r ≡ restart_in cap l w₁ r
  restart-then =
      ap₂ (λ (R : List (List ℕ)) (W : List ℕ). restart cap R W (memory_in l w₁).owners r) (sym rs) (sym ws)
      ∙ restart-now cap r a.ready q

  few-ranks₁ : l.ranks < unassigned
  few-ranks₁ = omega (arith, d.laid.enough, d.laid.few)

  module _ {w₂ : List ℕ} (v : ℕ) (c : Claimed l w₁ w₂ r v) (op : open_in cap l w₁ w₁ r v ≡ true) where
    un : at (memory_in l w₁).owners v ≡ unassigned
    un = (open-facts cap (weights_in l w₁) (memory_in l w₁).owners (load (weights_in l w₁) (memory_in l w₁).owners r) v op).0

    hr : front_of (rows_in l w) (memory_in l w₂) r ≡ front_of (rows_in l w) (memory_in l w₁) r ++ row (rows_in l w) v
    hr = subst (λ (R : List (List ℕ)). front_of R (memory_in l w₂) r ≡ front_of R (memory_in l w₁) r ++ row R v) rs c.here

    tr : (e : ℕ) → e < l.ranks → (e ≡ r → ⊥) → front_of (rows_in l w) (memory_in l w₂) e ≡ front_of (rows_in l w) (memory_in l w₁) e
    tr e x y = subst (λ (R : List (List ℕ)). front_of R (memory_in l w₂) e ≡ front_of R (memory_in l w₁) e) rs (c.there e x y)

    fewer : 1 + vacant_in (memory_in l w₂).owners ≡ vacant_in (memory_in l w).owners
    fewer =
        omega (arith, ap vacant_in c.owners-are, vacant-set (memory_in l w₁).owners v r un (λ z. omega (arith, few-ranks₁)), ap vacant_in a.owners-are)

    pub turn-claim : g ≡ Some v → TurnMade l cap w w₂ r Claim
    turn-claim z =
        let f = first-is v z in
        record {
          outside = outside_trans a.outside c.outside;
          ready = c.ready;
          vacant = fewer;
          kind = λ s st. (claim-made r q (a.stands s st) (memory_in l w₂) v few-ranks₁ un c.owners-are hr tr f.0 f.1).0;
          stands = λ s st. (claim-made r q (a.stands s st) (memory_in l w₂) v few-ranks₁ un c.owners-are hr tr f.0 f.1).1;
        }

    pub turn-restart : g ≡ None → restart_in cap l w₁ r ≡ some v → TurnMade l cap w w₂ r Restart
    turn-restart z e = record {
      outside = outside_trans a.outside c.outside;
      ready = c.ready;
      vacant = fewer;
      kind = λ s st. (restart-made r q (a.stands s st) (memory_in l w₂) v few-ranks₁ un c.owners-are hr tr (none_open z) (restart-then ∙ e)).0;
      stands = λ s st. (restart-made r q (a.stands s st) (memory_in l w₂) v few-ranks₁ un c.owners-are hr tr (none_open z) (restart-then ∙ e)).1;
    }

  pub turn-pass : g ≡ None → restart_in cap l w₁ r ≡ none → TurnMade l cap w w₁ r Pass
  turn-pass z e = record {
    outside = a.outside;
    ready = a.ready;
    vacant = omega (arith, ap vacant_in a.owners-are);
    kind = λ s st. (pass-made r q (a.stands s st) (none_open z) (restart-then ∙ e)).0;
    stands = λ s st. (pass-made r q (a.stands s st) (none_open z) (restart-then ∙ e)).1;
  }
