-- The seeds, one after another. Assumes nothing.
use Prim.Native.Nat.{ℕ, suc, ◌+◌, ◌-◌, ◌*◌, ◌≤◌, ◌<◌}
use mathlib.Core.Path.{◌≡◌, refl, sym, ap, ◌∙◌}
use mathlib.Core.Bool.{Bool, true, false, cond, not, false≢true, true≢false}
use mathlib.Core.List.{List, [], ◌∷◌, ◌++◌}
use mathlib.Core.Option.{Option, none, some, get_or}
use native.Mathlib.Omega.{arith}
use lib.Dec.{eqb, ltb}
use lib.ListN.{length, set}
use lib.Seq.{get_or-set_other, ext_get_or}
use borrow.Author.Tests.{eq-eqb, ne_eqb, eqb-true, eqb-false, lt-ltb, le-ltb}
use Rattle.std.specs.Prelude.{Option as Given, Some, None, IfSome, unwrap_or}
use Rattle.stages.specs.Found.{found}
use Rattle.links.proofs.BestLaws.{step as step_of, left as left_at, one_more, all-met}
use Rattle.links.specs.Lists.{at, All, unassigned, filter, best, best_from, range, elem, above}
use Rattle.links.specs.Parts.{part, filled_part, Kept}
use Rattle.links.specs.Graph.{row, degree, vertices, vertex_count, Sound}
use Rattle.links.proofs.ListLaws.{split, all_filter, all-range, filter_none, best_none, best-all, best-kept, not-of, iff-eq}
use Rattle.links.proofs.PartLaws.{length_part, get_or-part, part-set-end, kept_set, kept_trans, kept-wide, kept-part-after, filled-kept, filled_at}
use Rattle.links.proofs.RowLaws.{length-row, row_at, offsets-fit}
use Rattle.links.proofs.RangeLaws.{filter-ext}
use Rattle.stages.specs.Level.{Ready, offsets_at, neighbors_at, rows_at}
use Rattle.stages.specs.Seeds.{distances, next_seed, farthest_seeds, farther}
use Rattle.stages.specs.SeedsCode.{from, Search, Searchable, Lies, Lowerable, Lowered, ahead, unseeded, farther_of, standing, better_of, farthest, degree_at, Choosing, Seedable, SeededTo, Seeded}
use Rattle.stages.specs.declared.level.HierarchyLevel.{HierarchyLevel}
use Rattle.stages.proofs.DistanceLaws.{passing-gap, passing-in, unique, distances-hold, distances-length}
use Rattle.stages.proofs.GrowthLaws.{length-seeds}
use Rattle.stages.proofs.LevelLaws.{length-neighbors, all-vertices, vertex-in}
use Rattle.stages.proofs.LoweringLaws.{lies-kept}

-- ---- the code's choice of the next seed

-- the cases of the code's step
module _ (d deg : ℕ → ℕ) (i : ℕ) where
  pub far-seed : (o : Given ℕ) → d i ≡ 0 → o ≡ farther_of d deg o i
  unfolding farther_of
  far-seed None e = rw (eq-eqb (d i) 0 e)
  far-seed (Some b) e = rw (eq-eqb (d i) 0 e)

  pub far_none : (d i ≡ 0 → ⊥) → Some i ≡ farther_of d deg None i
  unfolding farther_of
  far_none e = rw (ne_eqb (d i) 0 e)

  module _ (b : ℕ) (e : d i ≡ 0 → ⊥) where
    far-is : (x : Bool) → ahead d deg i b ≡ x → Some (cond x i b) ≡ farther_of d deg (Some b) i
    unfolding farther_of
    far-is x g = rw (ne_eqb (d i) 0 e, g)

    pub far-more : d b < d i → Some i ≡ farther_of d deg (Some b) i
    far-more h = far-is true (rw (lt-ltb (d b) (d i) h))

    pub far-less : d i ≤ d b → (d i ≡ d b → ⊥) → Some b ≡ farther_of d deg (Some b) i
    far-less h k = far-is false (rw (le-ltb (d b) (d i) h, ne_eqb (d i) (d b) k))

    pub far-degree : d i ≡ d b → deg b < deg i → Some i ≡ farther_of d deg (Some b) i
    far-degree h k = far-is true (rw (le-ltb (d b) (d i) (omega arith), eq-eqb (d i) (d b) h, lt-ltb (deg b) (deg i) k))

    pub far-tie : d i ≡ d b → deg i ≤ deg b → Some b ≡ farther_of d deg (Some b) i
    far-tie h k = far-is false (rw (le-ltb (d b) (d i) (omega arith), eq-eqb (d i) (d b) h, le-ltb (deg b) (deg i) k))

  -- the step is the definition's
  pub far-step : (o : Given ℕ) → found (farther_of d deg o i) ≡ step_of (ahead d deg) (unseeded d) (found o) i
  unfolding farther_of
  far-step None = go (unseeded d i)
    where
      go : (x : Bool) → found (cond x (Some i) None) ≡ cond x (some i) none
      go true = refl
      go false = refl
  far-step (Some b) = go (unseeded d i)
    where
      go : (x : Bool) → found (cond x (Some (cond (ahead d deg i b) i b)) (Some b)) ≡ cond x (some (cond (ahead d deg i b) i b)) (some b)
      go true = refl
      go false = refl

  -- it stays in range
  pub far-in : (o : Given ℕ) (n : ℕ) → i < n → IfSome o (λ b. b < n) → IfSome (farther_of d deg o i) (λ b. b < n)
  unfolding farther_of
  far-in None n h r = go (unseeded d i)
    where
      go : (x : Bool) → IfSome (cond x (Some i) None) (λ b. b < n)
      go true = h
      go false = tt
  far-in (Some b) n h r = go (unseeded d i) (ahead d deg i b)
    where
      go : (x y : Bool) → IfSome (cond x (Some (cond y i b)) (Some b)) (λ b. b < n)
      go true true = h
      go true false = r
      go false y = r

-- the code keeps a vertex, which stands for none while it is a seed: its cases
module _ (d deg : ℕ → ℕ) (b i : ℕ) where
  pub seed-stays : d i ≡ 0 → b ≡ better_of d deg b i
  unfolding better_of
  seed-stays e = rw (eq-eqb (d i) 0 e)

  module _ (e : d i ≡ 0 → ⊥) where
    better-is : (x : Bool) → ahead d deg i b ≡ x → cond x i b ≡ better_of d deg b i
    unfolding better_of
    better-is x g = rw (ne_eqb (d i) 0 e, g)

    pub more-leads : d b < d i → i ≡ better_of d deg b i
    more-leads h = better-is true (rw (lt-ltb (d b) (d i) h))

    pub less-stays : d i ≤ d b → (d i ≡ d b → ⊥) → b ≡ better_of d deg b i
    less-stays h k = better-is false (rw (le-ltb (d b) (d i) h, ne_eqb (d i) (d b) k))

    pub degree-leads : d i ≡ d b → deg b < deg i → i ≡ better_of d deg b i
    degree-leads h k = better-is true (rw (le-ltb (d b) (d i) (omega arith), eq-eqb (d i) (d b) h, lt-ltb (deg b) (deg i) k))

    pub tie-stays : d i ≡ d b → deg i ≤ deg b → b ≡ better_of d deg b i
    tie-stays h k = better-is false (rw (le-ltb (d b) (d i) (omega arith), eq-eqb (d i) (d b) h, le-ltb (deg b) (deg i) k))

  -- its step is that of the choice
  pub better-standing : standing d (better_of d deg b i) ≡ farther_of d deg (standing d b) i
  unfolding better_of farther_of
  better-standing =
      split (eqb (d i) 0)
      (λ p. split (eqb (d b) 0) (λ q. rw (q, p, q)) (λ q. rw (q, p, q)))
      (λ p. split (eqb (d b) 0)
      (λ q. rw (q, p, lt-ltb (d b) (d i) (omega (arith, eqb-true (d b) 0 q, eqb-false (d i) 0 p))) (rw p))
      (λ q. rw (q, p) (split (ahead d deg i b) (λ r. rw (r, p)) (λ r. rw (r, q)))))

  pub better-below : (n : ℕ) → b < n → i < n → better_of d deg b i < n
  unfolding better_of
  better-below n h k = split (unseeded d i) (λ p. rw p (split (ahead d deg i b) (λ r. rw r k) (λ r. rw r h))) (λ p. rw p h)

  pub better-seed : (d b ≡ 0 → b ≡ 0) → d (better_of d deg b i) ≡ 0 → better_of d deg b i ≡ 0
  unfolding better_of
  better-seed h = split (unseeded d i)
      (λ p. rw p (split (ahead d deg i b)
      (λ r. rw r (λ z. absurd (true≢false (sym p ∙ rw (eq-eqb (d i) 0 z)))))
      (λ r. rw r h)))
      (λ p. rw p h)

-- its end: a seed stands for none, and is vertex 0
pub standing-end : (d : ℕ → ℕ) (b : ℕ) → (d b ≡ 0 → b ≡ 0) → b ≡ get_or (found (standing d b)) 0
standing-end d b h = split (eqb (d b) 0) (λ p. rw p (h (eqb-true (d b) 0 p))) (λ p. rw p refl)

-- the choice begins at vertex 0
pub far-start : (d deg : ℕ → ℕ) (n : ℕ) → get_or (left_at (ahead d deg) (unseeded d) n 1 (found (standing d 0))) 0 ≡ farthest d deg n
unfolding farthest
far-start d deg n = split (eqb n 0)
    (λ p. let z : n ≡ 0 = eqb-true n 0 p in
    ap value (all-met (ahead d deg) (unseeded d) n 1 (found (standing d 0)) (omega arith)) ∙ sym (standing-end d 0 (λ z. refl)) ∙ rw z)
    (λ p. let z : n - 0 ≡ n = omega arith in
    ap value (ap (left_at (ahead d deg) (unseeded d) n 1) first ∙ sym (one_more (ahead d deg) (unseeded d) n 0 none (omega (arith, eqb-false n 0 p)))) ∙ rw z)
  where
    value : Option ℕ → ℕ
    value o = get_or o 0

    first : found (standing d 0) ≡ step_of (ahead d deg) (unseeded d) none 0
    first = split (unseeded d 0) (λ p. rw p) (λ p. rw p)

-- the end of the loop
pub far-end
    : (d deg : ℕ → ℕ) (n : ℕ) (o : Given ℕ)
    → found o ≡ best (ahead d deg) (filter (unseeded d) (range 0 n))
    → unwrap_or o 0 ≡ farthest d deg n
unfolding farthest
far-end d deg n None e = ap (λ (o : Option ℕ). get_or o 0) e
far-end d deg n (Some b) e = ap (λ (o : Option ℕ). get_or o 0) e

-- ---- the code's choice is rule 4's

module _ (b c : ℕ → ℕ → Bool) (n : ℕ) (f : (u v : ℕ) → u < n → v < n → b u v ≡ c u v) where
  best-ext : (xs : List ℕ) → All (λ x. x < n) xs → (m : ℕ) → m < n → best_from b (some m) xs ≡ best_from c (some m) xs
  best-ext [] a m h = refl
  best-ext (x ∷ xs) a m h = rw (f x m a.0 h) (best-ext xs a.1 (cond (c x m) x m) (split (c x m) (λ p. rw p a.0) (λ p. rw p h)))

  best-same : (xs : List ℕ) → All (λ x. x < n) xs → best b xs ≡ best c xs
  best-same [] a = refl
  best-same (x ∷ xs) a = best-ext xs a.1 x a.0

below-n : (p : ℕ → Bool) (n : ℕ) → All (λ x. x < n) (filter p (range 0 n))
below-n p n = all_filter (λ x. x < n) p (range 0 n) (all-range (λ x. x < n) 0 n (λ x h k. omega arith))

module _ (rows : List (List ℕ)) (sound : Sound rows) (few : length rows < unassigned) (seeds : List ℕ) where
  -- the seeds are those at distance 0
  seed-test : (v : ℕ) → v < length rows → eqb (at (distances rows seeds) v) 0 ≡ elem v seeds
  seed-test v h =
      let L = distances-hold rows sound seeds few in
      iff-eq (eqb (at (distances rows seeds) v) 0) (elem v seeds)
      (λ p. L.seeds-only v h (eqb-true (at (distances rows seeds) v) 0 p))
      (λ p. eq-eqb (at (distances rows seeds) v) 0 (L.at-seeds v h p))

  far-next
      : (d deg : ℕ → ℕ)
      → ((v : ℕ) → v < length rows → d v ≡ at (distances rows seeds) v)
      → ((v : ℕ) → v < length rows → deg v ≡ degree rows v)
      → farthest d deg (length rows) ≡ next_seed rows seeds
  unfolding farthest next_seed farther
  far-next d deg f g =
      let D : ℕ → ℕ = at (distances rows seeds) in
      let n = length rows in
      let better : ℕ → ℕ → Bool = λ u v. above (D u) (D v) (ltb (degree rows v) (degree rows u)) in
      let b : (u v : ℕ) → u < n → v < n → ahead d deg u v ≡ better u v = λ u v h k. rw (f u h, f v k, g u h, g v k) in
      let k : filter (unseeded d) (range 0 n) ≡ filter (λ v. not (elem v seeds)) (range 0 n) =
      filter-ext (unseeded d) (λ v. not (elem v seeds)) 0 n (λ x k h. rw (f x (omega arith), seed-test x (omega arith))) in
      ap (λ (o : Option ℕ). get_or o 0)
      (best-same (ahead d deg) better n b (filter (unseeded d) (range 0 n)) (below-n (unseeded d) n) ∙ ap (best better) k)

-- while there are fewer seeds than vertices, the next is a vertex and no seed
pub next-fresh
    : (rows : List (List ℕ)) (seeds : List ℕ)
    → length seeds < length rows
    → (next_seed rows seeds < length rows) × (elem (next_seed rows seeds) seeds ≡ false)
unfolding next_seed
next-fresh rows seeds h =
    go (farther rows (distances rows seeds)) (best (farther rows (distances rows seeds)) (filter (λ v. not (elem v seeds)) (vertices rows))) refl
  where
    go
        : (b : ℕ → ℕ → Bool) (o : Option ℕ)
        → best b (filter (λ v. not (elem v seeds)) (vertices rows)) ≡ o
        → (get_or o 0 < length rows) × (elem (get_or o 0) seeds ≡ false)
    go b none e =
        let w = passing-gap (λ v. elem v seeds) (length rows) (omega (arith, passing-in seeds (length rows))) in
        let x : not (elem w.0 seeds) ≡ false =
        filter_none (λ v. not (elem v seeds)) 0 (length rows) (best_none b (filter (λ v. not (elem v seeds)) (vertices rows)) e) w.0 (omega arith)
        (omega (arith, w.1)) in
        absurd (true≢false (rw w.2 at x))
    go b (some s) e = (
      best-all b (λ x. x < length rows) (filter (λ v. not (elem v seeds)) (vertices rows)) s (below-n (λ v. not (elem v seeds)) (length rows)) e,
      not-of (elem s seeds) (best-kept b (λ v. not (elem v seeds)) (vertices rows) s e),
    )

-- with no seed nothing is reached
none-reached : (rows : List (List ℕ)) → Sound rows → length rows < unassigned → (v : ℕ) → v < length rows → unassigned ≡ at (distances rows []) v
none-reached rows sound few =
    unique rows sound [] (λ v. unassigned) (at (distances rows []))
    (record {
      most = λ v h. omega arith;
      at-seeds = λ v h e. absurd (false≢true e);
      seeds-only = λ v h e. absurd (omega arith);
      near = λ v h w e. omega arith;
      nearer = λ v h l m. absurd (omega arith);
    })
    (distances-hold rows sound [] few)

-- what the search for the r-th seed goes by
unfoldable pub search_for : List (List ℕ) → ℕ → Search
search_for rows r = record {
  rows = rows;
  seeds = farthest_seeds rows r;
  start = at (distances rows (farthest_seeds rows r));
  new = next_seed rows (farthest_seeds rows r);
}

searchable : (rows : List (List ℕ)) (r : ℕ) → Sound rows → length rows < unassigned → r < length rows → Searchable (search_for rows r)
unfolding search_for
searchable rows r sound few h =
    let F = farthest_seeds rows r in
    let L = distances-hold rows sound F few in
    let N = next-fresh rows F (omega (arith, length-seeds rows r)) in
    let d = at (distances rows F) (next_seed rows F) in
    record {
      sound = sound;
      few = few;
      kept = L;
      inside = N.0;
      fresh = split (eqb d 0)
          (λ p. absurd (true≢false (sym (L.seeds-only (next_seed rows F) N.0 (eqb-true d 0 p)) ∙ N.1)))
          (λ p. let z = eqb-false d 0 p in omega arith);
    }

-- ---- in the work slice

-- a level below scratch lies as the search asks
module _ {w : List ℕ} {l : HierarchyLevel} {s : ℕ} (R : Ready w l s) (room : s + 2 * l.vertices ≤ length w) where
  offset_at : (v : ℕ) → v ≤ l.vertices → at (offsets_at w l) v ≡ from w l.offsets v
  offset_at v h = get_or-part w l.offsets (l.offsets + (l.vertices + 1)) v (omega arith)

  module _ (v : ℕ) (h : v < length (rows_at w l)) where
    v_low : v < l.vertices
    v_low = rw (all-vertices R) at h

    v-in : v < vertex_count (offsets_at w l)
    v-in = vertex-in R v v_low

    fits : from w l.offsets (v + 1) ≤ l.entries
    fits =
        omega (arith, offsets-fit (offsets_at w l) (neighbors_at w l) R.lists (v + 1) (omega (arith, v-in)), length-neighbors R, offset_at (v + 1) (omega (arith, v_low)))

    step : from w l.offsets v + degree (rows_at w l) v ≡ from w l.offsets (v + 1)
    step =
        omega (arith, length-row (offsets_at w l) (neighbors_at w l) R.lists v v-in, R.lists.rises v v-in, offset_at v (omega (arith, v_low)), offset_at (v + 1) (omega (arith, v_low)))

    entry : (i : ℕ) → i < degree (rows_at w l) v → from w l.neighbors (from w l.offsets v + i) ≡ at (row (rows_at w l) v) i
    entry i k =
        ap (λ (x : ℕ). from w l.neighbors (x + i)) (sym (offset_at v (omega (arith, v_low))))
        ∙ sym
        (get_or-part w l.neighbors (l.neighbors + l.entries) (at (offsets_at w l) v + i) (omega (arith, offset_at v (omega (arith, v_low)), step, fits)))
        ∙ sym (row_at (offsets_at w l) (neighbors_at w l) R.lists v v-in i k)

  pub lies : Lies (rows_at w l) w l s
  lies = record {
    sound = R.lists.sound;
    size = all-vertices R;
    few = omega (arith, all-vertices R, R.few);
    offsets-in = omega (arith, R.laid.offsets-in, R.laid.neighbors-in, R.laid.weights-in, R.laid.map-in, R.laid.owners-in);
    step = step;
    entry = λ v i h k. entry v h i k;
    entries-in = λ v h. omega (arith, fits v h, R.laid.neighbors-in, R.laid.weights-in, R.laid.map-in, R.laid.owners-in);
    room = room;
  }

-- every vertex is unreachable
abbrev pub unreached : List ℕ → HierarchyLevel → ℕ → List ℕ
unreached w l s = filled_part w s (s + l.vertices) unassigned

module _ {w₀ : List ℕ} {l : HierarchyLevel} {s k : ℕ} (P : Seedable w₀ l s k) where
  abbrev rows : List (List ℕ)
  rows = rows_at w₀ l

  lies₀ : Lies (rows_at w₀ l) w₀ l s
  lies₀ = lies P.level (omega (arith, P.room))

  n-is : length (rows_at w₀ l) ≡ l.vertices
  n-is = lies₀.size

  distances-fit : s + l.vertices ≤ length w₀
  distances-fit = omega (arith, P.room)

  pub seeded-none
      : (w : List ℕ)
      → w ≡ unreached w₀ l s
      → SeededTo (rows_at w₀ l) w₀ w l s k 0
  unfolding farthest_seeds
  seeded-none w e =
      let z : s + 2 * l.vertices + 0 - (s + 2 * l.vertices) ≡ 0 = omega arith in
      record {
        chosen = rw z;
        distance = λ v h. filled_at w₀ w s l.vertices unassigned distances-fit e v (omega (arith, n-is)) ∙ none-reached rows lies₀.sound lies₀.few v h;
        kept =
            kept-wide s (s + l.vertices) s (s + 2 * l.vertices + k) w w₀ (omega arith) (omega arith)
            (filled-kept w₀ w s l.vertices unassigned distances-fit e);
      }

  module _ {w : List ℕ} {r : ℕ} (K : SeededTo (rows_at w₀ l) w₀ w l s k r) where
    lies-now : Lies (rows_at w₀ l) w l s
    lies-now = lies-kept rows w w₀ l s (s + 2 * l.vertices + k) K.kept lies₀

    pub choosing : Choosing w l s
    choosing = record {
      few = omega (arith, P.level.few);
      offsets-in = omega (arith, lies-now.offsets-in, lies-now.room);
      distances-in = omega (arith, lies-now.room);
      grows = λ v h. omega (arith, lies-now.step v (omega (arith, n-is)));
    }

    pub at-seed : r < k → s + 2 * l.vertices + r < length w
    at-seed h = omega (arith, P.room, K.kept.same_length)

    module _ (x : ℕ) (h : r < k) (e : x ≡ farthest (from w s) (degree_at w l) l.vertices) where
      is-next : x ≡ next_seed (rows_at w₀ l) (farthest_seeds (rows_at w₀ l) r)
      is-next =
          e
          ∙ ap (farthest (from w s) (degree_at w l)) (sym n-is)
          ∙ far-next rows lies₀.sound lies₀.few (farthest_seeds rows r) (from w s) (degree_at w l) K.distance (λ v h. omega (arith, lies-now.step v h))

      kept-seed : Kept s (s + 2 * l.vertices + k) (set w (s + 2 * l.vertices + r) x) w₀
      kept-seed = kept_set s (s + 2 * l.vertices + k) w w₀ (s + 2 * l.vertices + r) x K.kept (omega arith) (omega arith)

      pub picks : Lowerable (search_for (rows_at w₀ l) r) (set w (s + 2 * l.vertices + r) x) l s x
      unfolding search_for
      picks = record {
        good = searchable rows r lies₀.sound lies₀.few (omega (arith, P.enough, n-is));
        lies = lies-kept rows (set w (s + 2 * l.vertices + r) x) w₀ l s (s + 2 * l.vertices + k) kept-seed lies₀;
        new = sym is-next;
        start = λ v m. get_or-set_other w (s + 2 * l.vertices + r) (s + v) x 0 (λ q. omega (arith, n-is)) ∙ K.distance v m;
      }

      pub picked
          : {w' : List ℕ} {t : ℕ}
          → Lowered (search_for (rows_at w₀ l) r) (set w (s + 2 * l.vertices + r) x) w' l s t
          → SeededTo (rows_at w₀ l) w₀ w' l s k (r + 1)
      unfolding search_for farthest_seeds
      picked {w'} L =
          let one : r + 1 ≡ suc r = omega arith in
          let a : ℕ = s + 2 * l.vertices in
          let w₁ : List ℕ = set w (s + 2 * l.vertices + r) x in
          let more : List ℕ = farthest_seeds rows r ++ (next_seed rows (farthest_seeds rows r) ∷ []) in
          let grown : farthest_seeds rows (r + 1) ≡ more = rw one in
          record {
            chosen =
                kept-part-after s (s + 2 * l.vertices) w' w₁ L.kept (s + 2 * l.vertices) (s + 2 * l.vertices + (r + 1)) (omega arith)
                ∙ part-set-end w (s + 2 * l.vertices) r x (at-seed h)
                ∙ ap (λ (z : List ℕ). z ++ (x ∷ [])) K.chosen
                ∙ ap (λ (z : ℕ). farthest_seeds rows r ++ (z ∷ [])) is-next
                ∙ sym grown;
            distance = λ v m.
                unique rows lies₀.sound more (from w' s) (at (distances rows more)) L.distance (distances-hold rows lies₀.sound more lies₀.few) v m
                ∙ ap (λ (z : List ℕ). at (distances rows z) v) (sym grown);
            kept =
                kept_trans s (s + 2 * l.vertices + k) w' w₁ w₀
                (kept-wide s (s + 2 * l.vertices) s (s + 2 * l.vertices + k) w' w₁ (omega arith) (omega arith) L.kept) kept-seed;
          }

  pub all-seeded : {w : List ℕ} {r : ℕ} → r ≡ k → SeededTo (rows_at w₀ l) w₀ w l s k r → Seeded w₀ w l s k
  all-seeded {w} e K =
      let m : length (part w s (s + l.vertices)) ≡ l.vertices =
      length_part w s (s + l.vertices) (omega arith) (omega (arith, distances-fit, K.kept.same_length)) ∙ omega arith in
      let F = farthest_seeds rows k in
      record {
        chosen = rw e at K.chosen;
        distance = ext_get_or 0 (part w s (s + l.vertices)) (distances rows F)
            (m ∙ sym (distances-length rows lies₀.sound F lies₀.few ∙ n-is))
            (λ i h. let i' : i < l.vertices = rw m at h in
            get_or-part w s (s + l.vertices) i (omega arith)
            ∙ K.distance i (omega (arith, n-is))
            ∙ ap (λ (z : ℕ). at (distances rows (farthest_seeds rows z)) i) e);
        kept = K.kept;
      }
