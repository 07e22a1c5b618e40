-- The search from a new seed, in the work slice. Assumes nothing.
use Prim.Native.Nat.{ℕ, suc, ◌+◌, ◌-◌, ◌*◌, ◌≤◌, ◌<◌}
use mathlib.Core.Path.{◌≡◌, refl, sym, ap, ◌∙◌, subst}
use mathlib.Core.List.{List}
use native.Mathlib.Omega.{arith}
use lib.Dec.{ltb}
use lib.ListN.{length, set, length-set}
use lib.Seq.{get_or-set_same, get_or-set_other}
use borrow.Author.Tests.{ltb-true, ltb-false}
use Rattle.links.specs.Lists.{at}
use Rattle.links.specs.Parts.{Kept}
use Rattle.links.specs.Graph.{row, degree}
use Rattle.links.proofs.ListLaws.{split}
use Rattle.links.proofs.PartLaws.{kept_refl, kept_set, kept_trans}
use Rattle.stages.specs.SeedsCode.{from, Search, Scanning, Lies, is_farther, Relaxing, relaxed, tail_after, Scannable, ScannedTo, Scanned, Lowerable, LoweredTo, Lowered}
use Rattle.stages.specs.declared.level.HierarchyLevel.{HierarchyLevel}
use Rattle.stages.proofs.DistanceLaws.{passing-le}
use Rattle.stages.proofs.SearchLaws.{u-in, u-low, w-in, room, passed, lowers, scanned, starts, ends, first_one}

-- what lies below scratch is as it was
pub lies-kept
    : (rows : List (List ℕ)) (w w₀ : List ℕ) (l : HierarchyLevel) (scratch e : ℕ)
    → Kept scratch e w w₀
    → Lies rows w₀ l scratch
    → Lies rows w l scratch
lies-kept rows w w₀ l s e k L =
    let o : (v : ℕ) → v ≤ length rows → from w l.offsets v ≡ from w₀ l.offsets v =
    λ v h. k.below (l.offsets + v) (omega (arith, L.offsets-in, L.size)) in
    record {
      sound = L.sound;
      size = L.size;
      few = L.few;
      offsets-in = L.offsets-in;
      step = λ v h. omega (arith, o v (omega arith), o (v + 1) (omega arith), L.step v h);
      entry = λ v i h m.
          ap (λ (x : ℕ). from w l.neighbors (x + i)) (o v (omega arith))
          ∙ k.below (l.neighbors + (from w₀ l.offsets v + i)) (omega (arith, L.entries-in v h, L.step v h))
          ∙ L.entry v i h m;
      entries-in = λ v h. omega (arith, L.entries-in v h, o (v + 1) (omega arith));
      room = omega (arith, L.room, k.same_length);
    }

-- ---- the neighbors of u, one after another

module _ {g : Search} {h : ℕ} {w₀ : List ℕ} {l : HierarchyLevel} {s u t₀ : ℕ} (P : Scannable g h w₀ l s u t₀) where
  u-at : u < length g.rows
  u-at = u-in g P.good (from w₀ s) (from w₀ (s + l.vertices)) h t₀ u 0 P.scan

  at-neighbor : (j : ℕ) → j < from w₀ l.offsets (u + 1) → l.neighbors + j < s
  at-neighbor j m = omega (arith, P.lies.entries-in u u-at)

  pub begins : ScannedTo g h w₀ w₀ l s u t₀ 0
  begins = record { scan = P.scan; kept = kept_refl s (s + 2 * l.vertices) w₀; same = refl }

  pub scan-ends
      : {w : List ℕ} {t : ℕ} (j : ℕ)
      → from w₀ l.offsets u ≤ j
      → from w₀ l.offsets (u + 1) ≤ j
      → ScannedTo g h w₀ w l s u t (j - from w₀ l.offsets u)
      → Scanned g h w₀ w l s t
  scan-ends {w} {t} j lo hi T = record {
    run = scanned g P.good (from w s) (from w (s + l.vertices)) h t u (j - from w₀ l.offsets u) T.scan (omega (arith, P.lies.step u u-at));
    kept = T.kept;
  }

  module _ {w : List ℕ} {t : ℕ} (j : ℕ) (lo : from w₀ l.offsets u ≤ j) (hi : j < from w₀ l.offsets (u + 1))
      (T : ScannedTo g h w₀ w l s u t (j - from w₀ l.offsets u)) (x d : ℕ) (ex : x ≡ from w l.neighbors j) (ed : d ≡ from w₀ s u) where
    i-in : j - from w₀ l.offsets u < degree g.rows u
    i-in = omega (arith, P.lies.step u u-at)

    is : at (row g.rows u) (j - from w₀ l.offsets u) ≡ x
    is =
        let e : from w₀ l.offsets u + (j - from w₀ l.offsets u) ≡ j = omega arith in
        sym (P.lies.entry u (j - from w₀ l.offsets u) u-at i-in)
        ∙ ap (from w₀ l.neighbors) e
        ∙ sym (T.kept.below (l.neighbors + j) (at-neighbor j hi))
        ∙ sym ex

    x-in : x < length g.rows
    x-in = w-in g P.good (from w s) (from w (s + l.vertices)) h t u (j - from w₀ l.offsets u) T.scan x i-in is

    fits-now : s + 2 * l.vertices ≤ length w
    fits-now = omega (arith, T.kept.same_length, P.lies.room)

    d-is : from w s u ≡ d
    d-is = T.same ∙ sym ed

    room-at : d + 1 < from w s x → t < length g.rows
    room-at m = room g P.good (from w s) (from w (s + l.vertices)) h t u (j - from w₀ l.offsets u) T.scan x i-in is (omega (arith, d-is))

    pub relaxing : Relaxing w l s x d t
    relaxing = record {
      inside = omega (arith, x-in, fits-now, P.lies.size);
      low = omega (arith, u-low g P.good (from w s) (from w (s + l.vertices)) h t u (j - from w₀ l.offsets u) T.scan, d-is);
      queue-in = omega (arith, fits-now);
      room = λ m. omega (arith, room-at m, fits-now, P.lies.size);
    }

    -- x is lowered
    module _ (m : d + 1 < from w s x) where
      other_at
          : (v : ℕ)
          → v < length g.rows
          → (v ≡ x → ⊥)
          → from (set (set w (s + x) (d + 1)) (s + l.vertices + t) x) s v ≡ from w s v
      other_at v k z =
          get_or-set_other (set w (s + x) (d + 1)) (s + l.vertices + t) (s + v) x 0 (λ q. omega (arith, P.lies.size))
          ∙ get_or-set_other w (s + x) (s + v) (d + 1) 0 (λ q. z (omega arith))

      lower-turn : ScannedTo g h w₀ (set (set w (s + x) (d + 1)) (s + l.vertices + t) x) l s u (t + 1) (j + 1 - from w₀ l.offsets u)
      lower-turn =
          let w₁ : List ℕ = set w (s + x) (d + 1) in
          let w₂ : List ℕ = set w₁ (s + l.vertices + t) x in
          let n₁ : length w₁ ≡ length w = length-set w (s + x) (d + 1) in
          let i' : suc (j - from w₀ l.offsets u) ≡ j + 1 - from w₀ l.offsets u = omega arith in
          let t' : suc t ≡ t + 1 = omega arith in
          let n : length g.rows ≡ l.vertices = P.lies.size in
          let r = room-at m in
          record {
            scan =
                rw (← i', ← t') (lowers g P.good (from w s) (from w (s + l.vertices)) h t u (j - from w₀ l.offsets u) T.scan x i-in is (omega (arith, d-is)) (from w₂ s) (from w₂ (s + l.vertices))
                (get_or-set_other w₁ (s + l.vertices + t) (s + x) x 0 (λ q. omega (arith, x-in))
                ∙ get_or-set_same w (s + x) (d + 1) 0 relaxing.inside
                ∙ omega (arith, d-is))
                other_at
                (get_or-set_same w₁ (s + l.vertices + t) x 0 (omega (arith, fits-now)))
                (λ k b. get_or-set_other w₁ (s + l.vertices + t) (s + l.vertices + k) x 0 (λ q. omega arith)
                ∙ get_or-set_other w (s + x) (s + l.vertices + k) (d + 1) 0 (λ q. omega (arith, x-in))));
            kept = kept_set s (s + 2 * l.vertices) w₁ w₀ (s + l.vertices + t) x
                (kept_set s (s + 2 * l.vertices) w w₀ (s + x) (d + 1) T.kept (omega arith) (omega (arith, x-in)))
                (omega arith)
                (omega arith);
            same = other_at u u-at (λ q. omega (arith, ap (from w s) q, d-is)) ∙ T.same;
          }

    pass-turn : from w s x ≤ d + 1 → ScannedTo g h w₀ w l s u t (j + 1 - from w₀ l.offsets u)
    pass-turn m =
        let i' : suc (j - from w₀ l.offsets u) ≡ j + 1 - from w₀ l.offsets u = omega arith in
        record {
          scan =
              rw (← i') (passed g P.good (from w s) (from w (s + l.vertices)) h t u (j - from w₀ l.offsets u) T.scan x i-in is (omega (arith, d-is)));
          kept = T.kept;
          same = T.same;
        }

    -- a turn of the loop
    pub scan-turn : ScannedTo g h w₀ (relaxed w l s x d t) l s u (tail_after w s x d t) (j + 1 - from w₀ l.offsets u)
    unfolding relaxed tail_after
    scan-turn = split (is_farther w s x d)
        (λ p. rw p (lower-turn (ltb-true (d + 1) (from w s x) p)))
        (λ p. rw p (pass-turn (ltb-false (d + 1) (from w s x) p)))

-- ---- the queue

module _ {g : Search} {w₀ : List ℕ} {l : HierarchyLevel} {s x : ℕ} (P : Lowerable g w₀ l s x) where
  x-low : x < length g.rows
  x-low = omega (arith, P.good.inside, P.new)

  pub at_new : s + x < length w₀
  at_new = omega (arith, x-low, P.lies.room, P.lies.size)

  pub at-queue : s + l.vertices < length w₀
  at-queue = omega (arith, x-low, P.lies.room, P.lies.size)

  started : LoweredTo g w₀ (set (set w₀ (s + x) 0) (s + l.vertices) x) l s 0 1
  started =
      let q : ℕ = s + l.vertices in
      let w₁ : List ℕ = set w₀ (s + x) 0 in
      let w : List ℕ = set w₁ (s + l.vertices) x in
      let z : s + l.vertices + 0 ≡ s + l.vertices = omega arith in
      let n₁ : length w₁ ≡ length w₀ = length-set w₀ (s + x) 0 in
      let n : length g.rows ≡ l.vertices = P.lies.size in
      let old : (v : ℕ) → v < length g.rows → from w s v ≡ from w₁ s v = λ v k. get_or-set_other w₁ (s + l.vertices) (s + v) x 0 (λ e. omega arith) in
      record {
        run = starts g P.good (from w s) (from w (s + l.vertices))
            (ap (from w s) P.new ∙ old x x-low ∙ get_or-set_same w₀ (s + x) 0 0 at_new)
            (λ v k m. old v k ∙ get_or-set_other w₀ (s + x) (s + v) 0 0 (λ e. m (omega (arith, P.new))) ∙ P.start v k)
            (ap (at w) z ∙ get_or-set_same w₁ (s + l.vertices) x 0 (omega (arith, at-queue)) ∙ sym P.new);
        kept = kept_set s (s + 2 * l.vertices) w₁ w₀ (s + l.vertices) x
            (kept_set s (s + 2 * l.vertices) w₀ w₀ (s + x) 0 (kept_refl s (s + 2 * l.vertices) w₀) (omega arith) (omega (arith, x-low)))
            (omega arith)
            (omega (arith, x-low));
      }

  pub low-begins : (w : List ℕ) (a q : ℕ) → a ≡ s + x → q ≡ s + l.vertices → w ≡ set (set w₀ a 0) q x → LoweredTo g w₀ w l s 0 1
  low-begins w a q ea eq e = rw (e, ea, eq) started

  module _ {w : List ℕ} {h t : ℕ} (L : LoweredTo g w₀ w l s h t) where
    -- the queue never has more than n
    pub tail-le : s + l.vertices + t ≤ length w₀
    tail-le = omega (arith, L.run.counted, passing-le (λ v. ltb (from w s v) (g.start v)) (length g.rows), P.lies.room, P.lies.size)

    pub low-scans : (u : ℕ) → u ≡ from w (s + l.vertices) h → h < t → Scannable g h w l s u t
    low-scans u e k = record {
      good = P.good;
      lies = lies-kept g.rows w w₀ l s (s + 2 * l.vertices) L.kept P.lies;
      scan =
          subst (λ (x : ℕ). Scanning g (from w s) (from w (s + l.vertices)) h t x 0) (sym e)
          (first_one g P.good (from w s) (from w (s + l.vertices)) h t L.run k);
    }

    pub low-next : {w' : List ℕ} {r : ℕ} → Scanned g h w w' l s r → LoweredTo g w₀ w' l s (h + 1) r
    low-next {w'} S =
        let e : suc h ≡ h + 1 = omega arith in
        record { run = rw (← e) S.run; kept = kept_trans s (s + 2 * l.vertices) w' w w₀ S.kept L.kept }

    pub low-ends : t ≤ h → Lowered g w₀ w l s t
    low-ends k = record {
      distance = ends g P.good (from w s) (from w (s + l.vertices)) h t k L.run;
      queued = L.run.lowered;
      once = L.run.once;
      lowered = L.run.counted;
      kept = L.kept;
    }
