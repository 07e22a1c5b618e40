-- Laws of where levels lie: parts in their order, in a unit of room, further up, or of smaller sizes; and of what is written there between the
-- stages. Assumes nothing.
use Prim.Native.Nat.{ℕ, zero, suc, ◌+◌, ◌-◌, ◌≤◌, ◌<◌}
use mathlib.Core.Path.{◌≡◌, refl, sym, ap, ◌∙◌}
use mathlib.Core.List.{List, [], ◌∷◌, map}
use native.Mathlib.Omega.{arith}
use native.Mathlib.Nat.{not-suc-le-zero, le_of_suc-le-suc}
use borrow.Author.Tests.{eqb-true, eqb-false}
use lib.Dec.{eqb}
use lib.ListN.{length, set, length-map}
use lib.Seq.{ext_get_or, get_or-set_same, get_or-set_other}
use Rattle.links.specs.Lists.{at}
use Rattle.links.specs.Parts.{part, Kept}
use Rattle.links.specs.Graph.{row}
use Rattle.stages.specs.Level.{offsets_at, neighbors_at, rows_at, weights_at, group_at, owners_at, Laid, Ready, level_at}
use Rattle.stages.specs.declared.level.HierarchyLevel.{HierarchyLevel}
use Rattle.links.proofs.ListLaws.{split}
use Rattle.links.proofs.RowLaws.{all-place, row_is, offsets-fit}
use Rattle.links.proofs.PartLaws.{length_part, get_or-part, part-part, kept_set, kept-part-before}
use Rattle.multilevel.specs.Room.{unit_of, Stacked, TakenOver}
use Rattle.stages.proofs.LevelLaws.{count-vertices, length-neighbors}

-- ---- parts in their order

pub laid-at : (n m base : ℕ) → Laid (level_at n m base) (base + unit_of n m)
laid-at n m base = record { offsets-in = omega arith; neighbors-in = omega arith; weights-in = omega arith; map-in = omega arith; owners-in = omega arith }

-- ---- a level below what is written

pub record SameLevel (w w₀ : List ℕ) (l : HierarchyLevel) : Type 0 where
  pub offsets-same : offsets_at w l ≡ offsets_at w₀ l
  pub neighbors-same : neighbors_at w l ≡ neighbors_at w₀ l
  pub weights-same : weights_at w l ≡ weights_at w₀ l
  pub group-same : group_at w l ≡ group_at w₀ l
  pub owners-same : owners_at w l ≡ owners_at w₀ l

module _ (w w₀ : List ℕ) (a e : ℕ) (k : Kept a e w w₀) (l : HierarchyLevel) (end : ℕ) (h : end ≤ a) where
  pub same-level : Laid l end → SameLevel w w₀ l
  same-level d =
      let below : (b f : ℕ) → f ≤ a → part w b f ≡ part w₀ b f = kept-part-before a e w w₀ k in
      record {
        offsets-same = below l.offsets (l.offsets + (l.vertices + 1)) (omega (arith, d.offsets-in, d.neighbors-in, d.weights-in, d.map-in, d.owners-in));
        neighbors-same = below l.neighbors (l.neighbors + l.entries) (omega (arith, d.neighbors-in, d.weights-in, d.map-in, d.owners-in));
        weights-same = below l.weights (l.weights + l.vertices) (omega (arith, d.weights-in, d.map-in, d.owners-in));
        group-same = below l.fine_to_coarse (l.fine_to_coarse + l.vertices) (omega (arith, d.map-in, d.owners-in));
        owners-same = below l.owners (l.owners + l.vertices) (omega (arith, d.owners-in));
      }

-- ---- what is read of a level that is ready

module _ (w : List ℕ) (l : HierarchyLevel) (end : ℕ) (r : Ready w l end) where
  -- the offset of v, and the owner
  pub offset-lies : (v : ℕ) → v ≤ l.vertices → at w (l.offsets + v) ≡ at (offsets_at w l) v
  offset-lies v h = sym (get_or-part w l.offsets (l.offsets + (l.vertices + 1)) v (omega arith))

  pub owner-lies : (v : ℕ) → v < l.vertices → at w (l.owners + v) ≡ at (owners_at w l) v
  owner-lies v h = sym (get_or-part w l.owners (l.owners + l.vertices) v (omega arith))

  pub offset-in : (v : ℕ) → v ≤ l.vertices → at w (l.offsets + v) ≤ l.entries
  offset-in v h =
      omega (arith, offset-lies v h, offsets-fit (offsets_at w l) (neighbors_at w l) r.lists v (rw (count-vertices r) h), length-neighbors r)

  pub offset-rises : (v : ℕ) → v < l.vertices → at w (l.offsets + v) ≤ at w (l.offsets + (v + 1))
  offset-rises v h = rw (offset-lies v (omega arith), offset-lies (v + 1) (omega arith)) (r.lists.rises v (rw (count-vertices r) h))

  -- the row of v, as it lies in the work slice
  pub row_lies
      : (v : ℕ)
      → v < l.vertices
      → part w (l.neighbors + at w (l.offsets + v)) (l.neighbors + at w (l.offsets + (v + 1))) ≡ row (rows_at w l) v
  row_lies v h =
      let b = l.neighbors in
      let o = offsets_at w l in
      let fits : at o (v + 1) ≤ b + l.entries - b =
      omega (arith, offsets-fit o (neighbors_at w l) r.lists (v + 1) (rw (count-vertices r) (omega arith)), length-neighbors r) in
      rw (offset-lies v (omega arith), offset-lies (v + 1) (omega arith))
      (sym (part-part w b (b + l.entries) (at o v) (at o (v + 1)) fits)
      ∙ sym (row_is o (neighbors_at w l) r.lists v (rw (count-vertices r) h)))

-- ---- taking over

-- the first v owners are taken over
pub record Taking (w₀ : List ℕ) (n group own from : ℕ) (w : List ℕ) (v : ℕ) : Type 0 where
  pub frame : Kept own (own + n) w w₀
  pub passed : (i : ℕ) → i < v → at w (own + i) ≡ at w₀ (from + at w₀ (group + i))

pub at_map : (f : ℕ → ℕ) (xs : List ℕ) (i : ℕ) → i < length xs → at (map f xs) i ≡ f (at xs i)
at_map f [] i h = absurd (not-suc-le-zero h)
at_map f (x ∷ xs) zero h = refl
at_map f (x ∷ xs) (suc i) h = at_map f xs i (le_of_suc-le-suc h)

module _ (w₀ : List ℕ) (l coarse : HierarchyLevel) (s : Stacked w₀ l coarse) where
  -- a vertex's group is a vertex of the coarser level
  pub group-in : (v : ℕ) → v < l.vertices → at w₀ (l.fine_to_coarse + v) < coarse.vertices
  group-in v h =
      let a = l.fine_to_coarse in
      let e = get_or-part w₀ a (a + l.vertices) v (omega arith) in
      let n : length (group_at w₀ l) ≡ l.vertices = length_part w₀ a (a + l.vertices) (omega arith) (omega (arith, s.map-in, s.above, s.inside)) ∙ omega arith in
      rw e at (all-place (λ g. g < coarse.vertices) (group_at w₀ l) v s.groups (rw n h))

  module _ (w : List ℕ) (v : ℕ) (t : Taking w₀ l.vertices l.fine_to_coarse l.owners coarse.owners w v) where
    -- what is read of v
    pub group-read : v < l.vertices → at w (l.fine_to_coarse + v) ≡ at w₀ (l.fine_to_coarse + v)
    group-read h = t.frame.below (l.fine_to_coarse + v) (omega (arith, s.map-in))

    pub taking-more
        : v < l.vertices
        → Taking w₀ l.vertices l.fine_to_coarse l.owners coarse.owners (set w (l.owners + v) (at w (coarse.owners + at w (l.fine_to_coarse + v)))) (v + 1)
    taking-more h =
        let own = l.owners in
        let g = at w (l.fine_to_coarse + v) in
        let x = at w (coarse.owners + g) in
        let same : x ≡ at w₀ (coarse.owners + at w₀ (l.fine_to_coarse + v)) =
        t.frame.beyond (coarse.owners + g) (omega (arith, s.above)) ∙ ap (λ (j : ℕ). at w₀ (coarse.owners + j)) (group-read h) in
        record {
          frame = kept_set own (own + l.vertices) w w₀ (own + v) x t.frame (omega arith) (omega arith);
          passed = λ i m. split (eqb i v)
              (λ p. let e : i ≡ v = eqb-true i v p in
              rw e (get_or-set_same w (own + v) x 0 (omega (arith, t.frame.same_length, s.above, s.inside)) ∙ same))
              (λ p. let d = eqb-false i v p in
              get_or-set_other w (own + v) (own + i) x 0 (λ q. d (omega arith)) ∙ t.passed i (omega arith));
        }

    pub taking-all : l.vertices ≤ v → TakenOver w₀ w l coarse
    taking-all h =
        let n = l.vertices in
        let a = l.fine_to_coarse in
        let own = l.owners in
        let sized : (u : List ℕ) (b : ℕ) → b + n ≤ length u → length (part u b (b + n)) ≡ n = λ u b k. length_part u b (b + n) (omega arith) k ∙ omega arith in
        let owns = sized w own (omega (arith, t.frame.same_length, s.above, s.inside)) in
        let groups = sized w₀ a (omega (arith, s.map-in, s.above, s.inside)) in
        record {
          owners = ext_get_or 0 (owners_at w l) (map (at (owners_at w₀ coarse)) (group_at w₀ l)) (owns ∙ sym (length-map (group_at w₀ l) (at (owners_at w₀ coarse)) ∙ groups))
              (λ i k.
              let m : i < n = rw owns at k in
              let q = at w₀ (a + i) in
              let r : q < coarse.vertices = group-in i m in
              get_or-part w own (own + n) i (omega arith)
              ∙ t.passed i (omega arith)
              ∙ sym (get_or-part w₀ coarse.owners (coarse.owners + coarse.vertices) q (omega arith))
              ∙ ap (at (owners_at w₀ coarse)) (sym (get_or-part w₀ a (a + n) i (omega arith)))
              ∙ sym (at_map (at (owners_at w₀ coarse)) (group_at w₀ l) i (rw groups m)));
          frame = t.frame;
        }
