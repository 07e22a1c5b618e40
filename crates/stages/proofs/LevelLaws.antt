-- A level that is ready: how long its lists are, where its numbers and rows lie, and that it stays ready while what is stored lies above it. Assumes nothing.
use Prim.Native.Nat.{ℕ, ◌+◌, ◌-◌, ◌≤◌, ◌<◌}
use mathlib.Core.Path.{◌≡◌, ap, ◌∙◌}
use mathlib.Core.List.{List}
use native.Mathlib.Omega.{arith}
use lib.ListN.{length}
use Rattle.links.specs.Lists.{at, All}
use Rattle.links.specs.Parts.{part, Kept}
use Rattle.links.specs.Graph.{row, degree, vertex_count}
use Rattle.links.proofs.PartLaws.{length_part, get_or-part, part-part, kept-part-before}
use Rattle.links.proofs.RowLaws.{length-rows, row_is, length-row, row_at, row_below, offsets-fit, offsets-rise}
use Rattle.stages.specs.Level.{offsets_at, neighbors_at, rows_at, weights_at, group_at, owners_at, Laid, Ready, resized}
use Rattle.stages.specs.declared.level.HierarchyLevel.{HierarchyLevel}

module _ {w : List ℕ} {l : HierarchyLevel} {end : ℕ} (r : Ready w l end) where
  -- how long its lists are
  pub length-offsets : length (offsets_at w l) ≡ l.vertices + 1
  length-offsets = length_part w l.offsets (l.offsets + (l.vertices + 1)) (omega arith) (omega (arith, r.laid, r.inside)) ∙ omega arith

  pub length-neighbors : length (neighbors_at w l) ≡ l.entries
  length-neighbors = length_part w l.neighbors (l.neighbors + l.entries) (omega arith) (omega (arith, r.laid, r.inside)) ∙ omega arith

  pub length-weights : length (weights_at w l) ≡ l.vertices
  length-weights = length_part w l.weights (l.weights + l.vertices) (omega arith) (omega (arith, r.laid, r.inside)) ∙ omega arith

  pub length-group : length (group_at w l) ≡ l.vertices
  length-group = length_part w l.fine_to_coarse (l.fine_to_coarse + l.vertices) (omega arith) (omega (arith, r.laid, r.inside)) ∙ omega arith

  pub length-owners : length (owners_at w l) ≡ l.vertices
  length-owners = length_part w l.owners (l.owners + l.vertices) (omega arith) (omega (arith, r.laid, r.inside)) ∙ omega arith

  -- its vertices
  pub count-vertices : vertex_count (offsets_at w l) ≡ l.vertices
  count-vertices = omega (arith, length-offsets)

  pub all-vertices : length (rows_at w l) ≡ l.vertices
  all-vertices = length-rows (offsets_at w l) (neighbors_at w l) ∙ count-vertices

  -- where a number of a part lies
  pub offset-place : (v : ℕ) → v ≤ l.vertices → at (offsets_at w l) v ≡ at w (l.offsets + v)
  offset-place v h = get_or-part w l.offsets (l.offsets + (l.vertices + 1)) v (omega arith)

  pub owner-place : (v : ℕ) → v < l.vertices → at (owners_at w l) v ≡ at w (l.owners + v)
  owner-place v h = get_or-part w l.owners (l.owners + l.vertices) v (omega arith)

  -- the row of v
  module _ (v : ℕ) (h : v < l.vertices) where
    pub vertex-in : v < vertex_count (offsets_at w l)
    vertex-in = rw count-vertices h

    pub degree-is : degree (rows_at w l) v ≡ at (offsets_at w l) (v + 1) - at (offsets_at w l) v
    degree-is = length-row (offsets_at w l) (neighbors_at w l) r.lists v vertex-in

    pub degree-most : degree (rows_at w l) v ≤ l.entries
    degree-most =
        omega (arith, degree-is, length-neighbors, offsets-fit (offsets_at w l) (neighbors_at w l) r.lists (v + 1) (omega (arith, vertex-in)))

    -- neighbors are vertices
    pub neighbor-below : (i : ℕ) → i < degree (rows_at w l) v → at (row (rows_at w l) v) i < l.vertices
    neighbor-below i d = rw count-vertices at (row_below (offsets_at w l) (neighbors_at w l) r.lists v vertex-in i d)

    pub neighbors-below : All (λ u. u < l.vertices) (row (rows_at w l) v)
    neighbors-below = rw all-vertices at (r.lists.sound.below v (rw all-vertices h))

    abbrev from : ℕ
    from = at (offsets_at w l) v

    abbrev to : ℕ
    to = at (offsets_at w l) (v + 1)

    pub row-part : row (rows_at w l) v ≡ part (neighbors_at w l) from to
    row-part = row_is (offsets_at w l) (neighbors_at w l) r.lists v vertex-in

    pub row-rises : from ≤ to
    row-rises = offsets-rise (offsets_at w l) (neighbors_at w l) r.lists v (v + 1) (omega arith) (omega (arith, count-vertices))

    -- its two offsets in the slice
    pub degree_apart : degree (rows_at w l) v ≡ at w (l.offsets + (v + 1)) - at w (l.offsets + v)
    degree_apart = degree-is ∙ rw (offset-place v (omega arith), offset-place (v + 1) (omega arith))

    pub row_ends : to ≤ l.entries
    row_ends = omega (arith, offsets-fit (offsets_at w l) (neighbors_at w l) r.lists (v + 1) (omega (arith, count-vertices)), length-neighbors)

    -- the row is a part of the slice, between its two offsets there
    pub row_cut
        : (at w (l.offsets + v) ≤ at w (l.offsets + (v + 1)))
        × (l.neighbors + at w (l.offsets + (v + 1)) ≤ length w)
        × (row (rows_at w l) v ≡ part w (l.neighbors + at w (l.offsets + v)) (l.neighbors + at w (l.offsets + (v + 1))))
    row_cut =
        let p = offset-place v (omega arith) in
        let q = offset-place (v + 1) (omega arith) in (
          omega (arith, row-rises, p, q),
          omega (arith, row_ends, q, r.laid, r.inside),
          row-part ∙ part-part w l.neighbors (l.neighbors + l.entries) from to (omega (arith, row_ends)) ∙ rw (p, q),
        )

    pub entry-below : (i : ℕ) → from ≤ i → i < to → at (neighbors_at w l) i < l.vertices
    entry-below i a b =
        let n : i - from < length (row (rows_at w l) v) = rw (length-row (offsets_at w l) (neighbors_at w l) r.lists v vertex-in) (omega arith) in
        let e : from + (i - from) ≡ i = omega arith in
        let p : at (row (rows_at w l) v) (i - from) ≡ at (neighbors_at w l) i = row_at (offsets_at w l) (neighbors_at w l) r.lists
        v vertex-in (i - from) n ∙ ap (at (neighbors_at w l)) e in
        omega (arith, row_below (offsets_at w l) (neighbors_at w l) r.lists v vertex-in (i - from) n, count-vertices)

-- what is stored above the weights leaves the level
module _ {w w' : List ℕ} {l : HierarchyLevel} {end a e : ℕ} (r : Ready w l end) (k : Kept a e w' w) (h : l.weights + l.vertices ≤ a) where
  pub offsets-kept : offsets_at w' l ≡ offsets_at w l
  offsets-kept = kept-part-before a e w' w k l.offsets (l.offsets + (l.vertices + 1)) (omega (arith, r.laid))

  pub neighbors-kept : neighbors_at w' l ≡ neighbors_at w l
  neighbors-kept = kept-part-before a e w' w k l.neighbors (l.neighbors + l.entries) (omega (arith, r.laid))

  pub rows-kept : rows_at w' l ≡ rows_at w l
  rows-kept = rw (offsets-kept, neighbors-kept)

  pub weights-kept : weights_at w' l ≡ weights_at w l
  weights-kept = kept-part-before a e w' w k l.weights (l.weights + l.vertices) (omega (arith, r.laid))

  pub ready-kept : Ready w' l end
  ready-kept = record {
    laid = r.laid;
    inside = rw k.same_length r.inside;
    lists = rw (offsets-kept, neighbors-kept) r.lists;
    few = r.few;
    short = r.short;
    light = rw weights-kept r.light;
  }

-- what lies from the owners on lies there
pub beneath : {w : List ℕ} {l : HierarchyLevel} {end a : ℕ} → Ready w l end → l.owners ≤ a → l.weights + l.vertices ≤ a
beneath r h = omega (arith, r.laid)

-- what is stored beyond the level leaves its owners too
pub owners-kept : {w w' : List ℕ} {l : HierarchyLevel} {end a e : ℕ} → Ready w l end → Kept a e w' w → end ≤ a → owners_at w' l ≡ owners_at w l
owners-kept {w} {w'} {l} {end} {a} {e} r k h = kept-part-before a e w' w k l.owners (l.owners + l.vertices) (omega (arith, r.laid))

-- a level ends by any later place
pub laid_by : {l : HierarchyLevel} {end : ℕ} (later : ℕ) → Laid l end → end ≤ later → Laid l later
laid_by later d h = record {
  offsets-in = d.offsets-in;
  neighbors-in = d.neighbors-in;
  weights-in = d.weights-in;
  map-in = d.map-in;
  owners-in = omega (arith, d.owners-in);
}

pub ready_by : {w : List ℕ} {l : HierarchyLevel} {end : ℕ} (later : ℕ) → Ready w l end → end ≤ later → later ≤ length w → Ready w l later
ready_by later r h k = record {
  laid = laid_by later r.laid h;
  inside = k;
  lists = r.lists;
  few = r.few;
  short = r.short;
  light = r.light;
}

-- a smaller level at the same places
pub laid-resized : (l : HierarchyLevel) (end n m : ℕ) → Laid l end → n ≤ l.vertices → m ≤ l.entries → Laid (resized l n m) end
laid-resized l end n m laid h k = record {
  offsets-in = omega (arith, laid);
  neighbors-in = omega (arith, laid);
  weights-in = omega (arith, laid);
  map-in = omega (arith, laid);
  owners-in = omega (arith, laid);
}
