-- Laws of packed rows: the two slices that hold given rows are read back as these rows, and are sound lists if the rows are sound. Assumes nothing.
use Prim.Native.Nat.{ℕ, zero, suc, ◌+◌, ◌-◌, ◌≤◌, ◌<◌}
use mathlib.Core.Path.{◌≡◌, refl, ap, ◌∙◌}
use mathlib.Core.Bool.{true, false}
use mathlib.Core.List.{List, [], ◌∷◌, ◌++◌, append-nil}
use native.Mathlib.Omega.{arith}
use native.Mathlib.Nat.{zero-add, not-suc-le-zero, le_of_suc-le-suc}
use native.Mathlib.Numerals.{add-one}
use lib.ListN.{length, take, length-append}
use lib.Seq.{ext_get_or, take_all, take-append_seam, drop-append-add}
use lib.Dec.{leb}
use borrow.Author.Tests.{le-leb, lt-leb}
use Rattle.links.specs.Lists.{at}
use Rattle.links.specs.Parts.{part}
use Rattle.links.specs.Graph.{row, rows_of, vertex_count, neighbors_of, neighbors_cause, offsets_from, packed, Sound, SoundLists}
use Rattle.links.proofs.RowLaws.{length-rows, row-query}

pub length-offsets : (a : ℕ) (rs : List (List ℕ)) → length (offsets_from a rs) ≡ suc (length rs)
length-offsets a [] = refl
length-offsets a (r ∷ rs) = ap suc (length-offsets (a + length r) rs)

-- how many entries the first i rows have
abbrev pub up_to : List (List ℕ) → ℕ → ℕ
up_to rs i = length (packed (take i rs))

pub offset_at : (a : ℕ) (rs : List (List ℕ)) (i : ℕ) → i ≤ length rs → at (offsets_from a rs) i ≡ a + up_to rs i
offset_at a [] zero h = omega arith
offset_at a [] (suc i) h = absurd (not-suc-le-zero h)
offset_at a (r ∷ rs) zero h = omega arith
offset_at a (r ∷ rs) (suc i) h =
    offset_at (a + length r) rs i (le_of_suc-le-suc h) ∙ omega (arith, length-append r (packed (take i rs)))

pub up_to-suc : (rs : List (List ℕ)) (i : ℕ) → i < length rs → up_to rs (suc i) ≡ up_to rs i + length (row rs i)
up_to-suc [] i h = absurd (not-suc-le-zero h)
up_to-suc (r ∷ rs) zero h = rw append-nil (omega arith)
up_to-suc (r ∷ rs) (suc i) h =
    omega (arith, length-append r (packed (take (suc i) rs)), length-append r (packed (take i rs)), up_to-suc rs i (le_of_suc-le-suc h))

pub up_to-most : (rs : List (List ℕ)) (i : ℕ) → up_to rs i ≤ length (packed rs)
up_to-most rs zero = omega arith
up_to-most [] (suc i) = omega arith
up_to-most (r ∷ rs) (suc i) = omega (arith, length-append r (packed (take i rs)), length-append r (packed rs), up_to-most rs i)

-- row v, cut out of the rows one after the other
pub part-packed : (rs : List (List ℕ)) (v : ℕ) → v < length rs → part (packed rs) (up_to rs v) (up_to rs (suc v)) ≡ row rs v
part-packed [] v h = absurd (not-suc-le-zero h)
part-packed (r ∷ rs) zero h = let e : length r - 0 ≡ length r = omega arith in rw (append-nil, e) (take-append_seam r (packed rs))
part-packed (r ∷ rs) (suc v) h =
    let p = packed (take v rs) in
    let q = packed (take (suc v) rs) in
    let e : length (r ++ q) - length (r ++ p) ≡ length q - length p = omega (arith, length-append r q, length-append r p) in
    rw (e, length-append r p, drop-append-add r (packed rs) (length p)) (part-packed rs v (le_of_suc-le-suc h))

module _ (rs : List (List ℕ)) where
  pub count-packed : vertex_count (offsets_from 0 rs) ≡ length rs
  count-packed = omega (arith, length-offsets 0 rs)

  module _ (v : ℕ) (h : v < length rs) where
    start : at (offsets_from 0 rs) v ≡ up_to rs v
    start = offset_at 0 rs v (omega arith) ∙ zero-add (up_to rs v)

    end : at (offsets_from 0 rs) (v + 1) ≡ up_to rs (suc v)
    end = rw add-one (offset_at 0 rs (suc v) (omega arith) ∙ zero-add (up_to rs (suc v)))

    pub rises-packed : at (offsets_from 0 rs) v ≤ at (offsets_from 0 rs) (v + 1)
    rises-packed = omega (arith, start, end, up_to-suc rs v h)

    pub query-packed : neighbors_of (offsets_from 0 rs) (packed rs) v ≡ row rs v
    unfolding neighbors_of neighbors_cause
    query-packed =
        let a : leb (vertex_count (offsets_from 0 rs)) v ≡ false = lt-leb (vertex_count (offsets_from 0 rs)) v (omega (arith, count-packed)) in
        let b : leb (at (offsets_from 0 rs) v) (at (offsets_from 0 rs) (v + 1)) ≡ true = le-leb (at (offsets_from 0 rs) v) (at (offsets_from 0 rs) (v + 1)) rises-packed in
        let c : leb (at (offsets_from 0 rs) (v + 1)) (length (packed rs)) ≡ true =
        le-leb (at (offsets_from 0 rs) (v + 1)) (length (packed rs)) (omega (arith, end, up_to-most rs (suc v))) in
        rw (a, b, c, start, end) (part-packed rs v h)

  -- read back
  pub rows-packed : rows_of (offsets_from 0 rs) (packed rs) ≡ rs
  rows-packed =
      let n : length (rows_of (offsets_from 0 rs) (packed rs)) ≡ length rs = length-rows (offsets_from 0 rs) (packed rs) ∙ count-packed in
      ext_get_or [] (rows_of (offsets_from 0 rs) (packed rs)) rs n
      (λ v h.
      let k : v < length rs = omega (arith, n) in
      row-query (offsets_from 0 rs) (packed rs) v (omega (arith, count-packed)) ∙ query-packed v k)

  pub sound-packed : Sound rs → SoundLists (offsets_from 0 rs) (packed rs)
  sound-packed s =
      record {
        some = omega (arith, length-offsets 0 rs);
        first = offset_at 0 rs 0 (omega arith) ∙ zero-add (up_to rs 0);
        rises = λ v h. rises-packed v (omega (arith, count-packed));
        last =
            ap (at (offsets_from 0 rs)) count-packed ∙ offset_at 0 rs (length rs) (omega arith) ∙ zero-add (up_to rs (length rs)) ∙ ap (λ (x : List (List ℕ)). length (packed x)) (take_all (length rs) rs (omega arith));
        sound = rw rows-packed s;
      }
