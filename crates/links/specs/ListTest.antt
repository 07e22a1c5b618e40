-- The list test makes two rounds over the rows: each row by itself, and then, since all are sorted, each row against the others'. Assumes nothing.
use Rattle.std.specs.Prelude.{ℕ, zero, suc, ◌+◌, ◌-◌, ◌/◌, ◌≡◌, Bool, true, false, not, ◌&&◌, cond, List, length, leb, ltb, eqb}
use Rattle.links.specs.Lists.{at, all, range, elem}
use Rattle.links.specs.Graph.{vertex_count, neighbors_of, strictly_rising}

-- the row of v among n vertices, by itself: sorted, without repeat or self, below n
unfoldable pub valid_row : ℕ → ℕ → List ℕ → Bool
valid_row n v row = strictly_rising row && all (λ u. ltb u n && not (eqb u v)) row

unfoldable pub valid_rows : List ℕ → List ℕ → Bool
valid_rows offsets neighbors =
    all (λ v. valid_row (vertex_count offsets) v (neighbors_of offsets neighbors v)) (range 0 (vertex_count offsets))

-- each neighbor of v names v too
unfoldable pub mirrored_row : List ℕ → List ℕ → ℕ → Bool
mirrored_row offsets neighbors v = all (λ u. elem v (neighbors_of offsets neighbors u)) (neighbors_of offsets neighbors v)

unfoldable pub mirrored_rows : List ℕ → List ℕ → Bool
mirrored_rows offsets neighbors = all (mirrored_row offsets neighbors) (range 0 (vertex_count offsets))

-- each row that the query hands out is sorted, without repeat
unfoldable pub Rising : List ℕ → List ℕ → Type 0
Rising offsets neighbors = (v : ℕ) → strictly_rising (neighbors_of offsets neighbors v) ≡ true

-- A search for x among the places from low up to high of a row: x is in the middle, or in that half of the rest where a rising row would have it. Each step halves at least, so n steps are enough for n places.
abbrev pub found_between : List ℕ → ℕ → ℕ → ℕ → ℕ → Bool
found_between row x zero low high = false
found_between row x (suc n) low high =
    let m = low + (high - low) / 2 in
    let later = found_between row x n (m + 1) high in
    let earlier = found_between row x n low m in
    cond (leb high low) false (cond (eqb (at row m) x) true (cond (ltb (at row m) x) later earlier))

-- whether it finds x in the whole row: in a rising row just where x is there (found-elem)
unfoldable pub found : List ℕ → ℕ → Bool
found row x = found_between row x (length row) 0 (length row)
