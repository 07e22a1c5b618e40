-- A level's graph is its rows: row v is the list of v's neighbors. Owners and weights are lists with an entry for each vertex.
-- 01's turbine is a vertex here, its crew a rank. Assumes nothing.
use Rattle.std.specs.Prelude.{ℕ, ◌+◌, ◌-◌, ◌<◌, ◌≤◌, ◌≡◌, Bool, true, false, not, ◌&&◌, ◌||◌, cond, List, [], ◌∷◌, map, length, get_or, leb, ltb, eqb, Result}
use Rattle.links.specs.Lists.{at, All, filter, any, all, range, sum, elem, concat_map}
use Rattle.links.specs.Parts.{part}
use Rattle.links.specs.Refusals.{number_of}
use Rattle.links.specs.declared.refusal.Refusal.{Refusal}

abbrev pub row : List (List ℕ) → ℕ → List ℕ
row rows v = get_or rows v []

abbrev pub vertices : List (List ℕ) → List ℕ
vertices rows = range 0 (length rows)

abbrev pub degree : List (List ℕ) → ℕ → ℕ
degree rows v = length (row rows v)

-- ---- the lent lists

-- "n = length of offsets minus 1 (0 if that slice is empty)"
abbrev pub vertex_count : List ℕ → ℕ
vertex_count offsets = length offsets - 1

-- "11 for the first" (an index ≥ n), "else 4 for the second" (two offsets that fall or pass the slice's end), "else 0"
unfoldable pub neighbors_cause : List ℕ → List ℕ → ℕ → ℕ
neighbors_cause offsets neighbors v =
    cond (leb (vertex_count offsets) v) 11
    (cond (leb (at offsets v) (at offsets (v + 1)) && leb (at offsets (v + 1)) (length neighbors)) 0 4)

-- "the neighbours of one turbine are handed out as a part of the lent neighbour slice"; either cause gives "an empty part"
unfoldable pub neighbors_of : List ℕ → List ℕ → ℕ → List ℕ
neighbors_of offsets neighbors v =
    cond (eqb (neighbors_cause offsets neighbors v) 0) (part neighbors (at offsets v) (at offsets (v + 1))) []

unfoldable pub rows_of : List ℕ → List ℕ → List (List ℕ)
rows_of offsets neighbors = map (neighbors_of offsets neighbors) (range 0 (vertex_count offsets))

abbrev pub strictly_rising : List ℕ → Bool
strictly_rising [] = true
strictly_rising (x ∷ xs) = let r = strictly_rising xs in cond (all (ltb x) xs) r false

abbrev pub never_falling : List ℕ → Bool
never_falling [] = true
never_falling (x ∷ xs) = let r = never_falling xs in cond (all (leb x) xs) r false

-- "offsets empty, not from 0, falling, or last ≠ m"
unfoldable pub bad_offsets : List ℕ → ℕ → Bool
bad_offsets offsets m =
    eqb (length offsets) 0 || not (eqb (at offsets 0) 0) || not (never_falling offsets) || not (eqb (at offsets (vertex_count offsets)) m)

-- a row that is sorted, without repeat or self, below n, and whose neighbors name its vertex too
unfoldable pub good_row : List (List ℕ) → ℕ → Bool
good_row rows v = strictly_rising (row rows v) && all (λ u. ltb u (length rows) && not (eqb u v) && elem v (row rows u)) (row rows v)

-- cause 4: "offsets empty, not from 0, falling, or last ≠ m; list unsorted, repeated, self, ≥ n, not symmetric"
unfoldable pub bad_lists : List ℕ → List ℕ → Bool
bad_lists offsets neighbors =
    let rows = rows_of offsets neighbors in
    bad_offsets offsets (length neighbors) || not (all (good_row rows) (vertices rows))

unfoldable pub lists_cause : List ℕ → List ℕ → ℕ
lists_cause offsets neighbors = cond (bad_lists offsets neighbors) 4 0

-- the site's tests where k and L play no part: "3 (n and m only) and 4"
unfoldable pub site_cause : List ℕ → List ℕ → ℕ
site_cause offsets neighbors = cond (ltb 16384 (vertex_count offsets) || ltb 131072 (length neighbors)) 3 (lists_cause offsets neighbors)

-- the two slices that hold given rows: where each row starts, from a on, and the last one's end; and the rows one after the other
abbrev pub offsets_from : ℕ → List (List ℕ) → List ℕ
offsets_from a [] = a ∷ []
offsets_from a (r ∷ rs) = a ∷ offsets_from (a + length r) rs

abbrev pub packed : List (List ℕ) → List ℕ
packed rows = concat_map (λ r. r) rows

-- what a level's rows are, on the site's own lists by cause 4's test and on a coarser level by rule 3: the stages' premise
pub record Sound (rows : List (List ℕ)) : Type 0 where
  pub below : (v : ℕ) → v < length rows → All (λ u. u < length rows) (row rows v)
  pub rises : (v : ℕ) → v < length rows → strictly_rising (row rows v) ≡ true
  pub selfless : (v : ℕ) → v < length rows → elem v (row rows v) ≡ false
  pub symmetric : (u v : ℕ) → u < length rows → v < length rows → elem v (row rows u) ≡ elem u (row rows v)

-- and what the two slices are that hold such rows
pub record SoundLists (offsets neighbors : List ℕ) : Type 0 where
  pub some : 1 ≤ length offsets
  pub first : at offsets 0 ≡ 0
  pub rises : (v : ℕ) → v < vertex_count offsets → at offsets v ≤ at offsets (v + 1)
  pub last : at offsets (vertex_count offsets) ≡ length neighbors
  pub sound : Sound (rows_of offsets neighbors)

-- what the list test answers, and what an answer without a refusal is worth
pub record ListsTested (offsets neighbors : List ℕ) (answer : Result (Unit {0}) Refusal) : Type 0 where
  pub cause : number_of answer ≡ lists_cause offsets neighbors
  pub sound : number_of answer ≡ 0 → SoundLists offsets neighbors

-- ---- owners

-- sound lists within the limits, and an owner for each vertex
pub record OwnedLists (offsets neighbors owners : List ℕ) : Type 0 where
  pub lists : SoundLists offsets neighbors
  pub sized : length owners ≡ vertex_count offsets
  pub few : length owners ≤ 16384
  pub short : length neighbors ≤ 131072

-- how many of a list's vertices rank r owns
unfoldable pub links_in : List ℕ → List ℕ → ℕ → ℕ
links_in us owners r = length (filter (λ u. eqb (at owners u) r) us)

-- how many of v's neighbors rank r owns
abbrev pub links_to : List (List ℕ) → List ℕ → ℕ → ℕ → ℕ
links_to rows owners v r = links_in (row rows v) owners r

-- a rank's load: the weights of what it owns
unfoldable pub load : List ℕ → List ℕ → ℕ → ℕ
load [] owners r = 0
load (w ∷ ws) [] r = 0
load (w ∷ ws) (o ∷ owners) r = cond (eqb o r) w 0 + load ws owners r

-- how many vertices a rank owns
unfoldable pub owned : List ℕ → ℕ → ℕ
owned owners r = length (filter (eqb r) owners)

-- a level's linked pairs, each once: a vertex and a neighbor of higher number
unfoldable pub links : List (List ℕ) → List (ℕ × ℕ)
links rows = concat_map (λ v. map (λ u. (v, u)) (filter (ltb v) (row rows v))) (vertices rows)

-- a pair with two owners
abbrev pub is_cut : List ℕ → ℕ × ℕ → Bool
is_cut owners l = not (eqb (at owners l.0) (at owners l.1))

-- rule 6: "a level's cut links are its linked pairs with two owners, each counted once and unweighted"
unfoldable pub links_cut : List (List ℕ) → List ℕ → ℕ
links_cut rows owners = length (filter (is_cut owners) (links rows))

-- how many of a row another rank than home owns
unfoldable pub foreign_in : List ℕ → List ℕ → ℕ → ℕ
foreign_in us owners home = length (filter (λ u. not (eqb (at owners u) home)) us)

-- rule 8: "cut = neighbour entries joining two crews"
unfoldable pub cut_entries : List (List ℕ) → List ℕ → ℕ
cut_entries rows owners = sum (map (λ v. length (filter (λ u. not (eqb (at owners u) (at owners v))) (row rows v))) (vertices rows))

-- rule 8: "volume = for each crew its distinct foreign neighbours, summed": the vertices that the rank does not own and that stand in a row of one
-- that it owns
unfoldable pub foreign_neighbors : List (List ℕ) → List ℕ → ℕ → List ℕ
foreign_neighbors rows owners r =
    filter (λ u. not (eqb (at owners u) r) && any (λ v. eqb (at owners v) r && elem u (row rows v)) (vertices rows)) (vertices rows)

unfoldable pub volume : List (List ℕ) → List ℕ → ℕ → ℕ
volume rows owners k = sum (map (λ r. length (foreign_neighbors rows owners r)) (range 0 k))
