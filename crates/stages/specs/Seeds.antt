-- Rule 4: seeds. Assumes nothing.
use Rattle.std.specs.Prelude.{ℕ, zero, suc, ◌≤◌, ◌<◌, ◌≡◌, Bool, true, not, ◌&&◌, cond, List, [], ◌∷◌, ◌++◌, map, length, ltb, eqb}
use Rattle.std.proofs.Math.Option.{get_or}
use Rattle.links.specs.Lists.{at, unassigned, filter, any, best, elem, above}
use Rattle.links.specs.Graph.{row, vertices, degree}

-- a vertex without a distance that has a neighbor at distance d is at distance d + 1
unfoldable pub spread : List (List ℕ) → ℕ → List ℕ → List ℕ
spread rows d distance =
    map (λ v. cond (eqb (at distance v) unassigned && any (λ u. eqb (at distance u) d) (row rows v)) (suc d) (at distance v)) (vertices rows)

unfoldable pub spread_from : ℕ → List (List ℕ) → ℕ → List ℕ → List ℕ
spread_from zero rows d distance = distance
spread_from (suc f) rows d distance = spread_from f rows (suc d) (spread rows d distance)

-- each vertex's "distance to the nearest seed so far": the least number of links, unassigned where it is unreachable
unfoldable pub distances : List (List ℕ) → List ℕ → List ℕ
distances rows seeds = spread_from (length rows) rows 0 (map (λ v. cond (elem v seeds) 0 unassigned) (vertices rows))

-- the plain sense of that word: the seeds alone are at 0, neighbors differ by at most 1, and each other vertex that is reached has a neighbor that
-- is nearer. `distances` has it, and nothing else has (proofs/DistanceLaws.antt)
pub record Distance (rows : List (List ℕ)) (seeds : List ℕ) (d : ℕ → ℕ) : Type 0 where
  pub most : (v : ℕ) → v < length rows → d v ≤ unassigned
  pub at-seeds : (v : ℕ) → v < length rows → elem v seeds ≡ true → d v ≡ 0
  pub seeds-only : (v : ℕ) → v < length rows → d v ≡ 0 → elem v seeds ≡ true
  pub near : (v : ℕ) → v < length rows → (w : ℕ) → elem w (row rows v) ≡ true → d w ≤ suc (d v)
  pub nearer : (v : ℕ) → v < length rows → 0 < d v → d v < unassigned → (u : ℕ) × (elem u (row rows v) ≡ true) × (d u < d v)

-- u before v: "unreachable before reachable, then greatest distance to the nearest seed so far, then highest degree, then lowest number";
-- unassigned is above every distance
unfoldable pub farther : List (List ℕ) → List ℕ → ℕ → ℕ → Bool
farther rows distance u v = above (at distance u) (at distance v) (ltb (degree rows v) (degree rows u))

-- with no seed yet every vertex is unreachable: "first, highest degree, then lowest number"
unfoldable pub next_seed : List (List ℕ) → List ℕ → ℕ
next_seed rows seeds = get_or (best (farther rows (distances rows seeds)) (filter (λ v. not (elem v seeds)) (vertices rows))) 0

unfoldable pub farthest_seeds : List (List ℕ) → ℕ → List ℕ
farthest_seeds rows zero = []
farthest_seeds rows (suc k) = let seeds = farthest_seeds rows k in seeds ++ (next_seed rows seeds ∷ [])
