-- The seeds stage over the work slice: the search that lowers the distances from a new seed, and what each function asks and leaves. The level's parts
-- lie below `scratch`; from there on lie n distances, n entries of a queue, and the seeds. Assumes nothing.
use Rattle.std.specs.Prelude.{ℕ, zero, suc, ◌+◌, ◌-◌, ◌*◌, ◌≤◌, ◌<◌, ◌≡◌, Bool, true, cond, not, List, [], ◌∷◌, ◌++◌, ◌⊎◌, length, set, ltb, eqb, Option, Some, None}
use Rattle.std.proofs.Math.Option.{get_or}
use Rattle.links.specs.Lists.{at, unassigned, elem, above, best, filter, range}
use Rattle.links.specs.Parts.{part, Kept}
use Rattle.links.specs.Graph.{row, degree, Sound}
use Rattle.stages.specs.Level.{Ready, rows_at}
use Rattle.stages.specs.Seeds.{distances, farthest_seeds, Distance}
use Rattle.stages.specs.declared.level.HierarchyLevel.{HierarchyLevel}

-- how many numbers below n pass
unfoldable pub passing : (ℕ → Bool) → ℕ → ℕ
passing p zero = 0
passing p (suc n) = cond (p n) 1 0 + passing p n

-- ---- the search, on numbers

-- no neighbor of v is more than one further than v
abbrev pub Near : List (List ℕ) → (ℕ → ℕ) → ℕ → Type 0
Near rows d v = (w : ℕ) → elem w (row rows v) ≡ true → d w ≤ suc (d v)

-- a neighbor of v that is nearer
abbrev pub Nearer : List (List ℕ) → (ℕ → ℕ) → ℕ → Type 0
Nearer rows d v = (u : ℕ) × (elem u (row rows v) ≡ true) × (d u < d v)

-- what a search goes by: the rows, the seeds so far with their distances, and the seed that is added
pub record Search : Type 0 where
  pub rows : List (List ℕ)
  pub seeds : List ℕ
  pub start : ℕ → ℕ
  pub new : ℕ

pub record Searchable (g : Search) : Type 0 where
  pub sound : Sound g.rows
  pub few : length g.rows < unassigned
  pub kept : Distance g.rows g.seeds g.start
  pub inside : g.new < length g.rows
  pub fresh : 0 < g.start g.new

-- the search under way: d are the distances, q the queue, of which those from h up to t wait; t is the number of distances lowered so far
pub record Searching (g : Search) (d q : ℕ → ℕ) (h t : ℕ) : Type 0 where
  pub under : (v : ℕ) → v < length g.rows → d v ≤ g.start v
  pub at_new : d g.new ≡ 0
  pub seeds-only : (v : ℕ) → v < length g.rows → d v ≡ 0 → elem v (g.seeds ++ (g.new ∷ [])) ≡ true
  pub nearer : (v : ℕ) → v < length g.rows → 0 < d v → d v < unassigned → Nearer g.rows d v
  pub inside : (i : ℕ) → i < t → q i < length g.rows
  pub lowered : (i : ℕ) → i < t → d (q i) < g.start (q i)
  pub once : (i j : ℕ) → i < j → j < t → q i ≡ q j → ⊥
  pub rises : (i j : ℕ) → i ≤ j → j < t → d (q i) ≤ d (q j)
  pub front : h < t → (v : ℕ) → v < length g.rows → d v < g.start v → d v ≤ suc (d (q h))
  pub counted : passing (λ v. ltb (d v) (g.start v)) (length g.rows) ≡ t
  pub near : (v : ℕ) → v < length g.rows → ((i : ℕ) × (h ≤ i) × (i < t) × (q i ≡ v)) ⊎ Near g.rows d v

-- the search at the j-th neighbor of u, which is q h
pub record Scanning (g : Search) (d q : ℕ → ℕ) (h t u j : ℕ) : Type 0 where
  pub run : Searching g d q h t
  pub more : h < t
  pub this : q h ≡ u
  pub done : (i : ℕ) → i < j → d (at (row g.rows u) i) ≤ suc (d u)

-- ---- the search, in the work slice

-- the i-th of the part that starts at a
abbrev pub from : List ℕ → ℕ → ℕ → ℕ
from w a i = at w (a + i)

-- the rows as the level's offsets and neighbors have them, and room for the distances and the queue
pub record Lies (rows : List (List ℕ)) (w : List ℕ) (l : HierarchyLevel) (scratch : ℕ) : Type 0 where
  pub sound : Sound rows
  pub size : length rows ≡ l.vertices
  pub few : length rows < unassigned
  pub offsets-in : l.offsets + l.vertices < scratch
  pub step : (v : ℕ) → v < length rows → from w l.offsets v + degree rows v ≡ from w l.offsets (v + 1)
  pub entry : (v i : ℕ) → v < length rows → i < degree rows v → from w l.neighbors (from w l.offsets v + i) ≡ at (row rows v) i
  pub entries-in : (v : ℕ) → v < length rows → l.neighbors + from w l.offsets (v + 1) ≤ scratch
  pub room : scratch + 2 * l.vertices ≤ length w

-- the part of the distances and the queue
abbrev pub SearchKept : HierarchyLevel → ℕ → List ℕ → List ℕ → Type 0
SearchKept l scratch w w₀ = Kept scratch (scratch + 2 * l.vertices) w w₀

abbrev pub queue_at : HierarchyLevel → ℕ → ℕ
queue_at l scratch = scratch + l.vertices

-- the neighbor x is more than one further than d
abbrev pub is_farther : List ℕ → ℕ → ℕ → ℕ → Bool
is_farther w scratch x d = ltb (d + 1) (from w scratch x)

pub record Relaxing (w : List ℕ) (l : HierarchyLevel) (scratch x d t : ℕ) : Type 0 where
  pub inside : scratch + x < length w
  pub low : d < unassigned
  pub queue-in : queue_at l scratch ≤ length w
  pub room : d + 1 < from w scratch x → queue_at l scratch + t < length w

-- what `relax` leaves: x at distance d + 1, and x at the queue's end
unfoldable pub relaxed : List ℕ → HierarchyLevel → ℕ → ℕ → ℕ → ℕ → List ℕ
relaxed w l scratch x d t = cond (is_farther w scratch x d) (set (set w (scratch + x) (d + 1)) (queue_at l scratch + t) x) w

unfoldable pub tail_after : List ℕ → ℕ → ℕ → ℕ → ℕ → ℕ
tail_after w scratch x d t = cond (is_farther w scratch x d) (t + 1) t

pub record Relaxed (w w' : List ℕ) (l : HierarchyLevel) (scratch x d t r : ℕ) : Type 0 where
  pub tail : r ≡ tail_after w scratch x d t
  pub after : w' ≡ relaxed w l scratch x d t

pub record Scannable (g : Search) (h : ℕ) (w : List ℕ) (l : HierarchyLevel) (scratch u t : ℕ) : Type 0 where
  pub good : Searchable g
  pub lies : Lies g.rows w l scratch
  pub scan : Scanning g (from w scratch) (from w (queue_at l scratch)) h t u 0

-- j neighbors of u were met
pub record ScannedTo (g : Search) (h : ℕ) (w₀ w : List ℕ) (l : HierarchyLevel) (scratch u t j : ℕ) : Type 0 where
  pub scan : Scanning g (from w scratch) (from w (queue_at l scratch)) h t u j
  pub kept : SearchKept l scratch w w₀
  pub same : from w scratch u ≡ from w₀ scratch u

pub record Scanned (g : Search) (h : ℕ) (w₀ w : List ℕ) (l : HierarchyLevel) (scratch t : ℕ) : Type 0 where
  pub run : Searching g (from w scratch) (from w (queue_at l scratch)) (suc h) t
  pub kept : SearchKept l scratch w w₀

pub record Lowerable (g : Search) (w : List ℕ) (l : HierarchyLevel) (scratch s : ℕ) : Type 0 where
  pub good : Searchable g
  pub lies : Lies g.rows w l scratch
  pub new : g.new ≡ s
  pub start : (v : ℕ) → v < length g.rows → from w scratch v ≡ g.start v

-- those from h up to t wait
pub record LoweredTo (g : Search) (w₀ w : List ℕ) (l : HierarchyLevel) (scratch h t : ℕ) : Type 0 where
  pub run : Searching g (from w scratch) (from w (queue_at l scratch)) h t
  pub kept : SearchKept l scratch w w₀

-- the distances with the new seed. The first r of the queue are what the search went on from: each was lowered, none stands there twice, and r is the
-- number of all that were lowered
pub record Lowered (g : Search) (w₀ w : List ℕ) (l : HierarchyLevel) (scratch r : ℕ) : Type 0 where
  pub distance : Distance g.rows (g.seeds ++ (g.new ∷ [])) (from w scratch)
  pub queued : (i : ℕ) → i < r → from w scratch (from w (queue_at l scratch) i) < g.start (from w (queue_at l scratch) i)
  pub once : (i j : ℕ) → i < j → j < r → from w (queue_at l scratch) i ≡ from w (queue_at l scratch) j → ⊥
  pub lowered : passing (λ v. ltb (from w scratch v) (g.start v)) (length g.rows) ≡ r
  pub kept : SearchKept l scratch w w₀

-- ---- the next seed, from distances and degrees

abbrev pub ahead : (ℕ → ℕ) → (ℕ → ℕ) → ℕ → ℕ → Bool
ahead d deg u v = above (d u) (d v) (ltb (deg v) (deg u))

-- the seeds alone are at 0
abbrev pub unseeded : (ℕ → ℕ) → ℕ → Bool
unseeded d v = not (eqb (d v) 0)

-- the better of the best so far and i, if i is no seed
unfoldable pub farther_of : (ℕ → ℕ) → (ℕ → ℕ) → Option ℕ → ℕ → Option ℕ
farther_of d deg None i = cond (unseeded d i) (Some i) None
farther_of d deg (Some b) i = cond (unseeded d i) (Some (cond (ahead d deg i b) i b)) (Some b)

-- the best so far, none while it is a seed
abbrev pub standing : (ℕ → ℕ) → ℕ → Option ℕ
standing d b = cond (unseeded d b) (Some b) None

-- the better of two, the first one the best so far
unfoldable pub better_of : (ℕ → ℕ) → (ℕ → ℕ) → ℕ → ℕ → ℕ
better_of d deg b i = cond (unseeded d i) (cond (ahead d deg i b) i b) b

unfoldable pub farthest : (ℕ → ℕ) → (ℕ → ℕ) → ℕ → ℕ
farthest d deg n = get_or (best (ahead d deg) (filter (unseeded d) (range 0 n))) 0

abbrev pub degree_at : List ℕ → HierarchyLevel → ℕ → ℕ
degree_at w l v = from w l.offsets (v + 1) - from w l.offsets v

-- offsets that do not fall, in range
pub record Choosing (w : List ℕ) (l : HierarchyLevel) (scratch : ℕ) : Type 0 where
  pub few : l.vertices < unassigned
  pub offsets-in : l.offsets + l.vertices < length w
  pub distances-in : scratch + l.vertices ≤ length w
  pub grows : (v : ℕ) → v < l.vertices → from w l.offsets v ≤ from w l.offsets (v + 1)

-- ---- all seeds

-- where the seeds lie, and where they end
abbrev pub seeds_at : HierarchyLevel → ℕ → ℕ
seeds_at l scratch = scratch + 2 * l.vertices

-- what `farthest_seeds` asks: a level below scratch, no more seeds than vertices, and room
pub record Seedable (w : List ℕ) (l : HierarchyLevel) (scratch k : ℕ) : Type 0 where
  pub level : Ready w l scratch
  pub enough : k ≤ l.vertices
  pub room : seeds_at l scratch + k ≤ length w

-- r seeds stand
pub record SeededTo (rows : List (List ℕ)) (w₀ w : List ℕ) (l : HierarchyLevel) (scratch k r : ℕ) : Type 0 where
  pub chosen : part w (seeds_at l scratch) (seeds_at l scratch + r) ≡ farthest_seeds rows r
  pub distance : (v : ℕ) → v < length rows → from w scratch v ≡ at (distances rows (farthest_seeds rows r)) v
  pub kept : Kept scratch (seeds_at l scratch + k) w w₀

-- rule 4: the seeds, and each vertex's distance to the nearest of them
pub record Seeded (w₀ w : List ℕ) (l : HierarchyLevel) (scratch k : ℕ) : Type 0 where
  pub chosen : part w (seeds_at l scratch) (seeds_at l scratch + k) ≡ farthest_seeds (rows_at w₀ l) k
  pub distance : part w scratch (scratch + l.vertices) ≡ distances (rows_at w₀ l) (farthest_seeds (rows_at w₀ l) k)
  pub kept : Kept scratch (seeds_at l scratch + k) w w₀
