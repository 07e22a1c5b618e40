-- Frontiers in the work slice: a rank's frontier is a chain of the groups that it claimed, in the order of the claims, with a place in the first one's
-- row. Its candidates are the rows of these groups, from that place on. Assumes nothing.
use Rattle.std.specs.Prelude.{◌≡◌, ◌⊎◌, Bool, true, false, ◌&&◌, cond, List, [], ◌∷◌, ℕ, zero, suc, ◌+◌, ◌-◌, ◌≤◌, ◌<◌, ◌^◌, length, get_or, set, drop, eqb, ltb, leb, Option, Some, None}
use Rattle.links.specs.Lists.{at, unassigned, filter, elem, concat_map, sum, All}
use Rattle.links.specs.Parts.{part}
use Rattle.links.specs.Graph.{row, degree, load, vertex_count, SoundLists}
use Rattle.stages.specs.Level.{Laid, offsets_at, neighbors_at, rows_at, weights_at, owners_at}
use Rattle.stages.specs.Coarsen.{by_degree}
use Rattle.stages.specs.Growth.{Growing, Choice, passes, claims, restarts, unowned}
use Rattle.stages.specs.declared.growth.GrowthRoom.{GrowthRoom}
use Rattle.stages.specs.declared.growth.TurnKind.{TurnKind}
use Rattle.stages.specs.declared.growth.TurnKind.TheVariants.{Pass, Claim, Restart}

-- ---- chains

-- the n entries from h on
unfoldable pub cells : List ℕ → ℕ → ℕ → List ℕ
cells links h zero = []
cells links h (suc n) = h ∷ cells links (at links h) n

-- the candidates of the chain of n entries from h on, but for the first `place`
unfoldable pub front : List (List ℕ) → List ℕ → ℕ → ℕ → ℕ → List ℕ
front rows links h place n = drop place (concat_map (row rows) (cells links h n))

unfoldable pub last : List ℕ → ℕ
last [] = 0
last (x ∷ []) = x
last (x ∷ y ∷ r) = last (y ∷ r)

abbrev pub Distinct : List ℕ → Type 0
Distinct [] = Unit {0}
Distinct (x ∷ r) = (elem x r ≡ false) × Distinct r

abbrev pub Below : ℕ → List ℕ → Type 0
Below n xs = All (λ x. x < n) xs

-- unowned, and it fits a rank of this load: only such candidates can be observed
unfoldable pub opens : ℕ → List ℕ → List ℕ → ℕ → ℕ → Bool
opens cap weights owners load g = unowned owners g && leb (load + at weights g) cap

-- of higher degree
abbrev pub higher : List (List ℕ) → ℕ → ℕ → Bool
higher rows g h = ltb (degree rows h) (degree rows g)

-- a search along a chain stops at its end, and at a candidate that is open
unfoldable pub stops_at : List (List ℕ) → (ℕ → Bool) → ℕ → ℕ → ℕ → Bool
stops_at rows ok h place n = cond (eqb n 0) true (cond (ltb place (degree rows h)) (ok (at (row rows h) place)) false)

-- one candidate on, or one entry on
abbrev pub Onward : List (List ℕ) → List ℕ → ℕ → ℕ → ℕ → ℕ → ℕ → ℕ → Type 0
Onward rows links h p n h' p' n' =
    ((p < degree rows h) × (h' ≡ h) × (p' ≡ p + 1) × (n' ≡ n))
    ⊎ ((degree rows h ≤ p) × (h' ≡ at links h) × (p' ≡ 0) × (n' ≡ n - 1))

pub record Chain (rows : List (List ℕ)) (links : List ℕ) (b h p n : ℕ) : Type 0 where
  pub inside : Below b (cells links h n)
  pub place_in : 0 < n → p ≤ degree rows h

-- a place further on in the chain, with the same candidates that pass the test
pub record Going (rows : List (List ℕ)) (links : List ℕ) (ok : ℕ → Bool) (b h p n h' p' n' : ℕ) : Type 0 where
  pub same : filter ok (front rows links h' p' n') ≡ filter ok (front rows links h p n)
  pub fewer : n' ≤ n
  pub cells_are : cells links h' n' ≡ drop (n - n') (cells links h n)
  pub inside : Below b (cells links h' n')
  pub place_in : 0 < n' → p' ≤ degree rows h'

pub record Sought (rows : List (List ℕ)) (links : List ℕ) (ok : ℕ → Bool) (b h p n h' p' n' : ℕ) : Type 0 where
  pub going : Going rows links ok b h p n h' p' n'
  pub stopped : stops_at rows ok h' p' n' ≡ true

-- the candidate at a place, none at the chain's end
unfoldable pub candidate_at : List (List ℕ) → ℕ → ℕ → ℕ → Option ℕ
candidate_at rows h p n = cond (eqb n 0) None (Some (at (row rows h) p))

-- p is the place of the first at or after `from` that passes the test, or the end
pub record FirstOpen (ok : ℕ → Bool) (order : List ℕ) (from p : ℕ) : Type 0 where
  pub onward : from ≤ p
  pub inside : p ≤ length order
  pub closed : (i : ℕ) → from ≤ i → i < p → ok (at order i) ≡ false
  pub found : p < length order → ok (at order p) ≡ true

-- the lists that the leaves are lent: a sound level of at most 16,384 groups, and a number for each group
pub record Lent (offsets neighbors weights owners : List ℕ) : Type 0 where
  pub lists : SoundLists offsets neighbors
  pub few : vertex_count offsets ≤ 16384
  pub weights-all : length weights ≡ vertex_count offsets
  pub owners-all : length owners ≡ vertex_count offsets

-- ---- the memory of a growth

-- what growth writes: for each group its owner and the next entry of its chain; for each rank its load, and its chain's first entry, last entry, place
-- in the first one's row, and number of entries
pub record Memory : Type 0 where
  pub owners : List ℕ
  pub links : List ℕ
  pub loads : List ℕ
  pub heads : List ℕ
  pub tails : List ℕ
  pub places : List ℕ
  pub counts : List ℕ

unfoldable pub memory : List ℕ → List ℕ → List ℕ → List ℕ → List ℕ → List ℕ → List ℕ → Memory
memory a b c d e f g = record { owners = a; links = b; loads = c; heads = d; tails = e; places = f; counts = g }

unfoldable pub rows_in : GrowthRoom → List ℕ → List (List ℕ)
rows_in l w = rows_at w l.level

abbrev pub weights_in : GrowthRoom → List ℕ → List ℕ
weights_in l w = weights_at w l.level

abbrev pub links_in : GrowthRoom → List ℕ → List ℕ
links_in l w = part w l.links (l.links + l.level.vertices)

-- the groups by degree falling, then number rising
abbrev pub order_in : GrowthRoom → List ℕ → List ℕ
order_in l w = part w l.order (l.order + l.level.vertices)

abbrev pub per_rank : ℕ → ℕ → List ℕ → List ℕ
per_rank a k w = part w a (a + k)

unfoldable pub memory_in : GrowthRoom → List ℕ → Memory
memory_in l w =
    memory
    (owners_at w l.level)
    (links_in l w)
    (per_rank l.loads l.ranks w)
    (per_rank l.heads l.ranks w)
    (per_rank l.tails l.ranks w)
    (per_rank l.places l.ranks w)
    (per_rank l.counts l.ranks w)

-- the level, then the regions one after the other
pub record GrowthLaid (l : GrowthRoom) (size : ℕ) : Type 0 where
  pub level : Laid l.level l.order
  pub order-in : l.order + l.level.vertices ≤ l.seeds
  pub seeds-in : l.seeds + l.ranks ≤ l.links
  pub links-in : l.links + l.level.vertices ≤ l.loads
  pub loads-in : l.loads + l.ranks ≤ l.heads
  pub heads-in : l.heads + l.ranks ≤ l.tails
  pub tails-in : l.tails + l.ranks ≤ l.places
  pub places-in : l.places + l.ranks ≤ l.counts
  pub counts-in : l.counts + l.ranks ≤ size
  pub enough : l.ranks ≤ l.level.vertices
  pub few : l.level.vertices ≤ 16384
  pub few-ranks : l.ranks ≤ 256

-- nothing but the owners, and what lies from the links up to the counts, was written
pub record Outside (l : GrowthRoom) (w w' : List ℕ) : Type 0 where
  pub same_length : length w' ≡ length w
  pub below : (i : ℕ) → i < l.level.owners → at w' i ≡ at w i
  pub between : (i : ℕ) → l.level.owners + l.level.vertices ≤ i → i < l.links → at w' i ≡ at w i
  pub beyond : (i : ℕ) → l.counts + l.ranks ≤ i → at w' i ≡ at w i

abbrev pub cells_of : Memory → ℕ → List ℕ
cells_of m r = cells m.links (at m.heads r) (at m.counts r)

-- the frontier of rank r
unfoldable pub front_of : List (List ℕ) → Memory → ℕ → List ℕ
front_of rows m r = front rows m.links (at m.heads r) (at m.places r) (at m.counts r)

-- how many groups nobody owns
abbrev pub vacant_in : List ℕ → ℕ
vacant_in owners = length (filter (eqb unassigned) owners)

pub record Good (rows : List (List ℕ)) (weights : List ℕ) (k : ℕ) (m : Memory) : Type 0 where
  pub owners-all : length m.owners ≡ length rows
  pub links-all : length m.links ≡ length rows
  pub loads-all : length m.loads ≡ k
  pub heads-all : length m.heads ≡ k
  pub tails-all : length m.tails ≡ k
  pub places-all : length m.places ≡ k
  pub counts_all : length m.counts ≡ k
  pub loads-are : (r : ℕ) → r < k → at m.loads r ≡ load weights m.owners r
  pub chains : (r : ℕ) → r < k → Chain rows m.links (length rows) (at m.heads r) (at m.places r) (at m.counts r)
  pub distinct : (r : ℕ) → r < k → Distinct (cells_of m r)
  pub owned : (r x : ℕ) → r < k → elem x (cells_of m r) ≡ true → at m.owners x ≡ r
  pub lasts : (r : ℕ) → r < k → 0 < at m.counts r → at m.tails r ≡ last (cells_of m r)
  pub short : (r : ℕ) → r < k → at m.counts r + vacant_in m.owners ≤ length rows

-- the memory stands for a growth's state: the same owners, and for each rank the same candidates that are open to it
pub record Stands (cap : ℕ) (rows : List (List ℕ)) (weights : List ℕ) (k : ℕ) (m : Memory) (s : Growing) : Type 0 where
  pub owners-are : m.owners ≡ s.owners
  pub fronts
      : (r : ℕ)
      → r < k
      → filter (opens cap weights m.owners (load weights m.owners r)) (front_of rows m r)
      ≡ filter (opens cap weights m.owners (load weights m.owners r)) (get_or s.frontiers r [])
  pub all-ranks : length s.frontiers ≡ k

-- rank r's place in its chain
unfoldable pub parked : Memory → ℕ → ℕ → ℕ → ℕ → Memory
parked m r h p n = memory m.owners m.links m.loads (set m.heads r h) m.tails (set m.places r p) (set m.counts r n)

-- rank r owns group g, of weight x
unfoldable pub owning : Memory → ℕ → ℕ → ℕ → Memory
owning m r g x =
    memory (set m.owners g r) m.links (set m.loads r (at m.loads r + x)) m.heads m.tails m.places m.counts

-- g is rank r's only entry
unfoldable pub begun : Memory → ℕ → ℕ → Memory
begun m r g =
    memory m.owners m.links m.loads (set m.heads r g) (set m.tails r g) (set m.places r 0) (set m.counts r 1)

-- g is put after rank r's last entry
unfoldable pub appended : Memory → ℕ → ℕ → Memory
appended m r g =
    memory
    m.owners
    (set m.links (at m.tails r) g)
    m.loads
    m.heads
    (set m.tails r g)
    m.places
    (set m.counts r (at m.counts r + 1))

-- what each turn rests on: the level's lists, light enough for a load in 32 bits, its order by degree, and the memory
pub record GrowthReady (l : GrowthRoom) (w : List ℕ) : Type 0 where
  pub laid : GrowthLaid l (length w)
  pub lists : SoundLists (offsets_at w l.level) (neighbors_at w l.level)
  pub light : sum (weights_in l w) < 2 ^ 31
  pub ordered : order_in l w ≡ by_degree (rows_in l w)
  pub good : Good (rows_in l w) (weights_in l w) l.ranks (memory_in l w)

-- what a store does to the memory, and that it does nothing else
pub record Stored (l : GrowthRoom) (w w' : List ℕ) (m : Memory) : Type 0 where
  pub after : memory_in l w' ≡ m
  pub outside : Outside l w w'

-- what a choice is as the code tells it
abbrev pub kind_of : Choice → TurnKind
kind_of passes = Pass
kind_of (claims g) = Claim
kind_of (restarts g) = Restart

-- how many groups a turn claims
abbrev pub claims_by : TurnKind → ℕ
claims_by Pass = 0
claims_by Claim = 1
claims_by Restart = 1

-- how many of them are restarts
abbrev pub restarts_by : TurnKind → ℕ
restarts_by Pass = 0
restarts_by Claim = 0
restarts_by Restart = 1
