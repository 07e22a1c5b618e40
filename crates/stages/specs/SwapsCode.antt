-- What the code of rule 7 keeps in the work slice, and what it promises. Assumes nothing.
use Rattle.std.specs.Prelude.{ℕ, suc, ◌+◌, ◌-◌, ◌*◌, ◌≤◌, ◌<◌, ◌^◌, ◌≡◌, Bool, not, ◌&&◌, cond, List, [], ◌∷◌, map, ◌⊎◌, ltb, eqb, length, take, set}
use Rattle.links.specs.Lists.{at, between, any, insert, foldl, elem, range, concat_map}
use Rattle.links.specs.Parts.{part, Kept}
use Rattle.links.specs.Graph.{row, links_in, links_to}
use Rattle.stages.specs.Level.{offsets_at, neighbors_at, rows_at, weights_at, owners_at, Ready, balance_in}
use Rattle.stages.specs.Moves.{Step, move, swap, after, linked}
use Rattle.stages.specs.Swaps.{Proposal, sooner, proposals, candidates, swap_pass, all_proposals, refine_fine_pair_swaps}
use Rattle.stages.specs.MovesCode.{Ranked, Clear, Loaded}
use Rattle.stages.specs.Keys.{candidate, key_of, gain_of, vertex_of, higher, filled, Falling}
use Rattle.stages.specs.Slots.{proposal}
use Rattle.stages.specs.declared.level.HierarchyLevel.{HierarchyLevel}
use Rattle.stages.specs.declared.level.Limits.{Limits}
use Rattle.stages.specs.declared.swaps.SwapRoom.{SwapRoom}
use Rattle.stages.specs.declared.swaps.Swapping.{Swapping}

-- ---- where things lie

-- the first place of the list of ranks a and b, and what that list holds: candidates, each in one number
abbrev pub list_place : SwapRoom → ℕ → ℕ → ℕ
list_place s a b = s.lists + 12 * (a * s.limits.ranks + b)

abbrev pub list_at : List ℕ → SwapRoom → ℕ → ℕ → List ℕ
list_at w s a b = filled (part w (list_place s a b) (list_place s a b + s.list_length))

-- the level's parts, then a used flag for each vertex, a load and a tally for each rank, and the lists, of 1 to 12 candidates; every owner is a rank
pub record Given (w : List ℕ) (s : SwapRoom) : Type 0 where
  pub ready : Ready w s.level s.used
  pub used-in : s.used + s.level.vertices ≤ s.loads
  pub loads-in : s.loads + s.limits.ranks ≤ s.tallies
  pub tallies-in : s.tallies + s.limits.ranks ≤ s.lists
  pub lists-in : s.lists + 12 * (s.limits.ranks * s.limits.ranks) ≤ length w
  pub some-listed : 1 ≤ s.list_length
  pub few-listed : s.list_length ≤ 12
  pub few-ranks : s.limits.ranks ≤ 256
  pub ranked : Ranked w s.level s.limits.ranks

-- and the loads are those of the owners
pub record Standing (w : List ℕ) (s : SwapRoom) : Type 0 where
  pub given : Given w s
  pub loaded : Loaded w s.level s.loads s.limits.ranks

-- the used flags are those of the used vertices
abbrev pub Marked : List ℕ → SwapRoom → List ℕ → Type 0
Marked w s used = (v : ℕ) → v < s.level.vertices → eqb (at w (s.used + v)) 0 ≡ not (elem v used)

-- a load is from floor to cap, and still is once it gives x for y
unfoldable pub fair_trade : (floor cap load x y : ℕ) → Bool
fair_trade floor cap load x y = between floor cap load && between floor cap (load - x + y)

-- ---- listing

-- every list is sorted
abbrev pub AllSorted : List ℕ → SwapRoom → Type 0
AllSorted w s =
    (a b : ℕ) → a < s.limits.ranks → b < s.limits.ranks → Falling (part w (list_place s a b) (list_place s a b + s.list_length))

-- no tally is above 16,384
abbrev pub FewTallied : List ℕ → SwapRoom → Type 0
FewTallied w s = (r : ℕ) → r < s.limits.ranks → at w (s.tallies + r) ≤ 16384

-- v has a neighbor of another rank
unfoldable pub bordering : List (List ℕ) → List ℕ → ℕ → Bool
bordering rows owners v = any (λ u. not (eqb (at owners u) (at owners v))) (row rows v)

-- v's turn to be listed for ranks a and b
unfoldable pub offer_vertex : ℕ → List (List ℕ) → List ℕ → ℕ → ℕ → List ℕ → ℕ → List ℕ
offer_vertex n rows owners a b list v =
    cond
    (eqb (at owners v) a && ltb 0 (links_to rows owners v b))
    (take n (insert higher (key_of (candidate (links_to rows owners v b) (links_to rows owners v a) v)) list))
    list

-- one list of n is offered a candidate
pub record Offered (w w' : List ℕ) (a n x : ℕ) : Type 0 where
  pub here : filled (part w' a (a + n)) ≡ take n (insert higher x (filled (part w a (a + n))))
  pub sorted : Falling (part w' a (a + n))
  pub kept : Kept a (a + n) w' w

-- rank b is still to be met among v's neighbors, of which those from i up to e are left; or v was offered to it
pub record Waiting (w₀ w : List ℕ) (s : SwapRoom) (a b v i e : ℕ) : Type 0 where
  pub tallied : at w (s.tallies + b) ≡ links_to (rows_at w₀ s.level) (owners_at w₀ s.level) v b
  pub unmet : links_in (part (neighbors_at w₀ s.level) i e) (owners_at w₀ s.level) b ≡ links_to (rows_at w₀ s.level) (owners_at w₀ s.level) v b
  pub same : list_at w s a b ≡ list_at w₀ s a b

pub record Met (w₀ w : List ℕ) (s : SwapRoom) (a b v : ℕ) : Type 0 where
  pub cleared : at w (s.tallies + b) ≡ 0
  pub offered : list_at w s a b ≡ offer_vertex s.list_length (rows_at w₀ s.level) (owners_at w₀ s.level) a b (list_at w₀ s a b) v

pub record Offering (w₀ w : List ℕ) (s : SwapRoom) (a v i e : ℕ) : Type 0 where
  pub kept : Kept s.tallies (length w₀) w w₀
  pub home : at w (s.tallies + a) ≡ links_to (rows_at w₀ s.level) (owners_at w₀ s.level) v a
  pub others : (c b : ℕ) → c < s.limits.ranks → b < s.limits.ranks → (c ≡ a → ⊥) → list_at w s c b ≡ list_at w₀ s c b
  pub each : (b : ℕ) → b < s.limits.ranks → (b ≡ a → ⊥) → Waiting w₀ w s a b v i e ⊎ Met w₀ w s a b v

-- entry i of the neighbors had its turn
pub record OfferedEntry (w w' : List ℕ) (s : SwapRoom) (a v i : ℕ) : Type 0 where
  pub kept : Kept s.tallies (length w) w' w
  pub sorted : AllSorted w' s
  pub turn
      : (w₀ : List ℕ)
      → Given w₀ s
      → v < s.level.vertices
      → a ≡ at (owners_at w₀ s.level) v
      → i < at (offsets_at w₀ s.level) (v + 1)
      → Offering w₀ w s a v i (at (offsets_at w₀ s.level) (v + 1))
      → Offering w₀ w' s a v (i + 1) (at (offsets_at w₀ s.level) (v + 1))

-- v was listed
pub record Listed (w w' : List ℕ) (s : SwapRoom) (v : ℕ) : Type 0 where
  pub kept : Kept s.tallies (length w) w' w
  pub clear : Clear w' s.tallies s.limits.ranks
  pub sorted : AllSorted w' s
  pub lists
      : (a b : ℕ)
      → a < s.limits.ranks
      → b < s.limits.ranks
      → (a ≡ b → ⊥)
      → list_at w' s a b ≡ offer_vertex s.list_length (rows_at w s.level) (owners_at w s.level) a b (list_at w s a b) v

-- no list holds a candidate
abbrev pub Empty : List ℕ → SwapRoom → Type 0
Empty w s = (a b : ℕ) → a < s.limits.ranks → b < s.limits.ranks → list_at w s a b ≡ []

-- the lists are those of these owners
abbrev pub Holding : List ℕ → SwapRoom → List ℕ → Type 0
Holding w s owners =
    (a b : ℕ)
    → a < s.limits.ranks
    → b < s.limits.ranks
    → (a ≡ b → ⊥)
    → list_at w s a b ≡ map key_of (candidates s.list_length (rows_at w s.level) owners a b)

-- all vertices were listed
pub record ListedAll (w w' : List ℕ) (s : SwapRoom) : Type 0 where
  pub kept : Kept s.tallies (length w) w' w
  pub clear : Clear w' s.tallies s.limits.ranks
  pub holding : Holding w' s (owners_at w s.level)

-- ---- proposals

-- the product of two candidates, each in one number
unfoldable pub product_of : List (List ℕ) → ℕ → ℕ → Proposal
product_of rows x y = proposal (gain_of x + gain_of y - (32768 + 2 * linked rows (vertex_of x) (vertex_of y))) (vertex_of x) (vertex_of y)

-- it joins the first n proposals if its net is above 0
unfoldable pub proposed : ℕ → List (List ℕ) → ℕ → List Proposal → ℕ → List Proposal
proposed n rows x ps y = cond (ltb 0 (product_of rows x y).net) (take n (insert sooner (product_of rows x y) ps)) ps

-- a number's vertex is one of n
abbrev pub Within : ℕ → ℕ → Type 0
Within n x = vertex_of x < n

pub record Named (n : ℕ) (p : Proposal) : Type 0 where
  pub first-in : p.first < n
  pub second-in : p.second < n

-- the lists at x and at y are those of ranks a and b, and of b and a
pub record Facing (w : List ℕ) (s : SwapRoom) (x y : ℕ) (owners : List ℕ) (a b : ℕ) : Type 0 where
  pub fore-in : x + s.list_length ≤ length w
  pub back_in : y + s.list_length ≤ length w
  pub fore : filled (part w x (x + s.list_length)) ≡ map key_of (candidates s.list_length (rows_at w s.level) owners a b)
  pub back : filled (part w y (y + s.list_length)) ≡ map key_of (candidates s.list_length (rows_at w s.level) owners b a)

-- ---- swaps

-- those that a step uses are used
abbrev pub used_by : List ℕ → Step → List ℕ
used_by used (move v r) = used
used_by used (swap u v) = u ∷ v ∷ used

-- u and v change places, and are used
unfoldable pub changed : List ℕ → SwapRoom → ℕ → ℕ → List ℕ
changed w s u v =
    let o = s.level.owners in
    set (set (set (set w (o + u) (at w (o + v))) (o + v) (at w (o + u))) (s.used + u) 1) (s.used + v) 1

-- rank a's load gives x for y, and rank b's y for x
unfoldable pub traded : List ℕ → ℕ → ℕ → ℕ → ℕ → ℕ → List ℕ
traded w loads a b x y =
    let w₁ = set w (loads + a) (at w (loads + a) - x + y) in
    set w₁ (loads + b) (at w₁ (loads + b) - y + x)

-- loads from which x and y can be taken, and to which the other can be added
pub record Tradable (w : List ℕ) (loads a b x y : ℕ) : Type 0 where
  pub first-in : loads + a < length w
  pub second-in : loads + b < length w
  pub gives : x ≤ at w (loads + a)
  pub takes : y ≤ at w (loads + b)
  pub first-light : at w (loads + a) < 2 ^ 31
  pub second-light : at w (loads + b) < 2 ^ 31

-- u and v have changed places
pub record Swapped (w w' : List ℕ) (s : SwapRoom) (u v : ℕ) : Type 0 where
  pub standing : Standing w' s
  pub kept : Kept s.level.owners s.tallies w' w
  pub owners-are : owners_at w' s.level ≡ after (owners_at w s.level) (swap u v)
  pub marked : (used : List ℕ) → Marked w s used → Marked w' s (u ∷ v ∷ used)

-- after some steps
pub record Done (w w' : List ℕ) (s : SwapRoom) (used : List ℕ) (number : ℕ) (steps : List Step) : Type 0 where
  pub counted : number ≡ length steps
  pub owners-are : owners_at w' s.level ≡ foldl after (owners_at w s.level) steps
  pub marked : Marked w' s (foldl used_by used steps)

-- proposals were taken in their order: the number of swaps
pub record Taken (w w' : List ℕ) (s : SwapRoom) (number : ℕ) (ps : List Proposal) : Type 0 where
  pub standing : Standing w' s
  pub kept : Kept s.level.owners s.tallies w' w
  pub done
      : (used : List ℕ)
      → Marked w s used
      → Done w w' s used number
      (swap_pass (balance_in s.limits) (rows_at w s.level) (weights_at w s.level) ps used (owners_at w s.level))

-- the proposals of ranks a and b up to c, and those of all ranks below c, from given owners, with n candidates a list
abbrev pub rank_proposals : ℕ → List (List ℕ) → List ℕ → ℕ → ℕ → List Proposal
rank_proposals n rows owners a c = concat_map (proposals n rows owners a) (range (suc a) (c - suc a))

abbrev pub ranks_proposals : ℕ → List (List ℕ) → List ℕ → ℕ → ℕ → List Proposal
ranks_proposals n rows owners k c = concat_map (λ a. rank_proposals n rows owners a k) (range 0 c)

-- a room's list length and so many passes
abbrev pub swapping_in : SwapRoom → ℕ → Swapping
swapping_in s n = record { list_length = s.list_length; passes = n }

-- a pass from given owners
abbrev pub pass_from : List ℕ → SwapRoom → List ℕ → List Step
pass_from w s owners =
    swap_pass (balance_in s.limits) (rows_at w s.level) (weights_at w s.level)
    (all_proposals s.list_length (rows_at w s.level) s.limits.ranks owners) [] owners

-- these steps were made, so many
pub record Stepped (w w' : List ℕ) (s : SwapRoom) (steps : List Step) (count : ℕ) : Type 0 where
  pub owners-are : owners_at w' s.level ≡ foldl after (owners_at w s.level) steps
  pub counted : count ≡ length steps
  pub standing : Standing w' s
  pub clear : Clear w' s.tallies s.limits.ranks
  pub kept : Kept s.level.owners (length w) w' w

-- ---- the stage

-- the steps that rule 7 makes of a level's owners
abbrev pub swaps_at : List ℕ → HierarchyLevel → Limits → Swapping → List Step
swaps_at w l limits q = (refine_fine_pair_swaps (balance_in limits) (rows_at w l) (weights_at w l) q.list_length q.passes (owners_at w l)).steps

-- a level whose owners are ranks; from scratch on room for a flag for each vertex and two numbers for each rank; and room for the lists, of 1 to 12
-- candidates each
pub record Swappable (w : List ℕ) (l : HierarchyLevel) (scratch lists ranks list_length : ℕ) : Type 0 where
  pub ready : Ready w l scratch
  pub room : scratch + l.vertices + 2 * ranks ≤ lists
  pub lists-in : lists + 24 * (ranks * ranks) ≤ length w
  pub some-listed : 1 ≤ list_length
  pub few-listed : list_length ≤ 12
  pub few : ranks ≤ 256
  pub ranked : Ranked w l ranks

-- rule 7's owners and number of swaps; what lies below the owners is left alone
pub record RefinedBySwaps (w w' : List ℕ) (l : HierarchyLevel) (scratch : ℕ) (limits : Limits) (q : Swapping) (r : ℕ) : Type 0 where
  pub owners : owners_at w' l ≡ foldl after (owners_at w l) (swaps_at w l limits q)
  pub number : r ≡ length (swaps_at w l limits q)
  pub ready : Ready w' l scratch
  pub ranked : Ranked w' l limits.ranks
  pub kept : Kept l.owners (length w) w' w
