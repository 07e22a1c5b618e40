-- The growth stage over the work slice: what a turn, a round, all rounds, the start and the whole stage ask and leave. Assumes nothing.
use Rattle.std.specs.Prelude.{◌≡◌, Bool, true, false, not, cond, List, [], ◌∷◌, ◌++◌, ℕ, ◌+◌, ◌*◌, ◌≤◌, ◌<◌, ◌^◌, length, set, drop, replicate, eqb, ltb, MatchOption, Result, Ok, Err}
use Rattle.std.specs.Prelude as prelude
use Rattle.std.proofs.Math.Option.{Option}
use Rattle.links.specs.Lists.{at, unassigned, filter, any, foldl, range, sum, best}
use Rattle.links.specs.Parts.{part, Kept}
use Rattle.links.specs.Graph.{row, load, SoundLists}
use Rattle.links.specs.Refusals.{number_of}
use Rattle.links.specs.declared.refusal.Refusal.{Refusal}
use Rattle.links.specs.declared.refusal.Refusal.TheVariants.{GroupAboveCap, FewerGroupsThanRanks, GrowthStuck}
use Rattle.stages.specs.Level.{Ready, offsets_at, neighbors_at, rows_at, weights_at, owners_at}
use Rattle.stages.specs.Seeds.{farthest_seeds}
use Rattle.stages.specs.Growth.{Growing, Turn, Round, Growth, turn, round, rounds, is_pass, after_turn, seed_owners, grown, weighted_multisource, restart_count}
use Rattle.stages.specs.Coarsen.{by_degree}
use Rattle.stages.specs.FrontierCode.{GrowthLaid, Outside, rows_in, weights_in, order_in, memory_in, vacant_in, opens, higher, Sought, front_of, Stands, GrowthReady, kind_of, claims_by}
use Rattle.stages.specs.declared.level.HierarchyLevel.{HierarchyLevel}
use Rattle.stages.specs.declared.growth.GrowthRoom.{GrowthRoom}
use Rattle.stages.specs.declared.growth.TurnKind.{TurnKind}

-- ---- a turn

-- the memory after stands for what the memory before does
abbrev pub StandsIn : ℕ → GrowthRoom → List ℕ → List ℕ → Growing → Type 0
StandsIn cap l w w' s = Stands cap (rows_in l w) (weights_in l w) l.ranks (memory_in l w') s

-- rank r's candidates that are open to it
abbrev pub open_in : ℕ → GrowthRoom → List ℕ → List ℕ → ℕ → ℕ → Bool
open_in cap l w w' r = opens cap (weights_in l w) (memory_in l w').owners (load (weights_in l w) (memory_in l w').owners r)

-- those that are open to a rank of rank r's load in the memory, which is its load
abbrev pub open_now : ℕ → GrowthRoom → List ℕ → ℕ → ℕ → Bool
open_now cap l w r = opens cap (weights_in l w) (memory_in l w).owners (at (memory_in l w).loads r)

-- a place in rank r's chain where a search for an open candidate stops
abbrev pub SoughtIn : ℕ → GrowthRoom → List ℕ → ℕ → ℕ → ℕ → ℕ → Type 0
SoughtIn cap l w r h p n =
    Sought
    (rows_in l w)
    (memory_in l w).links
    (open_now cap l w r)
    l.level.vertices
    (at (memory_in l w).heads r)
    (at (memory_in l w).places r)
    (at (memory_in l w).counts r)
    h
    p
    n

-- the group that rank r would restart from
abbrev pub restart_in : ℕ → GrowthRoom → List ℕ → ℕ → Option ℕ
restart_in cap l w r = best (higher (rows_in l w)) (filter (open_now cap l w r) (range 0 l.level.vertices))

-- no group before a rank's cursor in the order is open to it, nor will be: owned groups stay owned, and loads only grow
pub record Behind (cap : ℕ) (l : GrowthRoom) (w cursors : List ℕ) : Type 0 where
  pub all : length cursors ≡ 256
  pub inside : (d : ℕ) → d < l.ranks → at cursors d ≤ l.level.vertices
  pub closed : (d i : ℕ) → d < l.ranks → i < at cursors d → open_in cap l w w d (at (order_in l w) i) ≡ false

-- g is the first open candidate of rank r, if there is one; the place in its chain is there, or at the end
pub record Advanced (l : GrowthRoom) (cap : ℕ) (w w' : List ℕ) (r : ℕ) (g : prelude.Option ℕ) : Type 0 where
  pub outside : Outside l w w'
  pub ready : GrowthReady l w'
  pub stands : (s : Growing) → StandsIn cap l w w s → StandsIn cap l w w' s
  pub owners-are : (memory_in l w').owners ≡ (memory_in l w).owners
  pub found
      : MatchOption g (filter (open_in cap l w w' r) (front_of (rows_in l w) (memory_in l w') r) ≡ [])
      (λ x. (xs : List ℕ) × (filter (open_in cap l w w' r) (front_of (rows_in l w) (memory_in l w') r) ≡ x ∷ xs) × (open_in cap l w w' r x ≡ true))

-- rank r owns g, and g's row is at the end of its frontier
pub record Claimed (l : GrowthRoom) (w w' : List ℕ) (r g : ℕ) : Type 0 where
  pub outside : Outside l w w'
  pub ready : GrowthReady l w'
  pub owners-are : (memory_in l w').owners ≡ set (memory_in l w).owners g r
  pub here : front_of (rows_in l w) (memory_in l w') r ≡ front_of (rows_in l w) (memory_in l w) r ++ row (rows_in l w) g
  pub there : (d : ℕ) → d < l.ranks → (d ≡ r → ⊥) → front_of (rows_in l w) (memory_in l w') d ≡ front_of (rows_in l w) (memory_in l w) d

-- the turn that the definition gives from any state that the memory stands for
pub record TurnMade (l : GrowthRoom) (cap : ℕ) (w w' : List ℕ) (r : ℕ) (x : TurnKind) : Type 0 where
  pub outside : Outside l w w'
  pub ready : GrowthReady l w'
  pub kind : (s : Growing) → StandsIn cap l w w s → x ≡ kind_of (turn cap (rows_in l w) (weights_in l w) s r).turn.choice
  pub stands : (s : Growing) → StandsIn cap l w w s → StandsIn cap l w w' (turn cap (rows_in l w) (weights_in l w) s r).state
  pub vacant : claims_by x + vacant_in (memory_in l w').owners ≡ vacant_in (memory_in l w).owners

-- ---- rounds

-- how many turns claim a group
unfoldable pub claim_count : List Turn → ℕ
claim_count ts = length (filter (λ t. not (is_pass t.choice)) ts)

abbrev pub vacancy : List ℕ → Bool
vacancy owners = any (eqb unassigned) owners

-- the first i ranks take their turns
abbrev pub turns_of : ℕ → GrowthRoom → List ℕ → ℕ → Growing → Round
turns_of cap l w i s = round cap (rows_in l w) (weights_in l w) s (range 0 i)

pub record Rounded (l : GrowthRoom) (cap : ℕ) (w w' : List ℕ) (i claims restarts : ℕ) : Type 0 where
  pub outside : Outside l w w'
  pub ready : GrowthReady l w'
  pub claims-are : (s : Growing) → StandsIn cap l w w s → claims ≡ claim_count (turns_of cap l w i s).turns
  pub restarts-are : (s : Growing) → StandsIn cap l w w s → restarts ≡ restart_count (turns_of cap l w i s).turns
  pub stands : (s : Growing) → StandsIn cap l w w s → StandsIn cap l w w' (turns_of cap l w i s).state
  pub vacant : claims + vacant_in (memory_in l w').owners ≡ vacant_in (memory_in l w).owners
  pub few : (claims ≤ i) × (restarts ≤ i)

-- a round, if a group is unowned
unfoldable pub next_round : ℕ → List (List ℕ) → List ℕ → ℕ → Growing → Round
next_round cap rows weights k s =
    let r = round cap rows weights s (range 0 k) in
    let none : Round = record { turns = []; state = s } in
    cond (vacancy s.owners) r none

pub record More (l : GrowthRoom) (cap : ℕ) (w w' : List ℕ) (claims restarts : ℕ) : Type 0 where
  pub outside : Outside l w w'
  pub ready : GrowthReady l w'
  pub claims-are : (s : Growing) → StandsIn cap l w w s → claims ≡ claim_count (next_round cap (rows_in l w) (weights_in l w) l.ranks s).turns
  pub restarts-are : (s : Growing) → StandsIn cap l w w s → restarts ≡ restart_count (next_round cap (rows_in l w) (weights_in l w) l.ranks s).turns
  pub stands : (s : Growing) → StandsIn cap l w w s → StandsIn cap l w w' (next_round cap (rows_in l w) (weights_in l w) l.ranks s).state
  pub vacant : claims + vacant_in (memory_in l w').owners ≡ vacant_in (memory_in l w).owners
  pub few : restarts ≤ l.ranks

-- at most f rounds from s
abbrev pub rounds_of : ℕ → GrowthRoom → List ℕ → ℕ → Growing → List Turn
rounds_of cap l w f s = rounds cap (rows_in l w) (weights_in l w) f l.ranks s

-- f rounds are left to the definition, from a state that the memory stands for; what was done and what is left is the whole
pub record Leaves (l : GrowthRoom) (cap : ℕ) (w w' : List ℕ) (f restarts : ℕ) (s₀ : Growing) : Type 0 where
  pub state : Growing
  pub stands : StandsIn cap l w w' state
  pub restarts-are : restarts + restart_count (rounds_of cap l w f state) ≡ restart_count (rounds_of cap l w l.level.vertices s₀)
  pub owners-are
      : foldl after_turn state.owners (rounds_of cap l w f state) ≡ foldl after_turn s₀.owners (rounds_of cap l w l.level.vertices s₀)

-- ---- the answer

-- an answer's value in 01's terms: the restarts, 0 for a refusal
abbrev pub grown_value : Result ℕ Refusal → ℕ
grown_value (Ok restarts) = restarts
grown_value (Err refusal) = 0

-- the refusals of growth by their numbers
abbrev pub growth_refusal : ℕ → Refusal
growth_refusal number = cond (eqb number 6) GroupAboveCap (cond (eqb number 7) FewerGroupsThanRanks GrowthStuck)

-- a refusal where the number is not 0
abbrev pub grown_answer : ℕ → ℕ → Result ℕ Refusal
grown_answer number restarts = cond (eqb number 0) (Ok restarts) (Err (growth_refusal number))

-- 8: "growth round without a claim": a group is left
abbrev pub left_cause : List ℕ → ℕ
left_cause owners = cond (vacancy owners) 8 0

pub record GrownTo (l : GrowthRoom) (cap : ℕ) (w w' : List ℕ) (r : Result ℕ Refusal) : Type 0 where
  pub outside : Outside l w w'
  pub owners-are
      : (s : Growing) → StandsIn cap l w w s → (memory_in l w').owners ≡ foldl after_turn s.owners (rounds_of cap l w l.level.vertices s)
  pub answer
      : (s : Growing)
      → StandsIn cap l w w s
      → r ≡ grown_answer (left_cause (memory_in l w').owners) (restart_count (rounds_of cap l w l.level.vertices s))

-- ---- the start

abbrev pub seeds_in : GrowthRoom → List ℕ → List ℕ
seeds_in l w = part w l.seeds (l.seeds + l.ranks)

-- one seed for each rank, all different
pub record Seeds (groups k : ℕ) (seeds : List ℕ) : Type 0 where
  pub all : length seeds ≡ k
  pub inside : (d : ℕ) → d < k → at seeds d < groups
  pub apart : (c d : ℕ) → c < k → d < k → at seeds c ≡ at seeds d → c ≡ d

-- what growth from the seeds asks
pub record Sown (l : GrowthRoom) (w : List ℕ) : Type 0 where
  pub laid : GrowthLaid l (length w)
  pub lists : SoundLists (offsets_at w l.level) (neighbors_at w l.level)
  pub light : sum (weights_in l w) < 2 ^ 31
  pub ordered : order_in l w ≡ by_degree (rows_in l w)
  pub seeds : Seeds l.level.vertices l.ranks (seeds_in l w)

-- nobody owns a group yet, and the chains are empty
pub record Blank (l : GrowthRoom) (w : List ℕ) : Type 0 where
  pub sown : Sown l w
  pub owners-are : (memory_in l w).owners ≡ replicate l.level.vertices unassigned
  pub loads-are : (d : ℕ) → d < l.ranks → at (memory_in l w).loads d ≡ 0
  pub counts-are : (d : ℕ) → d < l.ranks → at (memory_in l w).counts d ≡ 0

pub record Cleared (l : GrowthRoom) (w w' : List ℕ) : Type 0 where
  pub outside : Outside l w w'
  pub blank : Blank l w'

-- the ranks from r on own their seeds
pub record Seated (l : GrowthRoom) (w w' : List ℕ) (r : ℕ) : Type 0 where
  pub outside : Outside l w w'
  pub ready : GrowthReady l w'
  pub owners-are : (memory_in l w').owners ≡ seed_owners l.level.vertices (drop r (seeds_in l w)) r
  pub counts-are : (d : ℕ) → d < r → at (memory_in l w').counts d ≡ 0
  pub loads-are : (d : ℕ) → d < r → at (memory_in l w').loads d ≡ 0
  pub fronts : (d : ℕ) → r ≤ d → d < l.ranks → front_of (rows_in l w) (memory_in l w') d ≡ row (rows_in l w) (at (seeds_in l w) d)

-- the defined growth from the seeds that lie in w
abbrev pub growth_in : ℕ → GrowthRoom → List ℕ → Growth
growth_in cap l w = weighted_multisource cap (rows_in l w) (weights_in l w) (seeds_in l w)

pub record Multisource (l : GrowthRoom) (cap : ℕ) (w w' : List ℕ) (r : Result ℕ Refusal) : Type 0 where
  pub outside : Outside l w w'
  pub owners-are : (memory_in l w').owners ≡ grown (growth_in cap l w) (growth_in cap l w).turns
  pub answer : r ≡ grown_answer (left_cause (grown (growth_in cap l w) (growth_in cap l w).turns)) (restart_count (growth_in cap l w).turns)

-- ---- the whole stage

-- how many numbers it needs from scratch on: n distances, whose place the order by degree takes later, n entries of a queue, k seeds, n links, and five
-- numbers for each rank
abbrev pub growth_need : ℕ → ℕ → ℕ
growth_need n k = 3 * n + 6 * k

-- where they lie
unfoldable pub room_at : HierarchyLevel → ℕ → ℕ → GrowthRoom
room_at l scratch k =
    record {
      level = l;
      ranks = k;
      order = scratch;
      seeds = scratch + 2 * l.vertices;
      links = scratch + 2 * l.vertices + k;
      loads = scratch + 3 * l.vertices + k;
      heads = scratch + 3 * l.vertices + 2 * k;
      tails = scratch + 3 * l.vertices + 3 * k;
      places = scratch + 3 * l.vertices + 4 * k;
      counts = scratch + 3 * l.vertices + 5 * k;
    }

-- what the stage asks: a level below scratch, and room
pub record Growable (w : List ℕ) (l : HierarchyLevel) (scratch k : ℕ) : Type 0 where
  pub level : Ready w l scratch
  pub few-ranks : k ≤ 256
  pub room : scratch + growth_need l.vertices k ≤ length w

-- the growth that rule 5 defines on a level, from rule 4's seeds, and the owners that it ends with
abbrev pub growth_at : List ℕ → HierarchyLevel → ℕ → ℕ → Growth
growth_at w l k cap = weighted_multisource cap (rows_at w l) (weights_at w l) (farthest_seeds (rows_at w l) k)

abbrev pub grown_at : List ℕ → HierarchyLevel → ℕ → ℕ → List ℕ
grown_at w l k cap = grown (growth_at w l k cap) (growth_at w l k cap).turns

-- 6: "group weight above cap"
abbrev pub too_heavy : ℕ → List ℕ → Bool
too_heavy cap weights = any (ltb cap) weights

-- 7: "fewer groups than k"
abbrev pub too_few_groups : List (List ℕ) → ℕ → Bool
too_few_groups rows k = ltb (length rows) k

-- 6 before 7 before 8
unfoldable pub growth_cause : List ℕ → HierarchyLevel → ℕ → ℕ → ℕ
growth_cause w l k cap =
    let left = left_cause (grown_at w l k cap) in
    cond (too_heavy cap (weights_at w l)) 6 (cond (too_few_groups (rows_at w l) k) 7 left)

-- rule 5: the answer, and the owners unless it was refused before growth; nothing is written but the level's owners and what lies beyond them up to
-- the end of the need
pub record GrownTold (w w' : List ℕ) (l : HierarchyLevel) (scratch k cap : ℕ) (r : Result ℕ Refusal) : Type 0 where
  pub answer : r ≡ grown_answer (growth_cause w l k cap) (restart_count (growth_at w l k cap).turns)
  pub number : number_of r ≡ growth_cause w l k cap
  pub value : grown_value r ≡ cond (eqb (growth_cause w l k cap) 0) (restart_count (growth_at w l k cap).turns) 0
  pub owners : too_heavy cap (weights_at w l) ≡ false → too_few_groups (rows_at w l) k ≡ false → owners_at w' l ≡ grown_at w l k cap
  pub kept : Kept l.owners (scratch + growth_need l.vertices k) w' w
