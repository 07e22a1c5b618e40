-- What the code of rule 6 keeps in the work slice, and what it promises. Assumes nothing.
use Rattle.std.specs.Prelude.{ℕ, ◌+◌, ◌-◌, ◌≤◌, ◌<◌, ◌*◌, ◌≡◌, Bool, not, ◌&&◌, cond, List, Option, Some, None, Result, Ok, Err, length, set, leb, ltb, eqb}
use Rattle.std.proofs.Math.Option as choice
use Rattle.links.specs.Lists.{at, any, above, foldl, range}
use Rattle.links.specs.Loads.{Balance}
use Rattle.links.specs.Parts.{Kept}
use Rattle.links.specs.Graph.{row, links_to, load}
use Rattle.links.specs.Owners.{from_owners}
use Rattle.stages.specs.Level.{rows_at, weights_at, owners_at, Ready, balance_in}
use Rattle.stages.specs.Moves.{Step, after, refine_by_cut}
use Rattle.stages.specs.declared.level.HierarchyLevel.{HierarchyLevel}
use Rattle.stages.specs.declared.level.Limits.{Limits}
use Rattle.stages.specs.declared.moves.Offer.{Offer}
use Rattle.links.specs.Refusals.{number_of}
use Rattle.links.specs.declared.refusal.Refusal.{Refusal}

-- ---- what a level's ranks have in the work slice

-- every owner is a rank
abbrev pub Ranked : List ℕ → HierarchyLevel → ℕ → Type 0
Ranked w l ranks = (v : ℕ) → v < l.vertices → at (owners_at w l) v < ranks

-- a level whose owners are ranks, and room beyond it, from a on, for a number for each rank
pub record Roomed (w : List ℕ) (l : HierarchyLevel) (a ranks : ℕ) : Type 0 where
  pub ready : Ready w l a
  pub room : a + ranks ≤ length w
  pub ranked : Ranked w l ranks

-- n numbers from a on are 0
abbrev pub Clear : List ℕ → ℕ → ℕ → Type 0
Clear w a n = (i : ℕ) → i < n → at w (a + i) ≡ 0

-- the loads are those of the ranks
abbrev pub Loaded : List ℕ → HierarchyLevel → (loads ranks : ℕ) → Type 0
Loaded w l loads ranks = (r : ℕ) → r < ranks → at w (loads + r) ≡ load (weights_at w l) (owners_at w l) r

-- the tallies are v's neighbors counted by their owners
abbrev pub Tallied : List ℕ → HierarchyLevel → (tallies ranks v : ℕ) → Type 0
Tallied w l tallies ranks v = (r : ℕ) → r < ranks → at w (tallies + r) ≡ links_to (rows_at w l) (owners_at w l) v r

-- what moves need: the level, its ranks' loads from `scratch` on, and room for as many tallies
pub record Weighed (w : List ℕ) (l : HierarchyLevel) (scratch ranks : ℕ) : Type 0 where
  pub ready : Ready w l scratch
  pub room : scratch + 2 * ranks ≤ length w
  pub few : ranks ≤ 256
  pub ranked : Ranked w l ranks
  pub loaded : Loaded w l scratch ranks

-- and those tallies are 0, as they are between two vertices
pub record Moving (w : List ℕ) (l : HierarchyLevel) (scratch ranks : ℕ) : Type 0 where
  pub weighed : Weighed w l scratch ranks
  pub clear : Clear w (scratch + ranks) ranks

-- v goes over to a rank
pub record Shifted (w w' : List ℕ) (l : HierarchyLevel) (scratch ranks v rank : ℕ) : Type 0 where
  pub owners : owners_at w' l ≡ set (owners_at w l) v rank
  pub weighed : Weighed w' l scratch ranks
  pub kept : Kept l.owners (scratch + ranks) w' w

-- these steps were made, so many
pub record Stepped (w w' : List ℕ) (l : HierarchyLevel) (scratch ranks : ℕ) (steps : List Step) (count : ℕ) : Type 0 where
  pub owners : owners_at w' l ≡ foldl after (owners_at w l) steps
  pub number : count ≡ length steps
  pub moving : Moving w' l scratch ranks
  pub kept : Kept l.owners (scratch + 2 * ranks) w' w

-- ---- the choice of a target

-- a rank, with its load, tempts a vertex of another: "load plus weight within cap"
unfoldable pub tempts : (cap weight load home rank : ℕ) → Bool
tempts cap weight load home rank = not (eqb rank home) && leb (load + weight) cap

-- some neighbor's owner tempts v
unfoldable pub tempting : Balance → List (List ℕ) → (weights owners : List ℕ) → ℕ → Bool
tempting b rows weights owners v =
    any (λ u. tempts b.cap (at weights v) (load weights owners (at owners u)) (at owners v) (at owners u)) (row rows v)

-- what a rank with so many neighbors there offers: "neighbours there less neighbours at home", if that is above 0 and "load plus weight within cap"
unfoldable pub offer_of : (cap weight load there home rank : ℕ) → Option Offer
offer_of cap weight load there home rank =
    let offer : Offer = record { gain = there - home; load = load; rank = rank } in
    cond (ltb 0 (there - home) && leb (load + weight) cap) (Some offer) None

-- what a rank offers a vertex, by its load in the work slice and the vertex's tally behind the loads
abbrev pub rank_offer : List ℕ → (scratch : ℕ) → Limits → (weight home rank : ℕ) → Option Offer
rank_offer w scratch limits weight home rank =
    offer_of limits.cap weight (at w (scratch + rank)) (at w (scratch + limits.ranks + rank)) home rank

-- x before y: "greatest gain", then "the one with the smaller load now", "and only then the lower crew number"
abbrev pub outbids : Offer → Offer → Bool
outbids x y = above x.gain y.gain (above y.load x.load (ltb x.rank y.rank))

-- the better of two; the first if they are the same
unfoldable pub better_offer : Option Offer → Option Offer → Option Offer
better_offer None y = y
better_offer (Some x) None = Some x
better_offer (Some x) (Some y) = Some (cond (outbids y x) y x)

-- the best of what the ranks below n offer
abbrev pub best_rank : List ℕ → (scratch : ℕ) → Limits → (weight home n : ℕ) → Option Offer
best_rank w scratch limits weight home n = foldl (λ o r. better_offer o (rank_offer w scratch limits weight home r)) None (range 0 n)

-- the rank that an offer stands for
unfoldable pub offered : Option Offer → choice.Option ℕ
offered None = choice.none
offered (Some x) = choice.some x.rank

-- ---- the answer's value; its number is number_of

abbrev pub refined_value : Result ℕ Refusal → ℕ
refined_value (Ok m) = m
refined_value (Err e) = 0

-- ---- rule 6 on a level in the work slice

-- the moves of a level, and the owners that they leave
abbrev pub moves_at : List ℕ → HierarchyLevel → Limits → ℕ → List Step
moves_at w l limits passes = (refine_by_cut (balance_in limits) (rows_at w l) (weights_at w l) passes (owners_at w l)).steps

abbrev pub moved_at : List ℕ → HierarchyLevel → Limits → ℕ → List ℕ
moved_at w l limits passes = foldl after (owners_at w l) (moves_at w l limits passes)

-- what the stage takes as given: a level whose owners are ranks, and two numbers for each rank beyond it
pub record Refinable (w : List ℕ) (l : HierarchyLevel) (scratch ranks : ℕ) : Type 0 where
  pub ready : Ready w l scratch
  pub room : scratch + 2 * ranks ≤ length w
  pub few : ranks ≤ 256
  pub ranked : Ranked w l ranks

-- "then the `from_owners` check": its number, and the number of moves where that is 0
pub record RefinedByCut (w w' : List ℕ) (l : HierarchyLevel) (scratch : ℕ) (limits : Limits) (passes : ℕ) (r : Result ℕ Refusal) : Type 0 where
  pub owners : owners_at w' l ≡ moved_at w l limits passes
  pub answer : from_owners limits.ranks (moved_at w l limits passes) ≡ 0 → r ≡ Ok (length (moves_at w l limits passes))
  pub number : number_of r ≡ from_owners limits.ranks (moved_at w l limits passes)
  pub value : refined_value r ≡ cond (eqb (from_owners limits.ranks (moved_at w l limits passes)) 0) (length (moves_at w l limits passes)) 0
  pub ready : Ready w' l scratch
  pub ranked : Ranked w' l limits.ranks
  pub kept : Kept l.owners (scratch + 2 * limits.ranks) w' w
