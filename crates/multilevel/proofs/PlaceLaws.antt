-- Laws of a level in its room: what is known of it further up, after a stage, and of its moves. Assumes nothing.
use Prim.Native.Nat.{ℕ, ◌+◌, ◌*◌, ◌≤◌}
use mathlib.Core.Path.{◌≡◌, sym, ap, ◌∙◌}
use mathlib.Core.List.{List}
use native.Mathlib.Nat.{add-mul}
use native.Mathlib.Omega.{arith}
use lib.ListN.{length}
use borrow.Author.Tests.{eq-eqb}
use Rattle.links.specs.Parts.{Kept}
use Rattle.links.specs.Owners.{from_owners}
use Rattle.links.specs.Options.{added_moves}
use Rattle.links.specs.declared.options.AbtmMultilevelStats.{AbtmMultilevelStats}
use Rattle.links.proofs.PartLaws.{length_part, kept-wide}
use Rattle.stages.specs.Level.{rows_at, weights_at, owners_at, Ready, balance_in}
use Rattle.stages.specs.MovesCode.{RefinedByCut}
use Rattle.stages.specs.declared.level.HierarchyLevel.{HierarchyLevel}
use Rattle.links.proofs.RefusalLaws.{refusal-some}
use Rattle.stages.proofs.LevelLaws.{all-vertices, rows-kept, weights-kept, ready-kept, length-neighbors, ready_by}
use Rattle.stages.proofs.StepLaws.{moves-few}
use Rattle.stages.proofs.CutLaws.{cut-entries, list-entries}
use Rattle.std.specs.Prelude.{Result, Ok, Err}
use Rattle.links.specs.Refusals.{number_of}
use Rattle.links.specs.declared.refusal.Refusal.{Refusal}
use Rattle.multilevel.specs.declared.driver.Rules.{Rules}
use Rattle.multilevel.specs.Driver.{moves_from, moved_from}
use Rattle.multilevel.specs.DriverCode.{Placed, Refining, LevelRefined}

-- the room of one level and of `left` more
pub rooms : (left unit : ℕ) → (left + 1) * unit ≡ left * unit + unit
rooms left unit = add-mul left 1 unit ∙ omega arith

module _ (w : List ℕ) (l : HierarchyLevel) (q : Rules) (left : ℕ) (p : Placed w l q left) where
  pub placed_below : l.offsets + q.unit ≤ q.scratch
  placed_below = omega (arith, p.above, rooms left q.unit)

  pub placed-ready : Ready w l q.scratch
  placed-ready = ready_by q.scratch p.ready placed_below (omega (arith, p.room))

  pub placed-last : Placed w l q 0
  placed-last =
      record {
        ready = p.ready;
        above = omega (arith, placed_below);
        room = p.room;
        some-ranks = p.some-ranks;
        few-ranks = p.few-ranks;
      }

  -- what is stored above its weights leaves it
  module _ (w' : List ℕ) (a e : ℕ) (h : l.weights + l.vertices ≤ a) (k : Kept a e w' w) where
    pub placed-rows : rows_at w' l ≡ rows_at w l
    placed-rows = rows-kept p.ready k h

    pub placed-weights : weights_at w' l ≡ weights_at w l
    placed-weights = weights-kept p.ready k h

    pub placed-kept : Placed w' l q left
    placed-kept =
        record {
          ready = ready-kept p.ready k h;
          above = p.above;
          room = omega (arith, p.room, k.same_length);
          some-ranks = p.some-ranks;
          few-ranks = p.few-ranks;
        }

-- a frame up to some place is a frame up to the end
pub kept-all : (a e : ℕ) (w' w : List ℕ) → Kept a e w' w → e ≤ length w → Kept a (length w) w' w
kept-all a e w' w k h = kept-wide a e a (length w) w' w (omega arith) h k

-- ---- moves

module _ (w : List ℕ) (l : HierarchyLevel) (q : Rules) (p : Refining w l q) where
  length-owners : length (owners_at w l) ≡ l.vertices
  length-owners = length_part w l.owners (l.owners + l.vertices) (omega arith) (omega (arith, p.placed.ready.laid, p.placed.ready.inside)) ∙ omega arith

  -- no more moves than entries
  pub few-moves : length (moves_from (balance_in q.limits) q.passes (rows_at w l) (weights_at w l) (owners_at w l)) ≤ 131072
  unfolding moves_from
  few-moves =
      let r = p.placed.ready in
      let rows = rows_at w l in
      let n : length (owners_at w l) ≡ length rows = length-owners ∙ sym (all-vertices r) in
      omega
      (arith, moves-few (balance_in q.limits) rows (weights_at w l) r.lists.sound q.passes (owners_at w l) n, cut-entries rows (owners_at w l), list-entries _ _ r.lists, length-neighbors r, r.short)

  -- what `refine_by_cut` answered
  pub level-moved
      : (w' : List ℕ) (s t : AbtmMultilevelStats) (m : ℕ)
      → RefinedByCut w w' l q.scratch q.limits q.passes (Ok m)
      → t ≡ added_moves s m
      → LevelRefined w w' l q s (Ok t)
  unfolding moves_from moved_from
  level-moved w' s t m r e =
      let number = from_owners q.limits.ranks (moved_from (balance_in q.limits) q.passes (rows_at w l) (weights_at w l) (owners_at w l)) in
      let z : number ≡ 0 = sym r.number in
      let v : m ≡ length (moves_from (balance_in q.limits) q.passes (rows_at w l) (weights_at w l) (owners_at w l)) = r.value ∙ rw (eq-eqb number 0 z) in
      record {
        owners-are = r.owners;
        answer-is = record { number = r.number; stats = λ y. ap Ok (e ∙ ap (added_moves s) v) };
        few = few-moves;
        kept = kept-all l.owners (q.scratch + 2 * q.limits.ranks) w' w r.kept (omega (arith, p.placed.room));
      }

  pub level-refused
      : (w' : List ℕ) (a : Result ℕ Refusal) (s : AbtmMultilevelStats) (x : Refusal)
      → RefinedByCut w w' l q.scratch q.limits q.passes a
      → a ≡ Err x
      → LevelRefined w w' l q s (Err x)
  unfolding moves_from moved_from
  level-refused w' a s x r e =
      let number = sym (ap number_of e) ∙ r.number in
      record {
        owners-are = r.owners;
        answer-is = record { number = number; stats = λ z. absurd (refusal-some x (number ∙ z)) };
        few = few-moves;
        kept = kept-all l.owners (q.scratch + 2 * q.limits.ranks) w' w r.kept (omega (arith, p.placed.room));
      }
