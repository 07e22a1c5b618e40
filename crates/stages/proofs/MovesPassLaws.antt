-- Rule 6's passes in the work slice: what a vertex's turn does to a pass, and a pass to the passes. Assumes nothing.
use Prim.Native.Nat.{ℕ, ◌+◌, ◌-◌, ◌≤◌, ◌<◌, ◌*◌}
use mathlib.Core.Path.{◌≡◌, refl, sym, ap, ◌∙◌}
use mathlib.Core.Bool.{cond}
use mathlib.Core.List.{List, [], ◌∷◌}
use native.Mathlib.Omega.{arith}
use lib.ListN.{length}
use lib.Dec.{eqb}
use borrow.Author.Tests.{eq-eqb, ne_eqb}
use Rattle.links.specs.Lists.{foldl}
use Rattle.links.specs.Parts.{Kept}
use Rattle.links.specs.Graph.{vertices}
use Rattle.links.specs.Owners.{from_owners}
use Rattle.std.specs.Prelude.{Result, Ok, Err}
use Rattle.links.specs.Refusals.{refusal_number, number_of}
use Rattle.links.specs.declared.refusal.Refusal.{Refusal}
use Rattle.links.proofs.RefusalLaws.{refusal-some}
use Rattle.links.proofs.PartLaws.{kept_refl, kept_trans, kept-wide}
use Rattle.stages.specs.Level.{offsets_at, neighbors_at, rows_at, weights_at, owners_at, Ready, balance_in}
use Rattle.stages.specs.Moves.{Step, after, move_pass, refine_by_cut}
use Rattle.stages.specs.MovesCode.{Roomed, Clear, Loaded, Moving, Stepped, moves_at, moved_at, refined_value, Refinable, RefinedByCut}
use Rattle.stages.specs.declared.level.HierarchyLevel.{HierarchyLevel}
use Rattle.stages.specs.declared.level.Limits.{Limits}
use Rattle.stages.proofs.CutLaws.{cut-entries, list-entries}
use Rattle.stages.proofs.StepLaws.{moves-few}
use Rattle.stages.proofs.MovesLaws.{Toward, toward-start, pass_left, pass-turn, pass-end, one-few, passes_left, repeat-turn, repeat-quiet, repeat-end}
use Rattle.stages.proofs.LevelLaws.{length-neighbors, length-owners, all-vertices, rows-kept, weights-kept, owners-kept, ready-kept, beneath}

-- a pass over a level as w₀ has it, from given owners
abbrev pub pass_at : List ℕ → HierarchyLevel → Limits → List ℕ → List Step
pass_at w₀ l limits owners = move_pass (balance_in limits) (rows_at w₀ l) (weights_at w₀ l) (vertices (rows_at w₀ l)) owners

-- a pass at vertex v, and the passes at pass p: what stands in the slice, and that the rest leads to the same end
pub record Passing (w₀ w : List ℕ) (l : HierarchyLevel) (scratch : ℕ) (limits : Limits) (moved v : ℕ) : Type 0 where
  pub moving : Moving w l scratch limits.ranks
  pub kept : Kept l.owners (scratch + 2 * limits.ranks) w w₀
  pub toward
      : Toward (owners_at w₀ l) (pass_at w₀ l limits (owners_at w₀ l)) (owners_at w l) moved
      (pass_left (balance_in limits) (rows_at w₀ l) (weights_at w₀ l) l.vertices v (owners_at w l))

pub record Repeating (w₀ w : List ℕ) (l : HierarchyLevel) (scratch : ℕ) (limits : Limits) (passes total p : ℕ) : Type 0 where
  pub moving : Moving w l scratch limits.ranks
  pub kept : Kept l.owners (scratch + 2 * limits.ranks) w w₀
  pub toward : Toward (owners_at w₀ l) (moves_at w₀ l limits passes) (owners_at w l) total (passes_left (pass_at w₀ l limits) passes p (owners_at w l))

module _ {w₀ : List ℕ} {l : HierarchyLevel} {scratch : ℕ} (limits : Limits) (m : Moving w₀ l scratch limits.ranks) where
  abbrev ranks : ℕ
  ranks = limits.ranks

  abbrev end : ℕ
  end = scratch + 2 * ranks

  ready : Ready w₀ l scratch
  ready = m.weighed.ready

  -- ---- a pass

  pub pass-starts : Passing w₀ w₀ l scratch limits 0 0
  pass-starts =
      let e : l.vertices - 0 ≡ length (rows_at w₀ l) = omega (arith, all-vertices ready) in
      record {
        moving = m;
        kept = kept_refl l.owners end w₀;
        toward = rw e (toward-start (owners_at w₀ l) (pass_at w₀ l limits (owners_at w₀ l)));
      }

  module _ {w w' : List ℕ} {moved v count : ℕ} (d : Passing w₀ w l scratch limits moved v) (h : v < l.vertices)
      (s : Stepped w w' l scratch ranks (move_pass (balance_in limits) (rows_at w l) (weights_at w l) (v ∷ []) (owners_at w l)) count) where
    one : List Step
    one = move_pass (balance_in limits) (rows_at w₀ l) (weights_at w₀ l) (v ∷ []) (owners_at w l)

    same : move_pass (balance_in limits) (rows_at w l) (weights_at w l) (v ∷ []) (owners_at w l) ≡ one
    unfolding one
    same = rw (rows-kept ready d.kept (beneath ready (omega arith)), weights-kept ready d.kept (beneath ready (omega arith)))

    pub turn-few : count ≤ 1
    turn-few = omega (arith, s.number, one-few (balance_in limits) (rows_at w l) (weights_at w l) v (owners_at w l))

    pub turn-goes : Passing w₀ w' l scratch limits (moved + count) (v + 1)
    unfolding one
    turn-goes =
        let n : count ≡ length one = s.number ∙ ap length same in
        record {
          moving = s.moving;
          kept = kept_trans l.owners end w' w w₀ s.kept d.kept;
          toward = rw n (pass-turn (balance_in limits) (rows_at w₀ l) (weights_at w₀ l) (owners_at w₀ l) (pass_at w₀ l limits (owners_at w₀ l))
              l.vertices v (owners_at w l) (owners_at w' l) moved h
              (s.owners ∙ ap (foldl after (owners_at w l)) same) d.toward);
        }

  pub pass-done : {w : List ℕ} {moved v : ℕ} → l.vertices ≤ v → Passing w₀ w l scratch limits moved v
      → Stepped w₀ w l scratch ranks (pass_at w₀ l limits (owners_at w₀ l)) moved
  pass-done {w} {moved} {v} h d =
      let t : Toward (owners_at w₀ l) (pass_at w₀ l limits (owners_at w₀ l)) (owners_at w l) moved [] =
      rw (pass-end (balance_in limits) (rows_at w₀ l) (weights_at w₀ l) l.vertices v (owners_at w l) h) at d.toward in
      record { owners = t.end; number = omega (arith, t.count); moving = d.moving; kept = d.kept }

  -- ---- the passes

  module _ (passes : ℕ) where
    -- there are fewer moves than neighbor entries
    pub moves-bound : length (moves_at w₀ l limits passes) ≤ 131072
    moves-bound =
        omega (
          arith,
          moves-few (balance_in limits) (rows_at w₀ l) (weights_at w₀ l) ready.lists.sound passes (owners_at w₀ l)
              (length-owners ready ∙ sym (all-vertices ready)),
          cut-entries (rows_at w₀ l) (owners_at w₀ l),
          list-entries (offsets_at w₀ l) (neighbors_at w₀ l) ready.lists,
          length-neighbors ready,
          ready.short,
        )

    pub repeat-starts : Repeating w₀ w₀ l scratch limits passes 0 0
    unfolding refine_by_cut
    repeat-starts =
        let e : passes - 0 ≡ passes = omega arith in
        record {
          moving = m;
          kept = kept_refl l.owners end w₀;
          toward = rw (passes_left, e) (toward-start (owners_at w₀ l) (moves_at w₀ l limits passes));
        }

    module _ {w w' : List ℕ} {total p count : ℕ} (d : Repeating w₀ w l scratch limits passes total p) (h : p < passes)
        (s : Stepped w w' l scratch ranks (pass_at w l limits (owners_at w l)) count) where
      same-pass : pass_at w l limits (owners_at w l) ≡ pass_at w₀ l limits (owners_at w l)
      same-pass = rw (rows-kept ready d.kept (beneath ready (omega arith)), weights-kept ready d.kept (beneath ready (omega arith)))

      counted : count ≡ length (pass_at w₀ l limits (owners_at w l))
      counted = s.number ∙ ap length same-pass

      owned : owners_at w' l ≡ foldl after (owners_at w l) (pass_at w₀ l limits (owners_at w l))
      owned = s.owners ∙ ap (foldl after (owners_at w l)) same-pass

      kept_on : Kept l.owners end w' w₀
      kept_on = kept_trans l.owners end w' w w₀ s.kept d.kept

      -- a pass with a move
      pub repeat-goes : (count ≡ 0 → ⊥) → Repeating w₀ w' l scratch limits passes (total + count) (p + 1)
      repeat-goes z = record {
        moving = s.moving;
        kept = kept_on;
        toward = rw (counted, owned) (repeat-turn (pass_at w₀ l limits) (owners_at w₀ l) (moves_at w₀ l limits passes) passes p (owners_at w l)
            total h d.toward (λ e. z (counted ∙ e)));
      }

      -- one without is the last
      pub repeat-stops : count ≡ 0 → Stepped w₀ w' l scratch ranks (moves_at w₀ l limits passes) total
      repeat-stops z =
          let t : Toward (owners_at w₀ l) (moves_at w₀ l limits passes) (owners_at w' l) total [] =
          rw owned (repeat-quiet (pass_at w₀ l limits) (owners_at w₀ l) (moves_at w₀ l limits passes) passes p (owners_at w l) total h d.toward
          (sym counted ∙ z)) in
          record { owners = t.end; number = omega (arith, t.count); moving = s.moving; kept = kept_on }

    pub total-few : {w : List ℕ} {total p : ℕ} → Repeating w₀ w l scratch limits passes total p → total ≤ 131072
    total-few d = omega (arith, d.toward.count, moves-bound)

    pub repeat-done : {w : List ℕ} {total p : ℕ} → passes ≤ p → Repeating w₀ w l scratch limits passes total p
        → Stepped w₀ w l scratch ranks (moves_at w₀ l limits passes) total
    repeat-done {w} {total} {p} h d =
        let t : Toward (owners_at w₀ l) (moves_at w₀ l limits passes) (owners_at w l) total [] =
        rw (repeat-end (pass_at w₀ l limits) passes p (owners_at w l) h) at d.toward in
        record { owners = t.end; number = omega (arith, t.count); moving = d.moving; kept = d.kept }

-- ---- the stage

module _ {w w₁ : List ℕ} {l : HierarchyLevel} {scratch : ℕ} (limits : Limits) (q : Refinable w l scratch limits.ranks) (k₁ : Kept scratch (scratch + 2 * limits.ranks) w₁ w) where
  abbrev many : ℕ
  many = limits.ranks

  low : l.owners ≤ scratch
  low = omega (arith, q.ready.laid)

  -- the loads and tallies are 0
  pub cleared-roomed : Roomed w₁ l scratch many
  cleared-roomed = record {
    ready = ready-kept q.ready k₁ (beneath q.ready low);
    room = omega (arith, q.room, k₁.same_length);
    ranked = λ v h. rw (owners-kept q.ready k₁ (omega arith)) (q.ranked v h);
  }

  -- the loads are reckoned
  module _ {w₂ : List ℕ} (z : Clear w₁ scratch (2 * many)) (d : Loaded w₂ l scratch many) (k₂ : Kept scratch (scratch + many) w₂ w₁) where
    kept : Kept scratch (scratch + 2 * many) w₂ w
    kept = kept_trans scratch (scratch + 2 * many)
        w₂ w₁ w (kept-wide scratch (scratch + many) scratch (scratch + 2 * many) w₂ w₁ (omega arith) (omega arith) k₂) k₁

    same-owners : owners_at w₂ l ≡ owners_at w l
    same-owners = owners-kept q.ready kept (omega arith)

    pub weighed-moving : Moving w₂ l scratch many
    weighed-moving = record {
      weighed = record {
        ready = ready-kept q.ready kept (beneath q.ready low);
        room = omega (arith, q.room, kept.same_length);
        few = q.few;
        ranked = λ v h. rw same-owners (q.ranked v h);
        loaded = d;
      };
      clear = λ i h.
          let e : scratch + (many + i) ≡ scratch + many + i = omega arith in
          k₂.beyond (scratch + many + i) (omega arith) ∙ (rw e at (z (many + i) (omega arith)));
    }

    same-moves : (passes : ℕ) → moves_at w₂ l limits passes ≡ moves_at w l limits passes
    same-moves passes = rw (moves_at, rows-kept q.ready kept (beneath q.ready low), weights-kept q.ready kept (beneath q.ready low), same-owners)

    -- the moves are made, and the owners checked
    module _ {w₃ : List ℕ} {count : ℕ} (passes : ℕ) (s : Stepped w₂ w₃ l scratch many (moves_at w₂ l limits passes) count) where
      moved : owners_at w₃ l ≡ moved_at w l limits passes
      moved = s.owners ∙ rw (same-owners, same-moves passes)

      abbrev number : ℕ
      number = from_owners many (moved_at w l limits passes)

      abbrev moves : ℕ
      moves = length (moves_at w l limits passes)

      counted-moves : count ≡ moves
      counted-moves = s.number ∙ ap length (same-moves passes)

      answered
          : (r : Result ℕ Refusal)
          → number_of r ≡ number
          → (number ≡ 0 → r ≡ Ok count)
          → refined_value r ≡ cond (eqb number 0) moves 0
          → RefinedByCut w w₃ l scratch limits passes r
      answered r e f v = record {
        owners = moved;
        answer = λ z. f z ∙ ap Ok counted-moves;
        number = e;
        value = v;
        ready = s.moving.weighed.ready;
        ranked = s.moving.weighed.ranked;
        kept = kept_trans l.owners (scratch + 2 * many) w₃ w₂ w s.kept
            (kept-wide scratch (scratch + 2 * many) l.owners (scratch + 2 * many) w₂ w low (omega arith) kept);
      }

      -- what the check answered of the owners after the moves
      pub was-valid : 0 ≡ from_owners many (owners_at w₃ l) → RefinedByCut w w₃ l scratch limits passes (Ok count)
      was-valid e =
          let z : 0 ≡ number = rw moved at e in
          answered (Ok count) z (λ y. refl) (counted-moves ∙ rw (eq-eqb number 0 (sym z)))

      pub was-refused : (x : Refusal) → refusal_number x ≡ from_owners many (owners_at w₃ l) → RefinedByCut w w₃ l scratch limits passes (Err x)
      was-refused x e =
          let z : refusal_number x ≡ number = rw moved at e in
          answered (Err x) z (λ y. absurd (refusal-some x (z ∙ y))) (rw (ne_eqb number 0 (λ y. refusal-some x (z ∙ y))))
