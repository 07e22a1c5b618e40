-- Laws of the driver's descent: a level that is not coarsened, and one over the coarser level that a step made. Assumes nothing.
use Prim.Native.Nat.{ℕ, suc, ◌+◌, ◌*◌, ◌≤◌, ◌<◌}
use mathlib.Core.Path.{◌≡◌, refl, ap, ◌∙◌}
use mathlib.Core.List.{List, [], ◌∷◌, map}
use native.Mathlib.Nat.{suc-mul}
use native.Mathlib.Omega.{arith}
use lib.ListN.{length}
use lib.Dec.{eqb, ltb}
use borrow.Author.Tests.{ltb-true, ltb-false, eqb-true, eqb-false}
use Rattle.links.specs.Lists.{at, All}
use Rattle.links.specs.Parts.{Kept}
use Rattle.links.specs.Owners.{from_owners}
use Rattle.links.specs.Options.{added_pairs, added_moves}
use Rattle.links.specs.declared.options.AbtmMultilevelStats.{AbtmMultilevelStats}
use Rattle.links.proofs.ListLaws.{split}
use Rattle.links.proofs.RowLaws.{all-place, by_place}
use Rattle.links.proofs.PartLaws.{length_part, kept-wide, kept_trans, kept-part-before}
use Rattle.std.specs.Prelude.{Option, Some, None}
use Rattle.stages.specs.Coarsen.{Coarse}
use Rattle.stages.specs.Level.{rows_at, weights_at, group_at, owners_at, Laid, balance_in, moved_up}
use Rattle.stages.specs.CoarsenCode.{Coarsenable, CoarsenedOnce, step_of, entries_of, next_of, answer_of}
use Rattle.stages.specs.declared.level.HierarchyLevel.{HierarchyLevel}
use Rattle.stages.specs.declared.coarsen.Smaller.{Smaller}
use Rattle.stages.proofs.LevelLaws.{all-vertices}
use Rattle.stages.proofs.GroupingLaws.{coarse-counted, coarse-weighed}
use Rattle.stages.proofs.RankLaws.{taken-ranked}
use Rattle.std.specs.Prelude.{Result, Ok, Err}
use Rattle.links.specs.declared.refusal.Refusal.{Refusal}
use Rattle.multilevel.specs.declared.driver.Rules.{Rules}
use Rattle.multilevel.specs.Division.{coarsenings}
use Rattle.multilevel.specs.Room.{Stacked, TakenOver}
use Rattle.multilevel.specs.Driver.{moves_from, moved_from, AnswerFor, Told}
use Rattle.multilevel.specs.DriverCode.{Placed, Refining, LevelRefined, LevelGrown, LevelSolved}
use Rattle.multilevel.proofs.DriverLaws.{coarsen-last, coarsen-small, coarsen-same, coarsen-more}
use Rattle.multilevel.proofs.SolveLaws.{refused-as, finer-refused, finer-check, finer-moved, told-ranked}
use Rattle.multilevel.proofs.PlaceLaws.{rooms, placed-last, placed-rows, placed-weights, placed-kept, kept-all}

-- ---- what a step's answer says

module _ (c : Coarse) (n : ℕ) where
  -- no fewer groups
  pub answer-same : None ≡ answer_of c n → n ≤ length c.weights
  answer-same e = split (ltb (length c.weights) n)
      (λ p. let q : None ≡ smaller = e ∙ rw p in absurd cc)
      (λ p. ltb-false (length c.weights) n p)
    where
      smaller : Option Smaller
      smaller = Some (record { groups = length c.weights; entries = entries_of c; pairs = c.pairs; singletons = c.singletons })

  -- fewer: these are its numbers
  pub record Fewer (groups entries pairs singletons : ℕ) : Type 0 where
    pub fewer : length c.weights < n
    pub groups-are : groups ≡ length c.weights
    pub entries-are : entries ≡ entries_of c
    pub pairs-are : pairs ≡ c.pairs
    pub singletons-are : singletons ≡ c.singletons

  pub answer-fewer : (f : Smaller) → Some f ≡ answer_of c n → Fewer f.groups f.entries f.pairs f.singletons
  answer-fewer f e = split (ltb (length c.weights) n)
      (λ p.
      let q : Some f ≡ Some smaller = e ∙ rw p in
      let z : f ≡ smaller = cc in
      record {
        fewer = ltb-true (length c.weights) n p;
        groups-are = ap (λ (x : Smaller). x.groups) z;
        entries-are = ap (λ (x : Smaller). x.entries) z;
        pairs-are = ap (λ (x : Smaller). x.pairs) z;
        singletons-are = ap (λ (x : Smaller). x.singletons) z;
      })
      (λ p. let q : Some f ≡ None = e ∙ rw p in absurd cc)
    where
      smaller : Smaller
      smaller = record { groups = length c.weights; entries = entries_of c; pairs = c.pairs; singletons = c.singletons }

-- ---- a level that is not coarsened

module _ (w : List ℕ) (l : HierarchyLevel) (q : Rules) (left : ℕ) (p : Placed w l q left) where
  below-map : l.weights + l.vertices ≤ l.fine_to_coarse
  below-map = p.ready.laid.weights-in

  below-owners : l.fine_to_coarse ≤ l.owners
  below-owners = omega (arith, p.ready.laid.map-in)

  -- grown after what a discarded step left
  uncoarsened
      : (w₁ w₂ : List ℕ) (a : Result AbtmMultilevelStats Refusal)
      → Kept l.fine_to_coarse (length w) w₁ w
      → coarsenings left q.stop (rows_at w l) (weights_at w l) ≡ []
      → LevelGrown w₁ w₂ l q a
      → LevelSolved w w₂ l q left a
  uncoarsened w₁ w₂ a k e g =
      record {
        told =
            rw (e, ← (placed-rows w l q left p w₁ l.fine_to_coarse (length w) below-map k), ← (placed-weights w l q left p w₁ l.fine_to_coarse (length w) below-map k)) (g.told left);
        kept =
            kept_trans l.fine_to_coarse (length w) w₂ w₁ w
            (kept-wide l.owners (length w₁) l.fine_to_coarse (length w) w₂ w₁ below-owners (omega (arith, k.same_length)) g.kept) k;
      }

  same-slice : Kept l.fine_to_coarse (length w) w w
  same-slice = record { same_length = refl; below = λ i h. refl; beyond = λ i h. refl }

  pub solved-last : (w₂ : List ℕ) (a : Result AbtmMultilevelStats Refusal) → left ≡ 0 → LevelGrown w w₂ l q a → LevelSolved w w₂ l q left a
  solved-last w₂ a e g =
      uncoarsened w w₂ a same-slice (ap (λ (n : ℕ). coarsenings n q.stop (rows_at w l) (weights_at w l)) e ∙ coarsen-last q.stop (rows_at w l) (weights_at w l)) g

  module _ (m : ℕ) (e : left ≡ suc m) where
    pub solved-small : (w₂ : List ℕ) (a : Result AbtmMultilevelStats Refusal) → l.vertices ≤ q.stop → LevelGrown w w₂ l q a → LevelSolved w w₂ l q left a
    solved-small w₂ a h g =
        let n = all-vertices p.ready in
        uncoarsened w w₂ a same-slice
        (ap (λ (n : ℕ). coarsenings n q.stop (rows_at w l) (weights_at w l)) e ∙ coarsen-small q.stop (rows_at w l) (weights_at w l) m (omega (arith, n))) g

    pub solved-same
        : (w₁ w₂ : List ℕ) (a : Result AbtmMultilevelStats Refusal)
        → q.stop < l.vertices
        → l.vertices ≤ length (step_of w l).weights
        → Kept l.fine_to_coarse (length w) w₁ w
        → LevelGrown w₁ w₂ l q a
        → LevelSolved w w₂ l q left a
    solved-same w₁ w₂ a h s k g =
        let n = all-vertices p.ready in
        let r = coarse-weighed (rows_at w l) (weights_at w l) in
        uncoarsened w₁ w₂ a k
        (ap (λ (n : ℕ). coarsenings n q.stop (rows_at w l) (weights_at w l)) e ∙ coarsen-same q.stop (rows_at w l) (weights_at w l) m (omega (arith, n)) (omega (arith, n, r))) g

    -- ---- the coarser level

    abbrev up : HierarchyLevel
    up = moved_up l q.unit

    -- it lies in the next room
    pub up-laid : Laid up q.scratch
    up-laid =
        record {
          offsets-in = omega (arith, p.ready.laid);
          neighbors-in = omega (arith, p.ready.laid);
          weights-in = omega (arith, p.ready.laid);
          map-in = omega (arith, p.ready.laid);
          owners-in = omega (arith, p.ready.laid, p.above, rooms left q.unit, rooms m q.unit, ap (λ (n : ℕ). n * q.unit) e, suc-mul m q.unit);
        }

    pub coarsenable : Coarsenable w l up q.scratch
    coarsenable =
        record {
          ready = p.ready;
          laid = up-laid;
          vertices = omega arith;
          entries = omega arith;
          inside = omega (arith, p.room);
        }

    -- a step was made
    module _ (w₁ : List ℕ) (a₁ : Option Smaller) (c : CoarsenedOnce w w₁ l up q.scratch a₁) where
      pub step_kept : Kept l.fine_to_coarse (length w) w₁ w
      step_kept = kept-all l.fine_to_coarse (q.scratch + 3 * l.vertices) w₁ w c.kept (omega (arith, p.room))

      pub step-placed : Placed w₁ l q left
      step-placed = placed-kept w l q left p w₁ l.fine_to_coarse (length w) below-map step_kept

      abbrev coarse : HierarchyLevel
      coarse = next_of up (step_of w l)

      pub coarse-placed : Placed w₁ coarse q m
      coarse-placed =
          record {
            ready =
                record {
                  laid =
                      record {
                        offsets-in = c.ready.laid.offsets-in;
                        neighbors-in = c.ready.laid.neighbors-in;
                        weights-in = c.ready.laid.weights-in;
                        map-in = c.ready.laid.map-in;
                        owners-in = omega (arith, p.ready.laid, c.fewer);
                      };
                  inside = omega (arith, next-above, p.room, step_kept.same_length, rooms m q.unit);
                  lists = c.ready.lists;
                  few = c.ready.few;
                  short = c.ready.short;
                  light = c.ready.light;
                };
            above = next-above;
            room = omega (arith, p.room, c.fewer, step_kept.same_length);
            some-ranks = p.some-ranks;
            few-ranks = p.few-ranks;
          }
        where
          next-above : l.offsets + q.unit + (m + 1) * q.unit ≤ q.scratch
          next-above = omega (arith, p.above, rooms left q.unit, rooms m q.unit, ap (λ (n : ℕ). n * q.unit) e, suc-mul m q.unit)

      -- the coarser level was solved
      module _ (w₂ : List ℕ) (a₂ : Result AbtmMultilevelStats Refusal) (s : LevelSolved w₁ w₂ coarse q m a₂) where
        solved-kept : Kept l.fine_to_coarse (length w) w₂ w
        solved-kept =
            kept_trans l.fine_to_coarse (length w) w₂ w₁ w
            (kept-wide coarse.fine_to_coarse (length w₁) l.fine_to_coarse (length w) w₂ w₁ (omega arith) (omega (arith, step_kept.same_length)) s.kept) step_kept

        same-groups : group_at w₂ l ≡ group_at w₁ l
        same-groups =
            kept-part-before coarse.fine_to_coarse (length w₁) w₂ w₁ s.kept l.fine_to_coarse (l.fine_to_coarse + l.vertices)
            (omega (arith, p.ready.laid))

        told-step
            : Told (balance_in q.limits) q.passes (step_of w l).rows (step_of w l).weights (coarsenings m q.stop (step_of w l).rows (step_of w l).weights) m (owners_at w₂ coarse) a₂
        told-step = rw (c.rows, c.weights) at s.told

        module _ (h : q.stop < l.vertices) (f : length (step_of w l).weights < l.vertices) where
          steps-are
              : coarsenings left q.stop (rows_at w l) (weights_at w l)
              ≡ step_of w l ∷ coarsenings m q.stop (step_of w l).rows (step_of w l).weights
          steps-are =
              let n = all-vertices p.ready in
              let r = coarse-weighed (rows_at w l) (weights_at w l) in
              ap (λ (n : ℕ). coarsenings n q.stop (rows_at w l) (weights_at w l)) e
              ∙ coarsen-more q.stop (rows_at w l) (weights_at w l) m (omega (arith, n)) (omega (arith, n, r))

          -- it was refused
          pub solved-refused : (x : Refusal) → a₂ ≡ Err x → LevelSolved w w₂ l q left (Err x)
          solved-refused x r =
              record {
                told =
                    rw (steps-are, e)
                    (finer-refused (balance_in q.limits) q.passes (rows_at w l) (weights_at w l) (step_of w l) (coarsenings m q.stop (step_of w l).rows (step_of w l).weights) m (owners_at w₂ coarse) (owners_at w₂ l) x (rw r at told-step));
                kept = solved-kept;
              }

          -- it has owners, which l takes over
          module _ (t : AbtmMultilevelStats) (r : a₂ ≡ Ok t) where
            length-coarse : length (owners_at w₂ coarse) ≡ length (step_of w l).weights
            length-coarse =
                length_part w₂ coarse.owners (coarse.owners + coarse.vertices) (omega arith)
                (omega (arith, coarse-placed.ready.laid, coarse-placed.ready.inside, s.kept.same_length)) ∙ omega arith

            groups-below : All (λ g. g < coarse.vertices) (group_at w₂ l)
            groups-below = rw same-groups (by_place (λ g. g < coarse.vertices) (group_at w₁ l) (λ v k. c.grouped v (omega (arith, k, length-groups))))
              where
                length-groups : length (group_at w₁ l) ≡ l.vertices
                length-groups =
                    length_part w₁ l.fine_to_coarse (l.fine_to_coarse + l.vertices) (omega arith) (omega (arith, step-placed.ready.laid, step-placed.ready.inside))
                    ∙ omega arith

            pub stacked : Stacked w₂ l coarse
            stacked =
                record {
                  map-in = p.ready.laid.map-in;
                  above = omega (arith, p.ready.laid);
                  inside = omega (arith, coarse-placed.ready.laid, coarse-placed.ready.inside, s.kept.same_length);
                  groups = groups-below;
                }

            module _ (w₃ : List ℕ) (o : TakenOver w₂ w₃ l coarse) where
              taken-kept : Kept l.fine_to_coarse (length w) w₃ w
              taken-kept =
                  kept_trans l.fine_to_coarse (length w) w₃ w₂ w
                  (kept-wide l.owners (l.owners + l.vertices) l.fine_to_coarse (length w) w₃ w₂ below-owners (omega (arith, p.ready.laid, p.ready.inside)) o.frame) solved-kept

              taken-from : owners_at w₃ l ≡ map (at (owners_at w₂ coarse)) (step_of w l).group
              taken-from = o.owners ∙ ap (map (at (owners_at w₂ coarse))) (same-groups ∙ c.group)

              all-ranked : All (λ x. x < q.limits.ranks) (owners_at w₃ l)
              all-ranked =
                  rw o.owners
                  (taken-ranked q.limits.ranks (owners_at w₂ coarse) (group_at w₂ l)
                  (told-ranked (balance_in q.limits) q.passes (step_of w l).rows (step_of w l).weights (coarsenings m q.stop (step_of w l).rows (step_of w l).weights) m (owners_at w₂ coarse) t (rw r at told-step))
                  (rw length-coarse groups-below))

              pub refining : Refining w₃ l q
              refining =
                  let placed = placed-kept w l q left p w₃ l.fine_to_coarse (length w) below-map taken-kept in
                  record {
                    placed = placed-last w₃ l q left placed;
                    ranked = λ v k.
                        all-place (λ x. x < q.limits.ranks) (owners_at w₃ l) v all-ranked
                        (omega (arith, length_part w₃ l.owners (l.owners + l.vertices) (omega arith) (omega (arith, placed.ready.laid, placed.ready.inside))));
                  }

              -- and its moves are made
              module _ (w₄ : List ℕ) (t' : AbtmMultilevelStats) (et : t' ≡ added_pairs t (step_of w l).pairs (step_of w l).singletons) (hl : m ≤ 32) where
                rows_same : rows_at w₃ l ≡ rows_at w l
                rows_same = placed-rows w l q left p w₃ l.fine_to_coarse (length w) below-map taken-kept

                weights-same : weights_at w₃ l ≡ weights_at w l
                weights-same = placed-weights w l q left p w₃ l.fine_to_coarse (length w) below-map taken-kept

                pub solved-finer : (a : Result AbtmMultilevelStats Refusal) → LevelRefined w₃ w₄ l q t' a → LevelSolved w w₄ l q left a
                solved-finer a x =
                    let b = balance_in q.limits in
                    let rows = rows_at w l in
                    let ws = weights_at w l in
                    let number = from_owners q.limits.ranks (moved_from b q.passes rows ws (owners_at w₃ l)) in
                    let moves = length (moves_from b q.passes rows ws (owners_at w₃ l)) in
                    let answer : AnswerFor number (added_moves t' moves) a = rw (rows_same, weights-same) at x.answer-is in
                    let owners : owners_at w₄ l ≡ moved_from b q.passes rows ws (owners_at w₃ l) = rw (rows_same, weights-same) at x.owners-are in
                    let few : moves ≤ 131072 = rw (rows_same, weights-same) at x.few in
                    let counted = coarse-counted rows ws in
                    let most : length (step_of w l).weights ≤ 16384 = omega (arith, p.ready.few) in
                    let rest = coarsenings m q.stop (step_of w l).rows (step_of w l).weights in
                    record {
                      told = split (eqb number 0)
                          (λ y.
                          let da : a ≡ Ok (added_moves (added_pairs t (step_of w l).pairs (step_of w l).singletons) moves) =
                          answer.stats (eqb-true number 0 y) ∙ ap (λ (z : AbtmMultilevelStats). Ok (added_moves z moves)) et in
                          rw (steps-are, e, da)
                          (finer-moved b q.passes rows ws (step_of w l) rest m (owners_at w₂ coarse) t (rw r at told-step) (owners_at w₃ l) taken-from (owners_at w₄ l) moves (eqb-true number 0 y) owners refl few hl (omega (arith, counted)) (omega (arith, counted))))
                          (λ y.
                          let ra = refused-as number (added_moves t' moves) a answer (eqb-false number 0 y) in
                          rw (steps-are, e, ra.1)
                          (finer-check b q.passes rows ws (step_of w l) rest m (owners_at w₂ coarse) t (rw r at told-step) (owners_at w₃ l) taken-from (owners_at w₄ l) ra.0 ra.2));
                      kept =
                          kept_trans l.fine_to_coarse (length w) w₄ w₃ w
                          (kept-wide l.owners (length w₃) l.fine_to_coarse (length w) w₄ w₃ below-owners (omega (arith, taken-kept.same_length)) x.kept) taken-kept;
                    }
