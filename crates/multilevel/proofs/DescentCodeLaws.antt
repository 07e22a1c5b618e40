-- The laws of the descent, as `solve` meets them: with the positions that its calls gave. Assumes nothing.
use Prim.Native.Nat.{ℕ, suc, ◌+◌, ◌-◌, ◌≤◌, ◌<◌}
use mathlib.Core.Path.{◌≡◌, sym, ◌∙◌}
use mathlib.Core.List.{List}
use native.Mathlib.Omega.{arith}
use Rattle.links.specs.Options.{added_pairs}
use Rattle.links.specs.declared.options.AbtmMultilevelStats.{AbtmMultilevelStats}
use Rattle.stages.specs.CoarsenCode.{Coarsenable, CoarsenedOnce, step_of, next_of}
use Rattle.stages.specs.declared.level.HierarchyLevel.{HierarchyLevel}
use Rattle.stages.specs.declared.coarsen.Smaller.{Smaller}
use Rattle.std.specs.Prelude.{Result, Ok, Err, Option, Some, None}
use Rattle.links.specs.declared.refusal.Refusal.{Refusal}
use Rattle.multilevel.specs.declared.driver.Rules.{Rules}
use Rattle.stages.specs.Level.{Laid, moved_up, resized}
use Rattle.multilevel.specs.Room.{Stacked, TakenOver}
use Rattle.multilevel.specs.DriverCode.{Placed, Refining, LevelRefined, LevelGrown, LevelSolved}
use Rattle.multilevel.proofs.PlaceLaws.{placed-last}
use Rattle.multilevel.proofs.DescentLaws.{answer-same, Fewer, answer-fewer, solved-small, solved-same, coarsenable, step_kept, step-placed, coarse-placed, solved-refused, stacked, refining, solved-finer}

-- a level's own parts, up to its end
pub laid-alone : {l : HierarchyLevel} {end : ℕ} → Laid l end → Laid l (l.owners + l.vertices)
laid-alone a =
    record {
      offsets-in = a.offsets-in;
      neighbors-in = a.neighbors-in;
      weights-in = a.weights-in;
      map-in = a.map-in;
      owners-in = omega arith;
    }

module _ (w : List ℕ) (l : HierarchyLevel) (q : Rules) (left : ℕ) (p : Placed w l q left) (nz : left ≡ 0 → ⊥) where
  one_less : left ≡ suc (left - 1)
  one_less = omega arith

  pub code-small : (w₂ : List ℕ) (a : Result AbtmMultilevelStats Refusal) → l.vertices ≤ q.stop → LevelGrown w w₂ l q a → LevelSolved w w₂ l q left a
  code-small = solved-small w l q left p (left - 1) one_less

  module _ (next : HierarchyLevel) (en : next ≡ moved_up l q.unit) where
    pub code-coarsenable : Coarsenable w l next q.scratch
    code-coarsenable = rw en (coarsenable w l q left p (left - 1) one_less)

    module _ (hs : q.stop < l.vertices) (w₁ : List ℕ) (a₁ : Option Smaller) (c : CoarsenedOnce w w₁ l next q.scratch a₁) where
      step : CoarsenedOnce w w₁ l (moved_up l q.unit) q.scratch a₁
      step = rw en at c

      pub code-regrown : Placed w₁ l q 0
      code-regrown = placed-last w₁ l q left (step-placed w l q left p (left - 1) one_less w₁ a₁ step)

      -- the step did not shrink
      pub code_same : (w₂ : List ℕ) (a : Result AbtmMultilevelStats Refusal) → a₁ ≡ None → LevelGrown w₁ w₂ l q a → LevelSolved w w₂ l q left a
      code_same w₂ a e g =
          solved-same w l q left p (left - 1) one_less w₁ w₂ a hs (answer-same (step_of w l) l.vertices (sym e ∙ step.answer)) (step_kept w l q left p (left - 1) one_less w₁ a₁ step) g

      -- it did
      module _ (r : Smaller) (ea : a₁ ≡ Some r) (coarse : HierarchyLevel) (ec : coarse ≡ resized next r.groups r.entries) where
        fewer : Fewer (step_of w l) l.vertices r.groups r.entries r.pairs r.singletons
        fewer = answer-fewer (step_of w l) l.vertices r (sym ea ∙ step.answer)

        coarse-is : coarse ≡ next_of (moved_up l q.unit) (step_of w l)
        coarse-is = ec ∙ rw (en, fewer.groups-are, fewer.entries-are)

        pub code-placed : Placed w₁ coarse q (left - 1)
        code-placed = rw coarse-is (coarse-placed w l q left p (left - 1) one_less w₁ a₁ step)

        module _ (w₂ : List ℕ) (a₂ : Result AbtmMultilevelStats Refusal) (s : LevelSolved w₁ w₂ coarse q (left - 1) a₂) where
          below : LevelSolved w₁ w₂ (next_of (moved_up l q.unit) (step_of w l)) q (left - 1) a₂
          below = rw coarse-is at s

          pub code-refused : (x : Refusal) → a₂ ≡ Err x → LevelSolved w w₂ l q left (Err x)
          code-refused = solved-refused w l q left p (left - 1) one_less w₁ a₁ step w₂ a₂ below hs fewer.fewer

          module _ (t : AbtmMultilevelStats) (et : a₂ ≡ Ok t) where
            pub code-stacked : Stacked w₂ l coarse
            code-stacked = rw coarse-is (stacked w l q left p (left - 1) one_less w₁ a₁ step w₂ a₂ below hs fewer.fewer t et)

            module _ (w₃ : List ℕ) (o : TakenOver w₂ w₃ l coarse) where
              taken : TakenOver w₂ w₃ l (next_of (moved_up l q.unit) (step_of w l))
              taken = rw coarse-is at o

              pub code-refining : Refining w₃ l q
              code-refining = refining w l q left p (left - 1) one_less w₁ a₁ step w₂ a₂ below hs fewer.fewer t et w₃ taken

              pub code-finer
                  : (w₄ : List ℕ) (t' : AbtmMultilevelStats) (a : Result AbtmMultilevelStats Refusal)
                  → t' ≡ added_pairs t r.pairs r.singletons
                  → left ≤ 32
                  → LevelRefined w₃ w₄ l q t' a
                  → LevelSolved w w₄ l q left a
              code-finer w₄ t' a ep hl x =
                  let e : t' ≡ added_pairs t (step_of w l).pairs (step_of w l).singletons = ep ∙ rw (fewer.pairs-are, fewer.singletons-are) in
                  solved-finer w l q left p (left - 1) one_less w₁ a₁ step w₂ a₂ below hs fewer.fewer t et w₃ taken w₄ t' e (omega arith) a x
