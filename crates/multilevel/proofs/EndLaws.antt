-- Laws of the division's end in the work slice: swaps and measures, owners written, work zeroed. Assumes nothing.
use Prim.Native.Nat.{ℕ, ◌+◌, ◌-◌, ◌*◌, ◌≤◌, ◌<◌}
use mathlib.Core.Path.{◌≡◌, refl, sym, ap, ◌∙◌}
use mathlib.Core.List.{List, ◌++◌}
use native.Mathlib.Nat.{mul_assoc}
use native.Mathlib.Omega.{arith}
use lib.ListN.{length, take, drop, replicate, length-append}
use lib.Seq.{length-take-le, drop_at}
use Rattle.links.specs.Lists.{foldl}
use Rattle.links.specs.Parts.{filled_part}
use Rattle.links.specs.Loads.{Balance, balance}
use Rattle.links.specs.Graph.{vertex_count, cut_entries, volume}
use Rattle.links.specs.Options.{added_moves, measured_stats}
use Rattle.links.specs.declared.options.AbtmMultilevelStats.{AbtmMultilevelStats}
use Rattle.links.proofs.RowLaws.{all-place, by_place}
use Rattle.links.proofs.PartLaws.{length_part, kept-part-before, filled_is}
use Rattle.stages.specs.Level.{rows_at, weights_at, owners_at, balance_in}
use Rattle.stages.specs.Moves.{after}
use Rattle.stages.specs.Swaps.{refine_fine_pair_swaps}
use Rattle.stages.specs.SwapsCode.{RefinedBySwaps, swaps_at}
use Rattle.stages.specs.declared.level.HierarchyLevel.{HierarchyLevel}
use Rattle.stages.proofs.LevelLaws.{all-vertices, rows-kept, length-neighbors}
use Rattle.stages.proofs.StepLaws.{swaps-few}
use Rattle.stages.proofs.CutLaws.{cut-entries, list-entries}
use Rattle.std.specs.Prelude.{Result, Ok, Err}
use Rattle.links.specs.declared.refusal.Refusal.{Refusal}
use Rattle.multilevel.specs.declared.driver.Rules.{Rules}
use Rattle.multilevel.specs.declared.measure.Measures.{Measures}
use Rattle.multilevel.specs.Causes.{Call, Limited, need_of, early_cause}
use Rattle.multilevel.specs.Division.{Outcome, divided, swapping_of, division}
use Rattle.multilevel.specs.Demand3.{site_rows, balance_of, kept_steps}
use Rattle.multilevel.specs.Room.{SiteFits, SiteLaid}
use Rattle.multilevel.specs.Measure.{Measurable, Measured}
use Rattle.multilevel.specs.Driver.{solved, finest_swaps, Told}
use Rattle.multilevel.specs.Contract.{owners_after, Partitioned}
use Rattle.multilevel.specs.DriverCode.{Placed, LevelSolved, Finishing, LevelFinished, rules_for, site_level, Divisible, SiteDivided}
use Rattle.multilevel.proofs.DivisionLaws.{tested}
use Rattle.multilevel.proofs.SolveLaws.{divided-of, told-ranked}
use Rattle.multilevel.proofs.PlaceLaws.{placed-ready, placed-kept, placed-rows, placed-weights}
use Rattle.multilevel.proofs.FinishLaws.{finish-refused, finish-divided, partitioned-with}
use Rattle.multilevel.proofs.CallLaws.{with_work, exact-passes, same-run, same-balance, work-parts, site-fits, site-placed, site-told, weights-laid}

-- ---- swaps and measures

module _ (w : List ℕ) (l : HierarchyLevel) (q : Rules) (lists : ℕ) (f : Finishing w l q lists) (w₁ : List ℕ) (swaps : ℕ) (r : RefinedBySwaps w w₁ l q.scratch q.limits q.swapping swaps) where
  owned : length (owners_at w l) ≡ l.vertices
  owned = length_part w l.owners (l.owners + l.vertices) (omega arith) (omega (arith, f.ready.laid, f.ready.inside)) ∙ omega arith

  owned₁ : length (owners_at w₁ l) ≡ l.vertices
  owned₁ = length_part w₁ l.owners (l.owners + l.vertices) (omega arith) (omega (arith, r.ready.laid, r.ready.inside)) ∙ omega arith

  pub measurable : Measurable w₁ l q.scratch q.limits.ranks
  measurable =
      record {
        ready = r.ready;
        owned = by_place (λ x. x < q.limits.ranks) (owners_at w₁ l) (λ v h. r.ranked v (omega (arith, owned₁)));
        few-ranks = f.few-ranks;
        inside = omega (arith, f.room, f.lists-in, r.kept.same_length);
      }

  few-swaps : length (swaps_at w l q.limits q.swapping) ≤ 131072
  few-swaps =
      let rows = rows_at w l in
      let n : length (owners_at w l) ≡ length rows = owned ∙ sym (all-vertices f.ready) in
      omega
      (arith, swaps-few (balance_in q.limits) rows (weights_at w l) f.ready.lists.sound q.swapping.list_length q.swapping.passes (owners_at w l) n, cut-entries rows (owners_at w l), list-entries _ _ f.ready.lists, length-neighbors f.ready, f.ready.short)

  pub finished
      : (w₂ : List ℕ) (m : Measures) (s s₁ s₂ : AbtmMultilevelStats)
      → Measured w₁ w₂ l q.scratch q.limits.ranks m
      → s₁ ≡ added_moves s swaps
      → s₂ ≡ measured_stats s₁ m.cut m.volume
      → LevelFinished w w₂ l q s s₂
  finished w₂ m s s₁ s₂ k e₁ e₂ =
      let same : owners_at w₂ l ≡ owners_at w₁ l =
      kept-part-before q.scratch (q.scratch + q.limits.ranks) w₂ w₁ k.frame l.owners (l.owners + l.vertices) (omega (arith, r.ready.laid)) in
      let rows : rows_at w₁ l ≡ rows_at w l = rows-kept f.ready r.kept (omega (arith, f.ready.laid)) in
      let cut : m.cut ≡ cut_entries (rows_at w l) (owners_at w₂ l) = k.cut-counted ∙ rw (rows, same) in
      let vol : m.volume ≡ volume (rows_at w l) (owners_at w₂ l) q.limits.ranks = k.volume-counted ∙ rw (rows, same) in
      record {
        owners-are = same ∙ r.owners;
        few = few-swaps;
        stats-are = e₂ ∙ rw (e₁, r.number, cut, vol);
        same_length = k.frame.same_length ∙ r.kept.same_length;
      }

-- ---- the site

ranks-are : (c : Call) → (balance_of c).ranks ≡ c.ranks
unfolding balance
ranks-are c = refl

module _ (c : Call) (w : List ℕ) (d : Divisible c w) where
  pub site-short : length c.workloads ≤ 16384
  site-short = let t = tested c d.passed in omega (arith, t.workloads.sized, t.few-vertices)

  pub site-limits : Limited (vertex_count c.offsets) (length c.neighbors) c.ranks c.options.max_levels × (c.options.imbalance_per_mille ≤ 500)
  site-limits =
      let t = tested c d.passed in
      (record { few-vertices = t.few-vertices; few-entries = t.few-entries; few-ranks = t.few-ranks; few-levels = t.few-levels }, t.tolerance)

  module _ (q : Rules) (eq : q ≡ rules_for c) (l : HierarchyLevel) (el : l ≡ site_level c) where
    pub code_fits : SiteFits w l c.offsets c.neighbors c.workloads
    code_fits = rw el (site-fits c w d)

    -- the room of all levels, and the lists beyond
    pub rooms-small : q.scratch + 5 * q.unit ≤ length w
    rooms-small = rw eq (omega (arith, work-parts c w d))

    module _ (w₁ : List ℕ) (s : SiteLaid w w₁ l c.offsets c.neighbors c.workloads) where
      laid : SiteLaid w w₁ (site_level c) c.offsets c.neighbors c.workloads
      laid = rw el at s

      pub code-site : Placed w₁ l q c.options.max_levels × (c.options.max_levels ≤ 32)
      code-site = (rw (el, eq) (site-placed c w d w₁ laid), (tested c d.passed).few-levels)

      module _ (w₂ : List ℕ) (a : Result AbtmMultilevelStats Refusal) (k : LevelSolved w₁ w₂ l q c.options.max_levels a) where
        above : LevelSolved w₁ w₂ (site_level c) (rules_for c) c.options.max_levels a
        above = rw (el, eq) at k

        told : Told (balance_of c) c.options.refinement_passes (site_rows c) c.workloads (kept_steps c) c.options.max_levels (owners_at w₂ (site_level c)) a
        told = site-told c w d w₁ laid w₂ a above

        pub code-refusal : (owners : List ℕ) (x : Refusal) → a ≡ Err x → SiteDivided c owners owners (Err x)
        code-refusal owners x e =
            let out = finish-refused c d.passed c.options.max_levels (owners_at w₂ (site_level c)) x (rw e at told) in
            record { answer-is = rw out (x, refl, refl); owners-are = rw out }

        module _ (t : AbtmMultilevelStats) (r : a ≡ Ok t) where
          placed₂ : Placed w₂ (site_level c) (rules_for c) c.options.max_levels
          placed₂ =
              placed-kept w₁ (site_level c) (rules_for c) c.options.max_levels (site-placed c w d w₁ laid) w₂ (site_level c).fine_to_coarse (length w₁)
              (site-placed c w d w₁ laid).ready.laid.weights-in above.kept

          same_length : length w₂ ≡ length w
          same_length = above.kept.same_length ∙ laid.frame.same_length

          pub code-finishing : Finishing w₂ l q (q.scratch + 5 * q.unit)
          code-finishing =
              let t' = tested c d.passed in
              let p = work-parts c w d in
              let k² : 24 * c.ranks * c.ranks ≡ 24 * (c.ranks * c.ranks) = mul_assoc 24 c.ranks c.ranks in
              rw (el, eq)
              (record {
                ready = placed-ready w₂ (site_level c) (rules_for c) c.options.max_levels placed₂;
                room = omega (arith, t'.enough-vertices);
                lists-in = omega (arith, same_length);
                some-listed = t'.listed.some;
                few-listed = t'.listed.few;
                few-ranks = t'.few-ranks;
                ranked = λ v h.
                    all-place (λ x. x < c.ranks) (owners_at w₂ (site_level c)) v
                    (rw (ranks-are c) at (told-ranked (balance_of c) c.options.refinement_passes (site_rows c) c.workloads (kept_steps c) c.options.max_levels (owners_at w₂ (site_level c)) t (rw r at told)))
                    (omega (arith, length_part w₂ (site_level c).owners ((site_level c).owners + (site_level c).vertices) (omega arith) (omega (arith, placed₂.ready.laid, placed₂.ready.inside))));
              })

          module _ (w₃ : List ℕ) (t' : AbtmMultilevelStats) (f : LevelFinished w₂ w₃ l q t t') where
            end : LevelFinished w₂ w₃ (site_level c) (rules_for c) t t'
            end = rw (el, eq) at f

            pub code-room : (l.owners + l.vertices ≤ length w₃) × (l.vertices ≤ c.owners_length)
            code-room = rw el (omega (arith, placed₂.ready.laid, placed₂.ready.inside, end.same_length), (tested c d.passed).owners-fit)

            rows₂ : rows_at w₂ (site_level c) ≡ site_rows c
            rows₂ =
                placed-rows w₁ (site_level c) (rules_for c) c.options.max_levels (site-placed c w d w₁ laid) w₂ (site_level c).fine_to_coarse (length w₁) (site-placed c w d w₁ laid).ready.laid.weights-in above.kept
                ∙ rw (laid.offsets-laid, laid.neighbors-laid)

            weights₂ : weights_at w₂ (site_level c) ≡ c.workloads
            weights₂ =
                placed-weights w₁ (site_level c) (rules_for c) c.options.max_levels (site-placed c w d w₁ laid) w₂ (site_level c).fine_to_coarse (length w₁) (site-placed c w d w₁ laid).ready.laid.weights-in above.kept
                ∙ weights-laid c w d w₁ laid

            -- the code's swaps are the division's
            swaps-are
                : swaps_at w₂ (site_level c) (rules_for c).limits (rules_for c).swapping
                ≡ finest_swaps (balance_of c) (swapping_of c.options) (site_rows c) c.workloads (solved (balance_of c) c.options.refinement_passes (site_rows c) c.workloads (kept_steps c))
            unfolding finest_swaps
            swaps-are =
                let z = (divided-of (solved (balance_of c) c.options.refinement_passes (site_rows c) c.workloads (kept_steps c)).refusal _ t (rw r at told.answer-is)).0 in
                let b = balance_of c in
                let n = (swapping_of c.options).list_length in
                let sw = (swapping_of c.options).passes in
                ap (λ (x : Balance). (refine_fine_pair_swaps x (rows_at w₂ (site_level c)) (weights_at w₂ (site_level c)) n sw (owners_at w₂ (site_level c))).steps) (same-balance c w d)
                ∙ ap (λ (x : List (List ℕ)). (refine_fine_pair_swaps b x (weights_at w₂ (site_level c)) n sw (owners_at w₂ (site_level c))).steps) rows₂
                ∙ ap (λ (x : List ℕ). (refine_fine_pair_swaps b (site_rows c) x n sw (owners_at w₂ (site_level c))).steps) weights₂
                ∙ ap (λ (x : List ℕ). (refine_fine_pair_swaps b (site_rows c) c.workloads n sw x).steps) (told.owners-are z)

            pub code-divided : (owners owners' : List ℕ) → owners' ≡ owners_at w₃ l ++ drop l.vertices owners → SiteDivided c owners owners' (Ok t')
            code-divided owners owners' eo =
                let o₂ = owners_at w₂ (site_level c) in
                let o₃ = owners_at w₃ (site_level c) in
                let sw = swaps_at w₂ (site_level c) (rules_for c).limits (rules_for c).swapping in
                let out : (division c).outcome ≡ divided o₃ (measured_stats (added_moves t (length sw)) (cut_entries (site_rows c) o₃) (volume (site_rows c) o₃ c.ranks)) =
                finish-divided c d.passed c.options.max_levels o₂ o₃ t (length sw) _ _ (rw r at told) (tested c d.passed).few-levels
                (end.owners-are ∙ ap (foldl after o₂) swaps-are) (ap length swaps-are) end.few refl refl in
                let stats : t' ≡ measured_stats (added_moves t (length sw)) (cut_entries (site_rows c) o₃) (volume (site_rows c) o₃ c.ranks) = end.stats-are ∙ rw rows₂ in
                let n : length o₃ ≡ (site_level c).vertices =
                length_part w₃ (site_level c).owners ((site_level c).owners + (site_level c).vertices) (omega arith) (omega (arith, placed₂.ready.laid, placed₂.ready.inside, end.same_length)) ∙ omega arith in
                record {
                  answer-is = rw out (ap Ok stats);
                  owners-are = rw (out, n) (rw el at eo);
                }

-- ---- the whole

module _ (c : Call) (z : early_cause c ≡ 0) where
  pub whole-limits : Limited (vertex_count c.offsets) (length c.neighbors) c.ranks c.options.max_levels
  whole-limits =
      let t = tested c z in
      record { few-vertices = t.few-vertices; few-entries = t.few-entries; few-ranks = t.few-ranks; few-levels = t.few-levels }

  module _ (work : List ℕ) (el : length work ≡ c.work_length) (need : ℕ) (en : need ≡ need_of c) where
    pub whole-fits : need ≤ length work
    whole-fits = omega (arith, (tested c z).work-fits)

    pub part_length : length (take need work) ≡ need_of c
    part_length = length-take-le need work (omega (arith, whole-fits)) ∙ omega arith

    pub whole-divisible : Divisible (with_work c (length (take need work))) (take need work)
    whole-divisible = rw part_length (record { passed = exact-passes c z; exact = part_length })

    whole-given-back : (x : List ℕ) → length x ≡ length (take need work) → need ≤ length (x ++ drop need work)
    whole-given-back x e = omega (arith, e ∙ part_length, length-append x (drop need work))

    -- work is zeroed, and what is beyond it untouched
    pub whole-zeroed : (x : List ℕ) → length x ≡ length (take need work) → filled_part (x ++ drop need work) 0 need 0 ≡ replicate (need_of c) 0 ++ drop (need_of c) work
    whole-zeroed x e =
        let n : need - 0 ≡ need_of c = omega arith in
        let m : length x ≡ need_of c = e ∙ part_length in
        filled_is (x ++ drop need work) 0 need 0 (omega arith) (whole-given-back x e) ∙ rw (n, en, drop_at x (drop (need_of c) work) (need_of c) m)

    pub whole-partitioned
        : (owners owners' work' : List ℕ) (a : Result AbtmMultilevelStats Refusal)
        → work' ≡ replicate (need_of c) 0 ++ drop (need_of c) work
        → SiteDivided (with_work c (length (take need work))) owners owners' a
        → Partitioned c owners owners' work work' a
    whole-partitioned owners owners' work' a ew s =
        let out : (division (with_work c (length (take need work)))).outcome ≡ (division c).outcome = rw part_length (same-run c z) in
        partitioned-with c owners owners' work work' (division c).outcome a z refl (rw out at s.answer-is) (s.owners-are ∙ ap (λ (o : Outcome). owners_after o owners) out) ew
