-- Laws of growth in the driver: what the stage told is the division's growth, and moves follow. Assumes nothing.
use Prim.Native.Nat.{ℕ, ◌+◌, ◌*◌, ◌≤◌, ◌<◌}
use mathlib.Core.Path.{◌≡◌, refl, sym, ap, ◌∙◌}
use mathlib.Core.Bool.{false}
use mathlib.Core.List.{List}
use native.Mathlib.Omega.{arith}
use lib.ListN.{length}
use lib.Dec.{eqb}
use borrow.Author.Tests.{eqb-true, eqb-false}
use Rattle.std.specs.Prelude.{Result, Ok, Err}
use Rattle.links.specs.Lists.{All, unassigned, any}
use Rattle.links.specs.Parts.{Kept}
use Rattle.links.specs.Owners.{from_owners}
use Rattle.links.specs.Options.{zero_stats, added_moves, grown_stats}
use Rattle.links.specs.Refusals.{number_of}
use Rattle.links.specs.declared.refusal.Refusal.{Refusal}
use Rattle.links.specs.declared.options.AbtmMultilevelStats.{AbtmMultilevelStats}
use Rattle.links.proofs.ListLaws.{split}
use Rattle.links.proofs.RowLaws.{all-place}
use Rattle.links.proofs.PartLaws.{length_part, kept-wide, kept_trans}
use Rattle.stages.specs.Seeds.{farthest_seeds}
use Rattle.stages.specs.Growth.{restart_count}
use Rattle.stages.specs.Level.{rows_at, weights_at, owners_at, balance_in}
use Rattle.stages.specs.GrowthCode.{GrownTold, growth_cause, growth_at, grown_at, grown_value}
use Rattle.stages.specs.declared.level.HierarchyLevel.{HierarchyLevel}
use Rattle.stages.proofs.LevelLaws.{all-vertices}
use Rattle.stages.proofs.GrowthLaws.{length-seeds}
use Rattle.stages.proofs.RankLaws.{grown-ranked}
use Rattle.multilevel.specs.declared.driver.Rules.{Rules}
use Rattle.multilevel.specs.Division.{grow}
use Rattle.multilevel.specs.Driver.{moves_from, moved_from, AnswerFor}
use Rattle.multilevel.specs.DriverCode.{Placed, Refining, LevelRefined, LevelGrown}
use Rattle.multilevel.proofs.SolveLaws.{refused-as, Grew, grew, grow-refusal, coarsest-grown, coarsest-check, coarsest-moved}
use Rattle.multilevel.proofs.PlaceLaws.{placed-rows, placed-weights, placed-kept, kept-all}

module _ (w : List ℕ) (l : HierarchyLevel) (q : Rules) (p : Placed w l q 0) where
  -- the stage's cause is the division's
  cause-is : growth_cause w l q.limits.ranks q.limits.cap ≡ (grow (balance_in q.limits) q.passes (rows_at w l) (weights_at w l)).refusal
  unfolding growth_cause
  cause-is = sym (grow-refusal (balance_in q.limits) q.passes (rows_at w l) (weights_at w l))

  module _ (w₁ : List ℕ) (r : Result ℕ Refusal) (t : GrownTold w w₁ l q.scratch q.limits.ranks q.limits.cap r) where
    grown-kept : Kept l.owners (length w) w₁ w
    grown-kept = kept-all l.owners (q.scratch + (3 * l.vertices + 6 * q.limits.ranks)) w₁ w t.kept (omega (arith, p.room))

    below : l.weights + l.vertices ≤ l.owners
    below = omega (arith, p.ready.laid)

    -- refused
    pub level-ungrown : (x : Refusal) → r ≡ Err x → LevelGrown w w₁ l q (Err x)
    level-ungrown x e =
        record {
          told = λ left.
              coarsest-grown (balance_in q.limits) q.passes (rows_at w l) (weights_at w l) left (owners_at w₁ l) x (sym (ap number_of e) ∙ t.number ∙ cause-is);
          kept = grown-kept;
        }

    -- grown
    module _ (restarts : ℕ) (e : r ≡ Ok restarts) where
      zero-cause : growth_cause w l q.limits.ranks q.limits.cap ≡ 0
      zero-cause = sym t.number ∙ ap number_of e

      zero-grow : (grow (balance_in q.limits) q.passes (rows_at w l) (weights_at w l)).refusal ≡ 0
      zero-grow = sym cause-is ∙ zero-cause

      ran : Grew (balance_in q.limits) q.passes (rows_at w l) (weights_at w l)
      ran = grew (balance_in q.limits) q.passes (rows_at w l) (weights_at w l) zero-grow

      owners-grown : owners_at w₁ l ≡ grown_at w l q.limits.ranks q.limits.cap
      owners-grown = t.owners ran.light ran.enough

      none_left : any (eqb unassigned) (grown_at w l q.limits.ranks q.limits.cap) ≡ false
      unfolding growth_cause
      none_left = split (any (eqb unassigned) (grown_at w l q.limits.ranks q.limits.cap))
          (λ y. let z : ◌≡◌ {A = ℕ} 8 0 = rw (ran.light, ran.enough, y) at zero-cause in absurd (omega arith))
          (λ y. y)

      all-ranked : All (λ x. x < q.limits.ranks) (owners_at w₁ l)
      all-ranked =
          let seeds = farthest_seeds (rows_at w l) q.limits.ranks in
          let a : All (λ x. x < length seeds) (grown_at w l q.limits.ranks q.limits.cap) =
          grown-ranked q.limits.cap (rows_at w l) (weights_at w l) seeds none_left in
          rw owners-grown (rw (length-seeds (rows_at w l) q.limits.ranks) at a)

      pub grown-refining : Refining w₁ l q
      grown-refining =
          let placed = placed-kept w l q 0 p w₁ l.owners (length w) below grown-kept in
          record {
            placed = placed;
            ranked = λ v k.
                all-place (λ x. x < q.limits.ranks) (owners_at w₁ l) v all-ranked
                (omega (arith, length_part w₁ l.owners (l.owners + l.vertices) (omega arith) (omega (arith, placed.ready.laid, placed.ready.inside))));
          }

      -- and its moves are made
      pub level-grown
          : (w₂ : List ℕ) (s : AbtmMultilevelStats) (a : Result AbtmMultilevelStats Refusal)
          → s ≡ grown_stats zero_stats l.vertices restarts
          → LevelRefined w₁ w₂ l q s a
          → LevelGrown w w₂ l q a
      level-grown w₂ s a es x =
          let b = balance_in q.limits in
          let rows = rows_at w l in
          let ws = weights_at w l in
          let rs : rows_at w₁ l ≡ rows = placed-rows w l q 0 p w₁ l.owners (length w) below grown-kept in
          let wss : weights_at w₁ l ≡ ws = placed-weights w l q 0 p w₁ l.owners (length w) below grown-kept in
          let number = from_owners q.limits.ranks (moved_from b q.passes rows ws (owners_at w₁ l)) in
          let moves = length (moves_from b q.passes rows ws (owners_at w₁ l)) in
          let answer : AnswerFor number (added_moves s moves) a = rw (rs, wss) at x.answer-is in
          let owners : owners_at w₂ l ≡ moved_from b q.passes rows ws (owners_at w₁ l) = rw (rs, wss) at x.owners-are in
          let few : moves ≤ 131072 = rw (rs, wss) at x.few in
          let n = all-vertices p.ready in
          let from : owners_at w₁ l ≡ (grow b q.passes rows ws).owners = owners-grown ∙ sym ran.owners-are in
          let told-restarts : restarts ≡ restart_count (growth_at w l q.limits.ranks q.limits.cap).turns =
          ap grown_value (sym e) ∙ t.value ∙ rw zero-cause in
          record {
            told = λ left. split (eqb number 0)
                (λ y.
                let da : a ≡ Ok (added_moves (grown_stats zero_stats (length rows) restarts) moves) =
                answer.stats (eqb-true number 0 y) ∙ ap (λ (z : AbtmMultilevelStats). Ok (added_moves z moves)) (es ∙ ap (λ (z : ℕ). grown_stats zero_stats z restarts) (sym n)) in
                rw da (coarsest-moved b q.passes rows ws left zero-grow (owners_at w₁ l) from (owners_at w₂ l) restarts moves (eqb-true number 0 y) owners told-restarts refl few))
                (λ y.
                let ra = refused-as number (added_moves s moves) a answer (eqb-false number 0 y) in
                rw ra.1 (coarsest-check b q.passes rows ws left zero-grow (owners_at w₁ l) from (owners_at w₂ l) ra.0 ra.2));
            kept =
                kept_trans l.owners (length w) w₂ w₁ w
                (kept-wide l.owners (length w₁) l.owners (length w) w₂ w₁ (omega arith) (omega (arith, grown-kept.same_length)) x.kept) grown-kept;
          }
