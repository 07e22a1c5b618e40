-- Laws of a division's end: what its finest level told, its swaps and its measures give the outcome; and what is lent at exit. Assumes nothing.
use Prim.Native.Nat.{ℕ, ◌+◌, ◌≤◌}
use mathlib.Core.Path.{◌≡◌, refl, sym, ap, ◌∙◌}
use mathlib.Core.Bool.{false, cond}
use mathlib.Core.List.{List, ◌++◌}
use native.Mathlib.Omega.{arith}
use lib.ListN.{length, drop, replicate}
use lib.Dec.{eqb}
use borrow.Author.Tests.{eq-eqb, ne_eqb}
use Rattle.links.specs.Lists.{foldl}
use Rattle.links.specs.Graph.{cut_entries, volume}
use Rattle.links.specs.Options.{added_moves, measured_stats}
use Rattle.links.specs.declared.options.AbtmMultilevelStats.{AbtmMultilevelStats}
use Rattle.stages.specs.Moves.{after}
use Rattle.std.specs.Prelude.{Result, Ok, Err}
use Rattle.links.specs.Refusals.{refusal_number, number_of}
use Rattle.links.specs.declared.refusal.Refusal.{Refusal}
use Rattle.links.proofs.RefusalLaws.{refusal-some}
use Rattle.multilevel.specs.Causes.{Call, need_of, early_cause}
use Rattle.multilevel.specs.Division.{Outcome, refused, divided, Trace, solve, stats_of, swapping_of, abtm_multilevel_partition, division}
use Rattle.multilevel.specs.Demand3.{site_rows, balance_of, kept_steps}
use Rattle.multilevel.specs.Driver.{solved, finest_swaps, step_count, stats_so_far, Told}
use Rattle.multilevel.specs.Contract.{Answers, answer_stats, outcome_number, outcome_stats, owners_after, work_after, Partitioned}
use Rattle.multilevel.proofs.DriverLaws.{Swapped, solve-swapped, stats-swapped, stats-done}
use Rattle.multilevel.proofs.SolveLaws.{divided-of, refused-of}
use Rattle.multilevel.proofs.Demand3Laws.{demand3}

-- ---- the outcome

module _ (c : Call) (z : early_cause c ≡ 0) where
  abbrev rows : List (List ℕ)
  rows = site_rows c

  abbrev weights : List ℕ
  weights = c.workloads

  abbrev passes : ℕ
  passes = c.options.refinement_passes

  abbrev whole : Trace
  whole = solve (balance_of c) passes (swapping_of c.options) rows weights (kept_steps c)

  outcome-is : (division c).outcome ≡ cond (eqb whole.refusal 0) (divided whole.owners (stats_of rows c.ranks (kept_steps c) whole)) (refused whole.refusal)
  unfolding division abtm_multilevel_partition
  outcome-is = rw (eq-eqb (early_cause c) 0 z)

  swaps-last : Swapped (balance_of c) passes rows weights (swapping_of c.options) whole (solved (balance_of c) passes rows weights (kept_steps c))
  swaps-last = solve-swapped (balance_of c) passes rows weights (swapping_of c.options) (kept_steps c)

  pub finish-refused
      : (left : ℕ) (o : List ℕ) (x : Refusal)
      → Told (balance_of c) passes rows weights (kept_steps c) left o (Err x)
      → (division c).outcome ≡ refused (refusal_number x)
  finish-refused left o x k =
      let t = solved (balance_of c) passes rows weights (kept_steps c) in
      let r = refused-of t.refusal (stats_so_far rows (kept_steps c) t) x k.answer-is in
      outcome-is ∙ rw (swaps-last.refusal_is, ne_eqb t.refusal 0 r.1, r.0)

  pub finish-divided
      : (left : ℕ) (o o' : List ℕ) (s : AbtmMultilevelStats) (m cut vol : ℕ)
      → Told (balance_of c) passes rows weights (kept_steps c) left o (Ok s)
      → left ≤ 32
      → o' ≡ foldl after o (finest_swaps (balance_of c) (swapping_of c.options) rows weights (solved (balance_of c) passes rows weights (kept_steps c)))
      → m ≡ length (finest_swaps (balance_of c) (swapping_of c.options) rows weights (solved (balance_of c) passes rows weights (kept_steps c)))
      → m ≤ 131072
      → cut ≡ cut_entries rows o'
      → vol ≡ volume rows o' c.ranks
      → (division c).outcome ≡ divided o' (measured_stats (added_moves s m) cut vol)
  finish-divided left o o' s m cut vol k hl eo em h ec ev =
      let t = solved (balance_of c) passes rows weights (kept_steps c) in
      let r = divided-of t.refusal (stats_so_far rows (kept_steps c) t) s k.answer-is in
      let w = swaps-last in
      let small = k.small r.0 in
      let owners : whole.owners ≡ o' = w.owners-are r.0 ∙ ap (λ (x : List ℕ). foldl after x (finest_swaps (balance_of c) (swapping_of c.options) rows weights t)) (sym (k.owners-are r.0)) ∙ sym eo in
      let count : step_count whole.levels ≡ step_count t.levels + m = w.count-is r.0 ∙ ap (λ (x : ℕ). step_count t.levels + x) (sym em) in
      let so_far : stats_so_far rows (kept_steps c) whole ≡ added_moves s m =
      stats-swapped rows (kept_steps c) whole t m w.growth-is count (omega (arith, small.steps)) ∙ ap (λ (x : AbtmMultilevelStats). added_moves x m) (sym r.1) in
      let stats : stats_of rows c.ranks (kept_steps c) whole ≡ measured_stats (added_moves s m) cut vol =
      stats-done rows c.ranks (kept_steps c) whole ∙ rw (so_far, owners, ec, ev) in
      let both : divided whole.owners (stats_of rows c.ranks (kept_steps c) whole) ≡ divided o' (measured_stats (added_moves s m) cut vol) =
      ap (λ (x : List ℕ). divided x (stats_of rows c.ranks (kept_steps c) whole)) owners ∙ ap (divided o') stats in
      outcome-is ∙ rw (eq-eqb whole.refusal 0 (w.refusal_is ∙ r.0)) both

-- ---- what is lent, at exit

-- refused before any work
pub early-refused
    : (c : Call) (owners work : List ℕ) (x : Refusal) → refusal_number x ≡ early_cause c → Partitioned c owners owners work work (Err x)
unfolding division work_after
early-refused c owners work x e =
    let p : eqb (early_cause c) 0 ≡ false = ne_eqb (early_cause c) 0 (λ z. refusal-some x (e ∙ z)) in
    let out : (division c).outcome ≡ refused (refusal_number x) = rw (p, e) in
    record {
      answer-is = rw out (x, refl, refl);
      number_is = rw out;
      stats-are = rw out;
      owners-are = rw out;
      work-is = rw p;
      demand3 = demand3 c;
    }

pub partitioned-with
    : (c : Call) (owners owners' work work' : List ℕ) (outcome : Outcome) (a : Result AbtmMultilevelStats Refusal)
    → early_cause c ≡ 0
    → (division c).outcome ≡ outcome
    → Answers outcome a
    → owners' ≡ owners_after outcome owners
    → work' ≡ replicate (need_of c) 0 ++ drop (need_of c) work
    → Partitioned c owners owners' work work' a
unfolding work_after
partitioned-with c owners owners' work work' outcome a z e answers eo ew =
    record {
      answer-is = rw e answers;
      number_is = numbers outcome answers ∙ ap outcome_number (sym e);
      stats-are = stats outcome answers ∙ ap outcome_stats (sym e);
      owners-are = rw e eo;
      work-is = rw (eq-eqb (early_cause c) 0 z) ew;
      demand3 = demand3 c;
    }
  where
    numbers : (o : Outcome) → Answers o a → number_of a ≡ outcome_number o
    numbers (refused n) (x, is, number) = ap number_of is ∙ number
    numbers (divided owners s) is = ap number_of is

    stats : (o : Outcome) → Answers o a → answer_stats a ≡ outcome_stats o
    stats (refused n) (x, is, number) = ap answer_stats is
    stats (divided owners s) is = ap answer_stats is
