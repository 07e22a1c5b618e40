-- When a division is refused by 8, "from numbers alone", and how it ends otherwise: request P14, on the definition of the division and on the call's
-- own promise. Assumes nothing.
use Prim.Native.Nat.{ℕ, ◌*◌, ◌≤◌, ◌<◌}
use mathlib.Core.Path.{◌≡◌, refl, sym, ap, ◌∙◌, subst}
use mathlib.Core.Logic.Iff
use mathlib.Core.Logic.{◌↔◌, ◌⊎◌, inl, inr, ⊎_elim}
use mathlib.Core.Bool.{Bool, true, false, cond, false≢true}
use mathlib.Core.List.{List, []}
use native.Mathlib.Omega.{arith}
use lib.ListN.{length, replicate}
use lib.Dec.{ltb, eqb}
use borrow.Author.Tests.{eqb-true, le-ltb}
use Rattle.links.specs.Lists.{unassigned, any, sum}
use Rattle.links.specs.Loads.{share, load_cap, minimum_load, Balance, balance}
use Rattle.links.specs.Graph.{vertex_count, neighbors_cause, neighbors_of, rows_of, bad_offsets, good_row, bad_lists}
use Rattle.links.specs.Workloads.{bad_workload, bad_workloads}
use Rattle.links.specs.Options.{bad_options, bad_list_length, bad_swaps, stop_size}
use Rattle.stages.specs.Growth.{Growth, weighted_multisource}
use Rattle.stages.specs.declared.swaps.Swapping.{Swapping}
use Rattle.multilevel.specs.Causes.{Call, bad_counts, over_limits, work_need, too_short, early_cause}
use Rattle.multilevel.specs.Division.{Outcome, refused, divided, Trace, coarsenings, swapping_of, refine, grow, solve, abtm_multilevel_partition, division}
use Rattle.multilevel.specs.Demand3.{site_rows, balance_of, passes_of, kept_steps, WithoutGrowth}
use Rattle.multilevel.specs.Stuck.{ceiling, least_imbalance, Tight, least_of, NoStep, Plain, StuckExactly, Accepted}
use Rattle.multilevel.specs.Sites.{site, P5}
use Rattle.multilevel.specs.Contract.{outcome_number, Partitioned}
use Rattle.std.specs.Prelude.{Result}
use Rattle.links.specs.Refusals.{number_of}
use Rattle.links.specs.declared.refusal.Refusal.{Refusal}
use Rattle.links.specs.declared.options.AbtmMultilevelStats.{AbtmMultilevelStats}
use Rattle.links.proofs.ListLaws.{split, sum_ones}
use Rattle.links.proofs.RowLaws.{length-rows}
use Rattle.stages.proofs.StuckLaws.{ones-light, growth-stuck}
use Rattle.multilevel.proofs.DivisionLaws.{Tested, tested, refine-unchecked, Late}
use Rattle.multilevel.proofs.Demand3Laws.{trace, demand3, refused-by}
use Rattle.multilevel.proofs.CoarseningLaws.{no_step}
use Rattle.multilevel.proofs.NineLaws.{nine-needs-no-floor}
use Rattle.multilevel.proofs.SolveLaws.{grown_from, grow-refusal}
use Rattle.multilevel.proofs.ImbalanceLaws.{cap-some, floor-some, least-exact}

-- ---- how a division with no step kept ends

-- 8 is growth's, since the check after moves never answers it
solve-8
    : (b : Balance) (passes : ℕ) (swapping : Swapping) (rows : List (List ℕ)) (ws : List ℕ)
    → ((solve b passes swapping rows ws []).refusal ≡ 8) ↔ ((grow b passes rows ws).refusal ≡ 8)
unfolding solve
solve-8 b passes swapping rows ws =
    let t = grow b passes rows ws in
    split (eqb t.refusal 0)
    (λ p. rw p (λ e. absurd (refine-unchecked b passes swapping rows ws [] t 8 refl e), λ e. absurd (omega (arith, eqb-true t.refusal 0 p))))
    (λ p. rw p (λ e. e, λ e. e))

division-8 : (c : Call) → early_cause c ≡ 0 → ((division c).outcome ≡ refused 8) ↔ ((trace c).refusal ≡ 8)
unfolding division abtm_multilevel_partition
division-8 c e = (λ d. ⊎_elim (λ z. absurd (omega arith)) (λ z. z.1) (refused-by c 8 d), λ z. rw (e, z))

is-8 : (x : Bool) → (◌≡◌ {A = ℕ} (cond x 8 0) 8) ↔ (x ≡ true)
is-8 true = (λ e. refl, λ e. refl)
is-8 false = (λ e. absurd (omega arith), λ e. absurd (false≢true e))

module _ (c : Call) (p : Plain c) where
  abbrev g : Tested c
  g = tested c p.passed

  abbrev rows : List (List ℕ)
  rows = site_rows c

  abbrev n : ℕ
  n = vertex_count c.offsets

  abbrev t : ℕ
  t = c.options.imbalance_per_mille

  sized : length rows ≡ n
  sized = length-rows c.offsets c.neighbors

  ones-are : c.workloads ≡ replicate (length rows) 1
  ones-are = p.ones ∙ ap (λ (m : ℕ). replicate m 1) (sym sized)

  summed : sum c.workloads ≡ n
  summed = ap sum p.ones ∙ sum_ones n

  cap-is : (balance_of c).cap ≡ load_cap n c.ranks t
  unfolding balance
  cap-is = ap (λ (total : ℕ). load_cap total c.ranks t) summed

  some-cap : 1 ≤ (balance_of c).cap
  some-cap = rw cap-is (cap-some n c.ranks t g.some-ranks g.few-vertices g.tolerance g.enough-vertices)

  -- growth leaves a vertex unowned exactly when it is too tight
  left_over : (any (eqb unassigned) (grown_from (balance_of c) rows c.workloads) ≡ true) ↔ Tight c
  unfolding balance
  left_over =
      let k = c.ranks in
      let cap = (balance_of c).cap in
      let Stuck : List ℕ → Type 0 = λ ws. (any (eqb unassigned) (grown_from (balance_of c) rows ws) ≡ true) ↔ (k * cap < length rows) in
      let stuck = subst Stuck (sym ones-are) (growth-stuck cap rows k (omega (arith, g.few-ranks)) some-cap) in
      let same : k * cap ≡ k * load_cap n k t = ap (λ (x : ℕ). k * x) cap-is in
      (λ e. omega (arith, stuck.0 e, sized), λ h. stuck.1 (omega (arith, sized)))

  abbrev growing : Trace
  growing = grow (balance_of c) (passes_of c) rows c.workloads

  -- neither 6 nor 7 keeps it from growing
  light : any (ltb (balance_of c).cap) c.workloads ≡ false
  light = let cap = (balance_of c).cap in ap (any (ltb cap)) ones-are ∙ ones-light cap (length rows) some-cap

  enough : ltb (length rows) c.ranks ≡ false
  enough = le-ltb (length rows) c.ranks (omega (arith, sized, g.enough-vertices))

  grow-8 : (growing.refusal ≡ 8) ↔ Tight c
  unfolding balance
  grow-8 =
      let left = any (eqb unassigned) (grown_from (balance_of c) rows c.workloads) in
      let ends : growing.refusal ≡ cond left 8 0 = grow-refusal (balance_of c) (passes_of c) rows c.workloads ∙ rw (light, enough) in
      rw ends (Iff.trans (is-8 left) left_over)

  trace-8 : ((trace c).refusal ≡ 8) ↔ (growing.refusal ≡ 8)
  trace-8 = let none : kept_steps c ≡ [] = p.unkept in rw none (solve-8 (balance_of c) (passes_of c) (swapping_of c.options) rows c.workloads)

  exactly : ((division c).outcome ≡ refused 8) ↔ Tight c
  exactly = Iff.trans (division-8 c p.passed) (Iff.trans trace-8 grow-8)

  -- ---- not too tight

  -- it came to growth
  division-grew : (division c).growth.rows ≡ rows
  unfolding division abtm_multilevel_partition solve grow refine weighted_multisource balance
  division-grew =
      let grew : growing.growth.rows ≡ rows = rw (light, enough) in
      rw (p.passed, p.unkept) (split (eqb growing.refusal 0) (λ q. rw q grew) (λ q. rw q grew))

  loose-ends : ¬ Tight c → Accepted c ⊎ ((division c).outcome ≡ refused 9)
  loose-ends loose = ⊎_elim (λ w. go w.refusal (division c).outcome refl) (λ w. absurd (grew-not w)) (demand3 c).growth
    where
      go
          : ((number : ℕ) → (division c).outcome ≡ refused number → Late c.ranks number (division c).levels)
          → (o : Outcome)
          → (division c).outcome ≡ o
          → Accepted c ⊎ ((division c).outcome ≡ refused 9)
      go late (divided owners s) e = inl (owners, s, e)
      go late (refused number) e = inr (⊎_elim
          (λ z. absurd (loose (exactly.0 (e ∙ ap refused z.0))))
          (λ z. e ∙ ap refused z.0) (late number e))

      grew-not : WithoutGrowth (division c) → ⊥
      grew-not w =
          let none = ap (λ (g : Growth). length g.rows) w.growth in
          omega (arith, ap length division-grew, sized, g.some-ranks, g.enough-vertices)

  least-is : Tight c ↔ (t < least_of c)
  least-is = least-exact n c.ranks t g.some-ranks (omega (arith, g.some-ranks, g.enough-vertices)) g.few-vertices g.tolerance

  floor-is : (balance_of c).floor ≡ minimum_load n c.ranks t
  unfolding balance
  floor-is = ap (λ (total : ℕ). minimum_load total c.ranks t) summed

  some-floor : 2 * c.ranks ≤ n → 1 ≤ (balance_of c).floor
  some-floor h = rw floor-is (floor-some n c.ranks t g.some-ranks g.few-vertices g.tolerance h)

-- ---- what a planner is told

-- what the claim asks, told by numbers but for the tests before the work
pub plain-by-numbers : (c : Call) → early_cause c ≡ 0 → c.workloads ≡ replicate (vertex_count c.offsets) 1 → NoStep c → Plain c
plain-by-numbers c e ones numbers = record { ones = ones; unkept = (no_step c (tested c e)).1 numbers; passed = e }

-- "the division gives 8 exactly when k × cap < n"
pub stuck-exactly : (c : Call) → StuckExactly c
stuck-exactly = exactly

-- that is, when the imbalance is below the least
pub stuck-below : (c : Call) → Plain c → ((division c).outcome ≡ refused 8) ↔ (c.options.imbalance_per_mille < least_of c)
stuck-below c p = Iff.trans (exactly c p) (least-is c p)

-- with the least imbalance or more it is accepted, or 9 follows
pub least-enough : (c : Call) → Plain c → least_of c ≤ c.options.imbalance_per_mille → Accepted c ⊎ ((division c).outcome ≡ refused 9)
least-enough c p h = loose-ends c p (λ tight. omega (arith, (least-is c p).0 tight))

-- where the floor is 1 at least 9 does not
pub least-accepted
    : (c : Call) → Plain c → least_of c ≤ c.options.imbalance_per_mille → 1 ≤ (balance_of c).floor → Accepted c
least-accepted c p h floored = ⊎_elim (λ a. a) (λ e. absurd (omega (arith, nine-needs-no-floor c e))) (least-enough c p h)

-- and it is, with two vertices to a rank
pub two-accepted
    : (c : Call) → Plain c → least_of c ≤ c.options.imbalance_per_mille → 2 * c.ranks ≤ vertex_count c.offsets → Accepted c
two-accepted c p h two = least-accepted c p h (some-floor c p two)

outcome-8 : (o : Outcome) → (outcome_number o ≡ 8) ↔ (o ≡ refused 8)
outcome-8 (refused number) = (λ e. ap refused e, λ e. cc)
outcome-8 (divided owners s) = (λ e. absurd (omega arith), λ e. absurd (let z : ◌≡◌ {A = ℕ} 0 1 = cc in omega arith))

-- the same of the call, from its own promise
pub answers-stuck
    : {c : Call} {owners owners' work work' : List ℕ} {answer : Result AbtmMultilevelStats Refusal}
    → Partitioned c owners owners' work work' answer
    → Plain c
    → (number_of answer ≡ 8) ↔ Tight c
answers-stuck {c} promise p = rw promise.number_is (Iff.trans (outcome-8 (division c).outcome) (exactly c p))

-- ---- "the path of five at t 199 and 200 shows both sides"

abbrev five : ℕ → Call
five t = site P5 2 (12, 64, t, 2)

five-plain : Plain (five 199) × Plain (five 200)
unfolding coarsenings stop_size bad_options bad_list_length bad_swaps bad_counts over_limits bad_offsets good_row bad_lists neighbors_cause neighbors_of rows_of
    bad_workload bad_workloads work_need too_short early_cause
five-plain = (record { ones = refl; unkept = refl; passed = refl }, record { ones = refl; unkept = refl; passed = refl })

pub five-sides : ((division (five 199)).outcome ≡ refused 8) × Accepted (five 200)
unfolding load_cap share least_imbalance ceiling
five-sides = ((stuck-exactly (five 199) five-plain.0).1 (omega arith), two-accepted (five 200) five-plain.1 (omega arith) (omega arith))
