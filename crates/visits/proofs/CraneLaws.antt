-- Cause 21 and what it leaves, the loop over the visits, the two answers, and that no block has more visits, wherever it begins. Assumes nothing.
use Prim.Native.Nat.{ℕ, zero, suc, ◌+◌, ◌-◌, ◌*◌, ◌≤◌, ◌<◌}
use mathlib.Core.Path.{◌≡◌, refl, sym, ap, ◌∙◌, subst}
use mathlib.Core.Bool.{Bool, true, false, not, ◌||◌, true≢false}
use mathlib.Core.List.{List, [], ◌∷◌}
use native.Mathlib.Omega.{arith}
use lib.ListN.{length}
use lib.Dec.{leb, ltb, eqb}
use borrow.Author.Rules.{rules}
use borrow.Author.Tests.{eq-eqb, le-leb, leb-true, lt-ltb, le-ltb, ltb-true, ltb-false, eqb-true, not-false}
use Rattle.links.specs.Lists.{at, All, filter, any, between}
use Rattle.links.specs.Graph.{never_falling}
use Rattle.links.proofs.ListLaws.{split, and_l, and_r, and_i, or_l, or_r, count, count-cons, count-is, count-le, all-to, to-any, none_any, between-least, greatest-bounds, greatest-is}
use Rattle.links.proofs.RowLaws.{by_place, elem-place}
use Rattle.links.proofs.ApartLaws.{never-falls-first, never-falls-by}
use Rattle.visits.specs.Crane.{bad_visits, in_block, visits_from, most_visits, earliest_day, sweep_step, sweep_start, sweep_after, Carried, crane_week, CraneTold}
use Rattle.visits.specs.CraneCode.{Counted, Underway, Swept}
use Rattle.visits.specs.declared.crane.Sweep.{Sweep}
use Rattle.std.specs.Prelude.{Ok, Err}
use Rattle.links.specs.declared.refusal.Refusal.TheVariants.{InvalidVisits}
use Rattle.visits.proofs.SweepLaws.{counted-after, after_one, step_sum, step-to, at_most, earlier-less, on-visit}

-- ---- cause 21

-- of days that never fall the last is the latest
pub last-late : (days : List ℕ) (m : ℕ) → never_falling days ≡ true → 1 ≤ length days → ltb m (at days (length days - 1)) ≡ any (ltb m) days
last-late days m e h = split (ltb m last)
    (λ p. p ∙ sym (to-any (ltb m) days last (elem-place days (length days - 1) last (omega arith) refl) p))
    (λ p. p ∙ sym (none_any (ltb m) days (by_place (λ x. ltb m x ≡ false) days (λ i k.
    le-ltb m (at days i) (omega (arith, ltb-false m last p, never-falls-by days e i (length days - 1) (omega arith) (omega arith)))))))
  where
    last : ℕ
    last = at days (length days - 1)

-- of no days, day 0 is
pub last-tells : (days : List ℕ) (m : ℕ) → never_falling days ≡ true → ltb m (at days (length days - 1)) ≡ any (ltb m) days
last-tells [] m e = le-ltb m 0 (omega arith)
last-tells (x ∷ xs) m e = last-late (x ∷ xs) m e (omega arith)

-- what it leaves
pub record Passed (w : ℕ) (days : List ℕ) : Type 0 where
  pub some : 1 ≤ w
  pub few : length days ≤ 16384
  pub rising : never_falling days ≡ true

pub passed : (w : ℕ) (days : List ℕ) → bad_visits w days ≡ false → Passed w days
unfolding bad_visits
passed w days e =
    let a = not (between 1 366 w) in
    let b = ltb 16384 (length days) in
    let c = any (ltb 3660) days in
    let d = not (never_falling days) in
    let ab = or_l (a || b) c (or_l (a || b || c) d e) in
    record {
      some = between-least 1 366 w (not-false _ (or_l a b ab));
      few = ltb-false 16384 (length days) (or_r a b ab);
      rising = not-false _ (or_r (a || b || c) d e);
    }

-- ---- the loop over the visits

-- as many steps were made as the places add up to
pub record Onward (w : ℕ) (days : List ℕ) (s : Sweep) : Type 0 where
  pub inside : s.to ≤ length days
  pub reached : s ≡ sweep_after w days (s.from + s.to)

pub onward-start : (w : ℕ) (days : List ℕ) (s : Sweep) → (s.from ≡ 0) × ((s.to ≡ 0) × ((s.count ≡ 0) × ((s.best ≡ 0) × (s.day ≡ 0)))) → Onward w days s
unfolding sweep_after
onward-start w days s e =
    let start : s ≡ sweep_start = search rules in
    rw start (record { inside = omega arith; reached = refl })

module _ (w : ℕ) (days : List ℕ) (s : Sweep) (o : Onward w days s) (some : 1 ≤ w) where
  onward-counted : Counted s
  onward-counted = subst Counted (sym o.reached) (counted-after w days some (s.from + s.to))

  pub onward-ready : length days ≤ 16384 → s.to < length days → Underway w days s
  onward-ready few more = record { some = some; few = few; inside = more; counted = onward-counted }

  pub onward-step : s.to < length days → Onward w days (sweep_step w days s)
  unfolding sweep_after
  onward-step more =
      let sum = step_sum w days s in
      record { inside = omega (arith, step-to w days s); reached = ap (sweep_step w days) o.reached ∙ ap (sweep_after w days) (sym sum) }

  pub onward-less : s.to < length days → 2 * length days - ((sweep_step w days s).from + (sweep_step w days s).to) < 2 * length days - (s.from + s.to)
  onward-less more = omega (arith, step_sum w days s, onward-counted.ordered)

-- ---- the most visits, and the earliest day

-- the first that passes, where all that pass up to its place are the same
first-is
    : (t : ℕ → Bool) (xs : List ℕ) (d p : ℕ)
    → p < length xs
    → t (at xs p) ≡ true
    → ((a : ℕ) → a ≤ p → t (at xs a) ≡ true → at xs a ≡ d)
    → at (filter t xs) 0 ≡ d
first-is t [] d p k h same = absurd (omega arith)
first-is t (x ∷ xs) d zero k h same = rw h (same 0 (omega arith) h)
first-is t (x ∷ xs) d (suc p) k h same = split (t x)
    (λ q. rw q (same 0 (omega arith) q))
    (λ q. rw q (first-is t xs d p (omega arith) h (λ a l. same (suc a) (omega arith))))

module _ (w : ℕ) (days : List ℕ) (good : Passed w days) (i : ℕ) (whole : (sweep_after w days i).to ≡ length days) (visits : 1 ≤ length days) where
  most-some : (sweep_after w days i).best ≡ most_visits w days
  unfolding most_visits
  most-some =
      let v = on-visit w days good.some good.rising i whole visits in
      sym (greatest-is (visits_from w days) days (sweep_after w days i).best v.0 (at_most w days good.some good.rising i whole) v.1 v.3)

  day-some : (sweep_after w days i).day ≡ earliest_day w days
  unfolding earliest_day
  day-some =
      let day = (sweep_after w days i).day in
      let v = on-visit w days good.some good.rising i whole visits in
      sym (first-is (λ d. eqb (visits_from w days d) (most_visits w days)) days day v.0 v.1
      (eq-eqb (visits_from w days (at days v.0)) (most_visits w days) (v.3 ∙ most-some))
      (λ a h q. split (ltb (at days a) day)
      (λ l. absurd (omega (arith, earlier-less w days good.some good.rising i whole a (omega (arith, v.1)) (ltb-true (at days a) day l), eqb-true (visits_from w days (at days a)) (most_visits w days) q, most-some)))
      (λ l. omega (arith, ltb-false (at days a) day l, never-falls-by days good.rising a v.0 h v.1, v.2))))

-- what the sweep ends with is what its steps come to
module _ (w : ℕ) (days : List ℕ) (s : Sweep) (some : 1 ≤ w) (end : Swept w days s) where
  swept-steps : s.from + s.to ≤ 2 * length days
  swept-steps =
      let c = subst Counted (sym end.reached) (counted-after w days some (s.from + s.to)) in
      omega (arith, c.ordered, end.whole)

  swept-whole : (sweep_after w days (s.from + s.to)).to ≡ length days
  swept-whole = ap (λ (t : Sweep). t.to) (sym end.reached) ∙ end.whole

  swept-carried : Carried w days s.best s.day
  swept-carried =
      record {
        steps = s.from + s.to;
        few = swept-steps;
        each = after_one w days some;
        whole = swept-whole;
        most = ap (λ (t : Sweep). t.best) (sym end.reached);
        first = ap (λ (t : Sweep). t.day) (sym end.reached);
      }

-- of no visit it ends where it began
swept-is : (w : ℕ) (days : List ℕ) (s : Sweep) → Passed w days → Swept w days s → (s.best ≡ most_visits w days) × (s.day ≡ earliest_day w days)
unfolding sweep_after most_visits earliest_day
swept-is w [] s good end =
    let none : s.from + s.to ≡ 0 = omega (arith, swept-steps w [] s good.some end) in
    let e : s ≡ sweep_start = end.reached ∙ ap (sweep_after w []) none in
    (ap (λ (t : Sweep). t.best) e, ap (λ (t : Sweep). t.day) e)
swept-is w (x ∷ xs) s good end =
    let whole = swept-whole w (x ∷ xs) s good.some end in (
      ap (λ (t : Sweep). t.best) end.reached ∙ most-some w (x ∷ xs) good (s.from + s.to) whole (omega arith),
      ap (λ (t : Sweep). t.day) end.reached ∙ day-some w (x ∷ xs) good (s.from + s.to) whole (omega arith),
    )

-- ---- the two answers

pub told-refused : (w : ℕ) (days : List ℕ) → bad_visits w days ≡ true → CraneTold w days (Err InvalidVisits)
unfolding crane_week
told-refused w days e =
    record { answer = rw e; number = rw e; visits = rw e; day = rw e; carried = λ f. absurd (true≢false (sym e ∙ f)) }

pub told-busiest : (w : ℕ) (days : List ℕ) (s : Sweep) → bad_visits w days ≡ false → Swept w days s → CraneTold w days (Ok (record { visits = s.best; day = s.day }))
unfolding crane_week
told-busiest w days s e end =
    let good = passed w days e in
    let is = swept-is w days s good end in
    let most = is.0 in
    let first = is.1 in
    record {
      answer = rw (e, most, first);
      number = rw e;
      visits = rw (e, most);
      day = rw (e, first);
      carried = λ f. swept-carried w days s good.some end;
    }

-- ---- any block

-- what is in the block from d on is in that of its first visit
block-later : (w d : ℕ) (xs : List ℕ) (x : ℕ) → in_block w d x ≡ true → All (λ y. x ≤ y) xs → All (λ y. in_block w d y ≡ true → in_block w x y ≡ true) xs
block-later w d xs x e a = all-to (λ y. x ≤ y) (λ y. in_block w d y ≡ true → in_block w x y ≡ true) (λ y h f.
    and_i (leb x y) (ltb y (x + w)) (le-leb x y h) (lt-ltb y (x + w) (omega (arith, leb-true d x (and_l (leb d x) (ltb x (d + w)) e), ltb-true y (d + w) (and_r (leb d y) (ltb y (d + w)) f))))) xs a

-- no w days have more visits than those that begin on a visit day, wherever they begin
pub any-block : (w : ℕ) (days : List ℕ) → never_falling days ≡ true → (d : ℕ) → visits_from w days d ≤ most_visits w days
unfolding visits_from most_visits
any-block w days rising d = go days rising (λ y. omega arith) (greatest-bounds (visits_from w days) days)
  where
    go
        : (xs : List ℕ)
        → never_falling xs ≡ true
        → ((y : ℕ) → count (in_block w y) xs ≤ visits_from w days y)
        → All (λ y. visits_from w days y ≤ most_visits w days) xs
        → count (in_block w d) xs ≤ most_visits w days
    go [] r sub a = omega arith
    go (x ∷ xs) r sub a =
        let f = never-falls-first x xs r in
        split (in_block w d x)
        (λ e. omega (arith, count-le (in_block w d) (in_block w x) (x ∷ xs) (block-later w d (x ∷ xs) x e (omega arith, f.0)), sub x, a.0))
        (λ e. omega (arith, count-is (in_block w d) x xs false e, go xs f.1 (λ y. omega (arith, count-cons (in_block w y) x xs, sub y)) a.1))
