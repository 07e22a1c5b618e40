-- The count that is carried along: what each step does, what holds on the way, and that it comes to the most visits and to the earliest day that has
-- them. Assumes nothing.
use Prim.Native.Nat.{ℕ, zero, suc, ◌+◌, ◌-◌, ◌≤◌, ◌<◌}
use mathlib.Core.Path.{◌≡◌, refl, sym, ap, ◌∙◌, subst}
use mathlib.Core.Bool.{Bool, true, false}
use mathlib.Core.List.{List, []}
use mathlib.Core.Logic.{◌⊎◌, inl, inr}
use native.Mathlib.Omega.{arith}
use native.Mathlib.Numerals.{add-one}
use lib.ListN.{length, get_or-eq_default}
use lib.Dec.{leb, ltb}
use borrow.Author.Tests.{le-leb, lt-leb, leb-true, leb-false, lt-ltb, ltb-true, ltb-false}
use Rattle.links.specs.Lists.{at, range}
use Rattle.links.specs.Graph.{never_falling}
use Rattle.links.proofs.ListLaws.{split, and_l, and_r, and_i, tally, count, count-is, count-length, count-all, count-append, all-range, length-range, none-filter}
use Rattle.links.proofs.RangeLaws.{range-join, count-places}
use Rattle.links.proofs.ApartLaws.{never-falls-by}
use Rattle.visits.specs.Crane.{in_block, visits_from, visit_in, visit_out, sweep_step, sweep_after, CameIn, WentOut}
use Rattle.visits.specs.CraneCode.{Counted}
use Rattle.visits.specs.declared.crane.Sweep.{Sweep}

-- ---- one step

module _ (w : ℕ) (days : List ℕ) (s : Sweep) where
  -- a visit goes out, or one comes in
  pub step-out : at days s.from + w ≤ at days s.to → sweep_step w days s ≡ visit_out s
  unfolding sweep_step
  step-out h = rw (le-leb (at days s.from + w) (at days s.to) h)

  pub step_in : at days s.to < at days s.from + w → sweep_step w days s ≡ visit_in (at days s.from) s
  unfolding sweep_step
  step_in h = rw (lt-leb (at days s.from + w) (at days s.to) h)

  pub by-step
      : (P : Sweep → Type 0)
      → (at days s.from + w ≤ at days s.to → P (visit_out s))
      → (at days s.to < at days s.from + w → P (visit_in (at days s.from) s))
      → P (sweep_step w days s)
  by-step P out in' = split (leb (at days s.from + w) (at days s.to))
      (λ p. let h = leb-true (at days s.from + w) (at days s.to) p in subst P (sym (step-out h)) (out h))
      (λ p. let h = leb-false (at days s.from + w) (at days s.to) p in subst P (sym (step_in h)) (in' h))

  -- only one that is counted goes out
  pub out_one : 1 ≤ w → s.from ≤ s.to → at days s.from + w ≤ at days s.to → s.from < s.to
  out_one some h out = split (ltb s.from s.to) (λ p. ltb-true s.from s.to p) (λ p.
      let e : s.from ≡ s.to = omega (arith, ltb-false s.from s.to p) in
      absurd (omega (arith, ap (at days) e)))

module _ (w : ℕ) (days : List ℕ) (some : 1 ≤ w) where
  counted_step : (s : Sweep) → Counted s → Counted (sweep_step w days s)
  unfolding visit_in visit_out
  counted_step s b = by-step w days s Counted
      (λ out. let l = out_one w days s some b.ordered out in record { ordered = omega arith; between = omega (arith, b.between) })
      (λ in'. record { ordered = omega (arith, b.ordered); between = omega (arith, b.between, b.ordered) })

  pub counted-after : (i : ℕ) → Counted (sweep_after w days i)
  unfolding sweep_after
  counted-after zero = record { ordered = omega arith; between = refl }
  counted-after (suc i) = counted_step (sweep_after w days i) (counted-after i)

  -- each step raises one of the two places by one
  step-one : (s : Sweep) → Counted s → CameIn s (sweep_step w days s) ⊎ WentOut s (sweep_step w days s)
  unfolding visit_in visit_out
  step-one s b = by-step w days s (λ t. CameIn s t ⊎ WentOut s t)
      (λ out. let l = out_one w days s some b.ordered out in inr (refl, refl, omega (arith, b.between)))
      (λ in'. inl (refl, refl, refl))

  pub after_one : (i : ℕ) → CameIn (sweep_after w days i) (sweep_after w days (i + 1)) ⊎ WentOut (sweep_after w days i) (sweep_after w days (i + 1))
  unfolding sweep_after
  after_one i = rw add-one (step-one (sweep_after w days i) (counted-after i))

-- so the places add up to the steps
pub step_sum : (w : ℕ) (days : List ℕ) (s : Sweep) → (sweep_step w days s).from + (sweep_step w days s).to ≡ suc (s.from + s.to)
unfolding visit_in visit_out
step_sum w days s = by-step w days s (λ t. t.from + t.to ≡ suc (s.from + s.to)) (λ out. omega arith) (λ in'. omega arith)

-- a step raises the second place by one at most
pub step-to : (w : ℕ) (days : List ℕ) (s : Sweep) → (sweep_step w days s).to ≤ s.to + 1
unfolding visit_in visit_out
step-to w days s = by-step w days s (λ t. t.to ≤ s.to + 1) (λ out. omega arith) (λ in'. omega arith)

-- past the end the next visit is on day 0, and nothing goes out
step-inside : (w : ℕ) (days : List ℕ) (s : Sweep) → 1 ≤ w → (sweep_step w days s).to ≤ length days → s.to < length days
unfolding visit_in visit_out
step-inside w days s some = by-step w days s (λ t. t.to ≤ length days → s.to < length days)
    (λ out h. split (ltb s.to (length days)) (λ p. ltb-true s.to (length days) p) (λ p.
    let z : at days s.to ≡ 0 = get_or-eq_default days 0 (ltb-false s.to (length days) p) in
    absurd (omega arith)))
    (λ in' h. omega arith)

-- ---- what holds on the way

module _ (w : ℕ) (days : List ℕ) (some : 1 ≤ w) (rising : never_falling days ≡ true) where
  abbrev n : ℕ
  n = length days

  -- a visit's place is in the block from day d on
  block : ℕ → ℕ → Bool
  block d b = in_block w d (at days b)

  -- how many of the places from i on, m of them, are
  abbrev among : ℕ → ℕ → ℕ → ℕ
  among d i m = count (block d) (range i m)

  among-join : (d i a b m j : ℕ) → m ≡ a + b → j ≡ i + a → among d i m ≡ among d i a + among d j b
  among-join d i a b m j h k = ap (count (block d)) (range-join i a b m j h k) ∙ count-append (block d) (range i a) (range j b)

  among-all : (d i m : ℕ) → ((b : ℕ) → i ≤ b → b < i + m → block d b ≡ true) → among d i m ≡ m
  among-all d i m h = count-all (block d) (range i m) (all-range (λ b. block d b ≡ true) i m h) ∙ length-range i m

  among_none : (d i m : ℕ) → ((b : ℕ) → i ≤ b → b < i + m → block d b ≡ true → ⊥) → among d i m ≡ 0
  among_none d i m h = ap length (none-filter (block d) (range i m) (all-range (λ b. block d b ≡ false) i m (λ b k l. split (block d b) (λ p. absurd (h b k l p)) (λ p. p))))

  among-few : (d i m : ℕ) → among d i m ≤ m
  among-few d i m = omega (arith, count-length (block d) (range i m), length-range i m)

  among-visits : (d : ℕ) → visits_from w days d ≡ among d 0 n
  unfolding visits_from block
  among-visits d = count-places (in_block w d) days

  in-block : (d b : ℕ) → d ≤ at days b → at days b < d + w → block d b ≡ true
  unfolding block
  in-block d b h k = and_i (leb d (at days b)) (ltb (at days b) (d + w)) (le-leb d (at days b) h) (lt-ltb (at days b) (d + w) k)

  block-from : (d b : ℕ) → block d b ≡ true → d ≤ at days b
  unfolding block
  block-from d b e = leb-true d (at days b) (and_l (leb d (at days b)) (ltb (at days b) (d + w)) e)

  block_to : (d b : ℕ) → block d b ≡ true → at days b < d + w
  unfolding block
  block_to d b e = ltb-true (at days b) (d + w) (and_r (leb d (at days b)) (ltb (at days b) (d + w)) e)

  -- what is between the places: what is before them is w days or more before what is after them, and all of it lies in the first one's block
  record Spaced (s : Sweep) : Type 0 where
    gone : (a b : ℕ) → a < s.from → s.to ≤ b → b < n → at days a + w ≤ at days b
    near : (b : ℕ) → s.from ≤ b → b < s.to → at days b < at days s.from + w

  -- the most so far: no block has more of the visits that came in, the day's own has as many, and every earlier block has fewer
  record Leading (s : Sweep) : Type 0 where
    covered : (a : ℕ) → a < n → among (at days a) 0 s.to ≤ s.best
    attained : s.best ≤ visits_from w days s.day
    visited : 1 ≤ s.best → (p : ℕ) × (p < n) × (at days p ≡ s.day)
    first : (a : ℕ) → a < n → at days a < s.day → visits_from w days (at days a) < s.best
    begun : 1 ≤ s.to → 1 ≤ s.best

  module _ (s : Sweep) (c : Counted s) (g : Spaced s) (l : Leading s) (more : s.to < n) where
    spaced-out : at days s.from + w ≤ at days s.to → Spaced (visit_out s)
    unfolding visit_out
    spaced-out out =
        let less = out_one w days s some c.ordered out in
        record {
          gone = λ a b h k m. split (ltb a s.from)
              (λ p. g.gone a b (ltb-true a s.from p) k m)
              (λ p.
              let e : a ≡ s.from = omega (arith, ltb-false a s.from p) in
              omega (arith, ap (at days) e, never-falls-by days rising s.to b k m));
          near = λ b h k. omega (arith, g.near b (omega arith) k, never-falls-by days rising s.from (s.from + 1) (omega arith) (omega arith));
        }

    leading-out : Leading (visit_out s)
    unfolding visit_out
    leading-out = record { covered = l.covered; attained = l.attained; visited = l.visited; first = l.first; begun = l.begun }

    module _ (in' : at days s.to < at days s.from + w) where
      -- all from `from` up to the new one lie in its block
      near-in : (b : ℕ) → s.from ≤ b → b < s.to + 1 → at days b < at days s.from + w
      near-in b h k = split (ltb b s.to)
          (λ p. g.near b h (ltb-true b s.to p))
          (λ p. let e : b ≡ s.to = omega (arith, ltb-false b s.to p) in omega (arith, ap (at days) e))

      spaced-in : Spaced (visit_in (at days s.from) s)
      unfolding visit_in
      spaced-in = record { gone = λ a b h k m. g.gone a b h (omega arith) m; near = near-in }

      -- so that it has as many
      many : s.count + 1 ≤ visits_from w days (at days s.from)
      many =
          let d = at days s.from in
          let width = (s.to + 1) - s.from in
          let whole = among-all d s.from width (λ b h k. in-block d b (never-falls-by days rising s.from b h (omega (arith, c.ordered))) (near-in b h (omega (arith, c.ordered)))) in
          let left = among-join d 0 s.from (n - s.from) n s.from (omega (arith, c.ordered)) (omega arith) in
          let right = among-join d s.from width (n - (s.to + 1)) (n - s.from) (s.to + 1) (omega (arith, c.ordered)) (omega (arith, c.ordered)) in
          omega (arith, whole, left, right, among-visits d, c.between, c.ordered)

      seen_more : (d : ℕ) → among d 0 (s.to + 1) ≡ among d 0 s.to + tally (block d s.to)
      seen_more d =
          omega (arith, among-join d 0 s.to 1 (s.to + 1) s.to refl (omega arith), count-is (block d) s.to [] (block d s.to) refl)

      -- a block that the new visit is in has nothing before `from`
      few-in : (d : ℕ) → block d s.to ≡ true → among d 0 (s.to + 1) ≤ s.count + 1
      few-in d h =
          let none = among_none d 0 s.from (λ b k m q. omega (arith, block-from d b q, block_to d s.to h, g.gone b s.to (omega arith) (omega arith) more)) in
          let width = (s.to + 1) - s.from in
          omega (arith, none, among-join d 0 s.from width (s.to + 1) s.from (omega (arith, c.ordered)) (omega arith), among-few d s.from width, c.between, c.ordered)

      -- a block that began before `from` has nothing from the new visit on
      closed : (a : ℕ) → a < n → at days a < at days s.from → visits_from w days (at days a) ≤ s.best
      closed a h k =
          let d = at days a in
          let before : a < s.from = split (ltb a s.from) (λ p. ltb-true a s.from p) (λ p. absurd (omega (arith, never-falls-by days rising s.from a (ltb-false a s.from p) h))) in
          let none = among_none d s.to (n - s.to) (λ b p q r. omega (arith, block_to d b r, g.gone a b before p (omega (arith, more)))) in
          omega (arith, none, among-join d 0 s.to (n - s.to) n s.to (omega (arith, more)) (omega arith), among-visits d, l.covered a h)

      leading-in : Leading (visit_in (at days s.from) s)
      unfolding visit_in
      leading-in = split (ltb s.best (s.count + 1))
          (λ p.
          let gain = ltb-true s.best (s.count + 1) p in
          rw p (record {
            covered = λ a h. split (block (at days a) s.to)
                (λ q. few-in (at days a) q)
                (λ q. omega (arith, seen_more (at days a), ap tally q, l.covered a h, gain));
            attained = many;
            visited = λ h. (s.from, omega (arith, c.ordered, more), refl);
            first = λ a h k. omega (arith, closed a h k, gain);
            begun = λ h. omega arith;
          }))
          (λ p.
          let most = ltb-false s.best (s.count + 1) p in
          rw p (record {
            covered = λ a h. split (block (at days a) s.to)
                (λ q. omega (arith, few-in (at days a) q, most))
                (λ q. omega (arith, seen_more (at days a), ap tally q, l.covered a h));
            attained = l.attained;
            visited = l.visited;
            first = l.first;
            begun = λ h. omega (arith, most);
          }))

  on-the-way : (i : ℕ) → (sweep_after w days i).to ≤ n → Spaced (sweep_after w days i) × Leading (sweep_after w days i)
  unfolding sweep_after
  on-the-way zero h = (
    record { gone = λ a b h k l. absurd (omega arith); near = λ b h k. absurd (omega arith) },
    record {
      covered = λ a h. omega arith;
      attained = omega arith;
      visited = λ h. absurd (omega arith);
      first = λ a h k. absurd (omega arith);
      begun = λ h. absurd (omega arith);
    },
  )
  on-the-way (suc i) h =
      let s = sweep_after w days i in
      let more = step-inside w days s some h in
      let c = counted-after w days some i in
      let before = on-the-way i (omega arith) in
      by-step w days s (λ t. Spaced t × Leading t)
      (λ out. (spaced-out s c before.0 before.1 more out, leading-out s c before.0 before.1 more))
      (λ in'. (spaced-in s c before.0 before.1 more in', leading-in s c before.0 before.1 more in'))

  -- ---- at the end, when all visits came in

  module _ (i : ℕ) (whole : (sweep_after w days i).to ≡ n) where
    leads : Leading (sweep_after w days i)
    leads = (on-the-way i (omega arith)).1

    pub at_most : (a : ℕ) → a < n → visits_from w days (at days a) ≤ (sweep_after w days i).best
    at_most a h = omega (arith, leads.covered a h, among-visits (at days a), ap (among (at days a) 0) whole)

    pub earlier-less : (a : ℕ) → a < n → at days a < (sweep_after w days i).day → visits_from w days (at days a) < (sweep_after w days i).best
    earlier-less = leads.first

    -- the day is a visit's, if there is one, and the most is its own
    pub on-visit : 1 ≤ n → (p : ℕ) × (p < n) × (at days p ≡ (sweep_after w days i).day) × (visits_from w days (at days p) ≡ (sweep_after w days i).best)
    on-visit h =
        let p = leads.visited (leads.begun (omega arith)) in
        (p.0, p.1, p.2, omega (arith, leads.attained, at_most p.0 p.1, ap (visits_from w days) p.2))
