-- Request P12: crane weeks. The list has the day of each visit. Assumes nothing.
use Rattle.std.specs.Prelude.{ℕ, zero, suc, ◌+◌, ◌-◌, ◌*◌, ◌≤◌, ◌≡◌, Bool, false, not, ◌&&◌, ◌||◌, cond, List, map, ◌⊎◌, length, leb, ltb, eqb, Result, Ok, Err}
use Rattle.links.specs.Lists.{at, filter, any, between, greatest}
use Rattle.links.specs.Graph.{never_falling}
use Rattle.links.specs.Refusals.{number_of}
use Rattle.links.specs.declared.refusal.Refusal.{Refusal}
use Rattle.links.specs.declared.refusal.Refusal.TheVariants.{InvalidVisits}
use Rattle.visits.specs.declared.crane.Sweep.{Sweep}
use Rattle.visits.specs.declared.crane.Busiest.{Busiest}

-- 21: "w of 0 or above 366, a list too long, a day above 3,660 or a falling list"
unfoldable pub bad_visits : ℕ → List ℕ → Bool
bad_visits w days = not (between 1 366 w) || ltb 16384 (length days) || any (ltb 3660) days || not (never_falling days)

-- day x is one of the "w consecutive days" from day d on
abbrev pub in_block : ℕ → ℕ → ℕ → Bool
in_block w d x = leb d x && ltb x (d + w)

unfoldable pub visits_from : ℕ → List ℕ → ℕ → ℕ
visits_from w days d = length (filter (in_block w d) days)

-- "the largest number of visits in any w consecutive days that begin on a visit day"; of no visit, "0"
unfoldable pub most_visits : ℕ → List ℕ → ℕ
most_visits w days = greatest (map (visits_from w days) days)

-- "the earliest such day", the first of a list that never falls; of no visit, "day 0"
unfoldable pub earliest_day : ℕ → List ℕ → ℕ
earliest_day w days = at (filter (λ d. eqb (visits_from w days d) (most_visits w days)) days) 0

-- ---- "the count is carried along, a day in and days out, never begun again"

-- the visit at `to` comes in: one more, and perhaps the most so far, from the first day that is counted
unfoldable pub visit_in : ℕ → Sweep → Sweep
visit_in first s =
    let count = s.count + 1 in
    let more = ltb s.best count in
    record { from = s.from; to = s.to + 1; count = count; best = cond more count s.best; day = cond more first s.day }

-- the visit at `from` goes out
unfoldable pub visit_out : Sweep → Sweep
visit_out s = record { from = s.from + 1; to = s.to; count = s.count - 1; best = s.best; day = s.day }

-- one step: a visit out if it is w days or more before the next, else the next one in
unfoldable pub sweep_step : ℕ → List ℕ → Sweep → Sweep
sweep_step w days s = cond (leb (at days s.from + w) (at days s.to)) (visit_out s) (visit_in (at days s.from) s)

abbrev pub sweep_start : Sweep
sweep_start = record { from = 0; to = 0; count = 0; best = 0; day = 0 }

-- what so many steps come to
unfoldable pub sweep_after : ℕ → List ℕ → ℕ → Sweep
sweep_after w days zero = sweep_start
sweep_after w days (suc i) = sweep_step w days (sweep_after w days i)

-- a step from s to t raises one of the two places by one, and the count goes up by one with a visit in, down by one with a visit out
abbrev pub CameIn : Sweep → Sweep → Type 0
CameIn s t = (t.from ≡ s.from) × (t.to ≡ s.to + 1) × (t.count ≡ s.count + 1)

abbrev pub WentOut : Sweep → Sweep → Type 0
WentOut s t = (t.from ≡ s.from + 1) × (t.to ≡ s.to) × (s.count ≡ t.count + 1)

-- the visits and the day are what the count comes to: after at most two steps for each visit, each one in or one out, when all visits came in
pub record Carried (w : ℕ) (days : List ℕ) (visits day : ℕ) : Type 0 where
  pub steps : ℕ
  pub few : steps ≤ 2 * length days
  pub each : (i : ℕ) → CameIn (sweep_after w days i) (sweep_after w days (i + 1)) ⊎ WentOut (sweep_after w days i) (sweep_after w days (i + 1))
  pub whole : (sweep_after w days steps).to ≡ length days
  pub most : (sweep_after w days steps).best ≡ visits
  pub first : (sweep_after w days steps).day ≡ day

-- ---- the answer: its number, visits and day; "a refusal added later returns zeros with its number and leaves everything lent as it was": the list is
-- only read

abbrev pub crane_visits : Result Busiest Refusal → ℕ
crane_visits (Ok busiest) = busiest.visits
crane_visits (Err refusal) = 0

abbrev pub crane_day : Result Busiest Refusal → ℕ
crane_day (Ok busiest) = busiest.day
crane_day (Err refusal) = 0

-- the case and its values
unfoldable pub crane_week : ℕ → List ℕ → Result Busiest Refusal
crane_week w days = cond (bad_visits w days) (Err InvalidVisits) (Ok (record { visits = most_visits w days; day = earliest_day w days }))

-- the promise: the answer is the defined one, and so are its number and values; of what is not refused, the count that is carried along comes to them
pub record CraneTold (w : ℕ) (days : List ℕ) (r : Result Busiest Refusal) : Type 0 where
  pub answer : r ≡ crane_week w days
  pub number : number_of r ≡ cond (bad_visits w days) 21 0
  pub visits : crane_visits r ≡ cond (bad_visits w days) 0 (most_visits w days)
  pub day : crane_day r ≡ cond (bad_visits w days) 0 (earliest_day w days)
  pub carried : bad_visits w days ≡ false → Carried w days (crane_visits r) (crane_day r)
