-- Request P11: season windows, and the day of each visit. 02's crew is a rank here, its turbine a vertex. Assumes nothing.
use Rattle.std.specs.Prelude.{ℕ, ◌+◌, ◌*◌, ◌≤◌, ◌<◌, ◌≡◌, Bool, true, false, not, ◌&&◌, ◌||◌, cond, List, [], ◌∷◌, ◌++◌, length, take, drop, leb, ltb, eqb, Result}
use Rattle.std.specs.Result.{is_ok}
use Rattle.links.specs.Lists.{at, filter, any, range, sum}
use Rattle.links.specs.Parts.{part, table}
use Rattle.links.specs.Graph.{owned}
use Rattle.links.specs.Owners.{from_owners}
use Rattle.links.specs.Refusals.{number_of}
use Rattle.links.specs.declared.refusal.Refusal.{Refusal}

-- ---- a rank's windows, each a first and an end day

-- "first and end days in turn"
unfoldable pub windows_in : List ℕ → List (ℕ × ℕ)
windows_in [] = []
windows_in (first ∷ []) = []
windows_in (first ∷ end ∷ later) = (first, end) ∷ windows_in later

-- "the first day is open, the end day closed"
unfoldable pub is_open : List (ℕ × ℕ) → ℕ → Bool
is_open windows day = any (λ w. leb w.0 day && ltb day w.1) windows

-- the open ones of the days "numbered 0 to 3,660", rising
unfoldable pub open_days : List (ℕ × ℕ) → List ℕ
open_days windows = filter (is_open windows) (range 0 3661)

-- a window that begins where the one before it ends, which it "may touch", or later; that is not "empty"; and whose days are "numbered 0 to 3,660"
unfoldable pub good_window : ℕ → ℕ → ℕ → Bool
good_window before first end = leb before first && ltb first end && leb end 3660

-- "windows lie in rising sequence, may touch and may not be empty"
unfoldable pub good_from : ℕ → List (ℕ × ℕ) → Bool
good_from before [] = true
good_from before (w ∷ later) = good_window before w.0 w.1 && good_from w.1 later

abbrev pub good_windows : List (ℕ × ℕ) → Bool
good_windows windows = good_from 0 windows

-- ---- all ranks' windows: "a lent slice of k counts and one of first and end days in turn, crew by crew"

-- where the days of rank r begin, two for each window of the ranks before it
abbrev pub days_from : List ℕ → ℕ → ℕ
days_from counts r = 2 * sum (take r counts)

unfoldable pub windows_of : List ℕ → List ℕ → ℕ → List (ℕ × ℕ)
windows_of counts days r = windows_in (part days (days_from counts r) (days_from counts (r + 1)))

-- a rank's "windows breaking these rules"
abbrev pub misplaced : List ℕ → List ℕ → ℕ → Bool
misplaced counts days r = not (good_windows (windows_of counts days r))

-- 19: "windows breaking these rules or either of their slices of another length"; a rank has "up to 32 windows"
unfoldable pub bad_windows : ℕ → List ℕ → List ℕ → Bool
bad_windows k counts days =
    not (eqb (length counts) k)
    || any (ltb 32) counts
    || not (eqb (length days) (2 * sum counts))
    || any (misplaced counts days) (range 0 k)

-- a rank's "fewer open days than turbines"
abbrev pub lacks_days : List ℕ → List ℕ → List ℕ → ℕ → Bool
lacks_days owners counts days r = ltb (length (open_days (windows_of counts days r))) (owned owners r)

-- 20: "a crew has fewer open days than turbines"
unfoldable pub too_few_days : ℕ → List ℕ → List ℕ → List ℕ → Bool
too_few_days k owners counts days = any (lacks_days owners counts days) (range 0 k)

-- "then the windows": 19, and 20 "after 19"
abbrev pub windows_cause : ℕ → List ℕ → List ℕ → List ℕ → ℕ
windows_cause k owners counts days =
    let few : ℕ = cond (too_few_days k owners counts days) 20 0 in
    cond (bad_windows k counts days) 19 few

-- "those of `from_owners`, 5, then the windows"; 0 if none refuses, with so much room for days
unfoldable pub season_cause : ℕ → List ℕ → List ℕ → List ℕ → ℕ → ℕ
season_cause k owners counts days room =
    let windows : ℕ = windows_cause k owners counts days in
    let short : ℕ = cond (ltb room (length owners)) 5 windows in
    cond (eqb (from_owners k owners) 0) short (from_owners k owners)

-- ---- the days

-- "a crew visits its turbines by number": of the vertices of v's rank so many come before v, and "the j-th turbine falls on the j-th open day"
unfoldable pub visit_day : List ℕ → List ℕ → List ℕ → ℕ → ℕ
visit_day owners counts days v = at (open_days (windows_of counts days (at owners v))) (owned (take v owners) (at owners v))

unfoldable pub visit_days : List ℕ → List ℕ → List ℕ → List ℕ
visit_days owners counts days = table (visit_day owners counts days) (length owners)

-- the lent slice afterwards: "the day of each turbine" over its first n numbers; "a refusal writes no day"
unfoldable pub visits_after : ℕ → List ℕ → List ℕ → List ℕ → List ℕ → List ℕ
visits_after k owners counts days visits =
    let written = visit_days owners counts days ++ drop (length owners) visits in
    cond (eqb (season_cause k owners counts days (length visits)) 0) written visits

-- ---- the answer

-- what is tested before 20 passes
pub record Tested (k : ℕ) (owners counts days : List ℕ) (room : ℕ) : Type 0 where
  pub owners-pass : from_owners k owners ≡ 0
  pub roomy : length owners ≤ room
  pub windows-pass : bad_windows k counts days ≡ false

-- a rank with "fewer open days than turbines"
pub record Lacking (k : ℕ) (owners counts days : List ℕ) : Type 0 where
  pub rank : ℕ
  pub is-rank : rank < k
  pub fewer : length (open_days (windows_of counts days rank)) < owned owners rank

-- the promise: the case, the number and the lent slice afterwards are the defined ones; and what that comes to
pub record SeasonTold (k : ℕ) (owners counts days visits visits' : List ℕ) (r : Result (Unit {0}) Refusal) : Type 0 where
  pub answer : is_ok r ≡ eqb (season_cause k owners counts days (length visits)) 0
  pub number : number_of r ≡ season_cause k owners counts days (length visits)
  pub written : visits' ≡ visits_after k owners counts days visits
  -- each day is open for its rank
  pub opens : number_of r ≡ 0 → (v : ℕ) → v < length owners → is_open (windows_of counts days (at owners v)) (at visits' v) ≡ true
  -- a rank's days rise with its vertices: "by number, at most one on each open day"
  pub rises : number_of r ≡ 0 → (u v : ℕ) → u < v → v < length owners → at owners u ≡ at owners v → at visits' u < at visits' v
  -- "20 exactly when a crew has fewer open days than turbines"
  pub exactly : Tested k owners counts days (length visits) → Lacking k owners counts days → number_of r ≡ 20
  pub only : number_of r ≡ 20 → Tested k owners counts days (length visits) × Lacking k owners counts days
