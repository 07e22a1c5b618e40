-- What the inner functions of the season take and leave. Assumes nothing.
use Rattle.std.specs.Prelude.{ℕ, ◌-◌, ◌*◌, ◌≤◌, ◌<◌, ◌≡◌, false, List, length, ltb}
use Rattle.links.specs.Lists.{at, All, any, range, sum, concat_map}
use Rattle.visits.specs.Season.{days_from, misplaced}

-- the days of the windows, one window after the other: of good windows, the open days
abbrev pub spanned : List (ℕ × ℕ) → List ℕ
spanned windows = concat_map (λ w. range w.0 (w.1 - w.0)) windows

-- counts of which no sum wraps
pub record FewCounts (counts : List ℕ) : Type 0 where
  pub ranks : length counts ≤ 256
  pub low : any (ltb 32) counts ≡ false

-- the two slices, once their lengths have passed
pub record Laid (counts days : List ℕ) : Type 0 where
  pub few : FewCounts counts
  pub whole : length days ≡ 2 * sum counts

-- once 19 has passed
pub record Good (counts days : List ℕ) : Type 0 where
  pub laid : Laid counts days
  pub placed : any (misplaced counts days) (range 0 (length counts)) ≡ false

-- what is taken to write the days, with room for so many
pub record Plannable (owners counts days : List ℕ) (room : ℕ) : Type 0 where
  pub good : Good counts days
  pub roomy : length owners ≤ room
  pub ranked : All (λ o. o < length counts) owners

-- where the days of each rank up to n begin
pub record Started (counts starts : List ℕ) (n : ℕ) : Type 0 where
  pub sized : length starts ≡ 257
  pub entry : (r : ℕ) → r ≤ n → at starts r ≡ days_from counts r
