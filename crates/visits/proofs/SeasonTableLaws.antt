-- The seasons by hand come out as the request says: by computation. Assumes nothing.
use Prim.Native.Nat.{ℕ}
use mathlib.Core.Path.{◌≡◌, refl}
use mathlib.Core.List.{List, map}
use lib.ListN.{length}
use Rattle.links.specs.Graph.{owned}
use Rattle.links.specs.Owners.{bad_ranks, too_many, stray_owner, empty_rank, from_owners}
use Rattle.visits.specs.Season.{windows_in, is_open, open_days, good_window, good_from, windows_of, bad_windows, too_few_days, season_cause, visit_day, visit_days, visits_after}
use Rattle.visits.specs.Seasons.{seasons}

pub seasons-by-hand
    : map {B = ℕ × List ℕ} (λ s. (season_cause s.0 s.1 s.2 s.3 (length s.4), visits_after s.0 s.1 s.2 s.3 s.4)) seasons
    ≡ map {B = ℕ × List ℕ} (λ s. (s.5, s.6)) seasons
unfolding seasons owned bad_ranks too_many stray_owner empty_rank from_owners windows_in is_open open_days good_window good_from windows_of bad_windows too_few_days season_cause visit_day visit_days visits_after
seasons-by-hand = refl
