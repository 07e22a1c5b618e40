-- The lists of visit days by hand come out as the request says: by computation. Assumes nothing.
use mathlib.Core.Path.{◌≡◌, refl}
use mathlib.Core.List.{map}
use Rattle.visits.specs.Crane.{bad_visits, visits_from, most_visits, earliest_day, crane_week}
use Rattle.visits.specs.Weeks.{weeks}

pub weeks-by-hand : map (λ r. crane_week r.0 r.1) weeks ≡ map (λ r. r.2) weeks
unfolding weeks bad_visits visits_from most_visits earliest_day crane_week
weeks-by-hand = refl
