-- What the functions of src/numbers.rt hand to each other. Assumes nothing.
use Rattle.std.specs.Prelude.{ℕ, Bool, cond, List, eqb}
use Rattle.links.specs.Lists.{at, unassigned, elem}
use Rattle.compare.specs.Order.{place_of}

-- a rank's number among the ranks met; unassigned if it is not among them
unfoldable pub number_in : List ℕ → ℕ → ℕ
number_in met r = cond (elem r met) (place_of r met) unassigned

-- in a table of numbers, a rank that has none yet
abbrev pub is_new : List ℕ → ℕ → Bool
is_new numbers r = eqb (at numbers r) unassigned
