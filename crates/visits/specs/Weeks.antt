-- Lists of visit days by hand, good and bad: the width of a block, the days, and what is told of them. proofs/WeekLaws.antt proves the table by
-- computation. Assumes nothing.
use Rattle.std.specs.Prelude.{ℕ, List, [], ◌∷◌, replicate, Result, Ok, Err}
use Rattle.links.specs.declared.refusal.Refusal.{Refusal}
use Rattle.links.specs.declared.refusal.Refusal.TheVariants.{InvalidVisits}
use Rattle.visits.specs.declared.crane.Busiest.{Busiest}

-- so many visits from this day on
abbrev busiest : ℕ → ℕ → Result Busiest Refusal
busiest visits day = Ok (record { visits = visits; day = day })

unfoldable pub weeks : List (ℕ × List ℕ × Result Busiest Refusal)
weeks =
    -- "an empty list gives 0 and day 0", with the least width and with the greatest
    (1, [], busiest 0 0)
    ∷ (366, [], busiest 0 0)
    -- one visit, on the first day and on the last
    ∷ (1, 0 ∷ [], busiest 1 0)
    ∷ (366, 3660 ∷ [], busiest 1 3660)
    -- "repeats allowed", and each counts
    ∷ (1, 5 ∷ 5 ∷ 5 ∷ [], busiest 3 5)
    ∷ (2, 4 ∷ 5 ∷ 5 ∷ 5 ∷ 6 ∷ [], busiest 4 4)
    -- a block of w days ends before day d + w
    ∷ (3, 1 ∷ 4 ∷ [], busiest 1 1)
    ∷ (4, 1 ∷ 4 ∷ [], busiest 2 1)
    -- of blocks with as many visits the earliest; a later one with more
    ∷ (3, 1 ∷ 1 ∷ 2 ∷ 4 ∷ 4 ∷ 5 ∷ 9 ∷ [], busiest 3 1)
    ∷ (2, 0 ∷ 5 ∷ 6 ∷ 9 ∷ 10 ∷ [], busiest 2 5)
    ∷ (7, 0 ∷ 6 ∷ 7 ∷ 8 ∷ 13 ∷ 20 ∷ [], busiest 3 6)
    -- the example of the README
    ∷ (7, 2 ∷ 3 ∷ 3 ∷ 9 ∷ 12 ∷ 13 ∷ 14 ∷ 15 ∷ [], busiest 5 9)
    ∷ (8, 2 ∷ 3 ∷ 3 ∷ 9 ∷ 12 ∷ 13 ∷ 14 ∷ 15 ∷ [], busiest 5 9)
    -- several days out before one comes in
    ∷ (3, 0 ∷ 1 ∷ 2 ∷ 9 ∷ 10 ∷ 10 ∷ 11 ∷ [], busiest 4 9)
    -- a block may end after the last day
    ∷ (366, 3294 ∷ 3296 ∷ 3660 ∷ 3660 ∷ [], busiest 3 3296)
    -- "w of 0 or above 366"
    ∷ (0, [], Err InvalidVisits)
    ∷ (0, 1 ∷ [], Err InvalidVisits)
    ∷ (367, [], Err InvalidVisits)
    ∷ (367, 1 ∷ [], Err InvalidVisits)
    -- "a list too long"
    ∷ (7, replicate 16385 0, Err InvalidVisits)
    -- "a day above 3,660"
    ∷ (7, 3661 ∷ [], Err InvalidVisits)
    ∷ (7, 0 ∷ 3660 ∷ 3661 ∷ [], Err InvalidVisits)
    -- "a falling list"
    ∷ (7, 1 ∷ 0 ∷ [], Err InvalidVisits)
    ∷ (7, 1 ∷ 2 ∷ 3 ∷ 2 ∷ [], Err InvalidVisits)
    ∷ (7, 3661 ∷ 1 ∷ [], Err InvalidVisits)
    ∷ []
