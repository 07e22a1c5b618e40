-- Seasons by hand, good and bad: the number of ranks, owners, counts of windows, their days, the lent slice, and the number that is
-- told, 0 for a season that is planned, and what is left of the slice.
-- proofs/SeasonTableLaws.antt proves the table by computation. Assumes nothing.
use Rattle.std.specs.Prelude.{ℕ, List, [], ◌∷◌, replicate}
use Rattle.links.specs.Lists.{range}

unfoldable pub seasons : List (ℕ × List ℕ × List ℕ × List ℕ × List ℕ × ℕ × List ℕ)
seasons =
    -- "the first day is open, the end day closed"
    (1, 0 ∷ 0 ∷ 0 ∷ [], 1 ∷ [], 5 ∷ 8 ∷ [], 9 ∷ 9 ∷ 9 ∷ [], 0, 5 ∷ 6 ∷ 7 ∷ [])
    -- the example of the README: "a crew visits its turbines by number", and what lies beyond n is left
    ∷ (2, 0 ∷ 0 ∷ 1 ∷ 1 ∷ [], 2 ∷ 1 ∷ [], 3 ∷ 4 ∷ 10 ∷ 12 ∷ 0 ∷ 2 ∷ [], 9 ∷ 9 ∷ 9 ∷ 9 ∷ 9 ∷ [], 0, 3 ∷ 10 ∷ 0 ∷ 1 ∷ 9 ∷ [])
    ∷ (2, 0 ∷ 1 ∷ 0 ∷ 1 ∷ 0 ∷ [], 2 ∷ 1 ∷ [], 3 ∷ 5 ∷ 7 ∷ 9 ∷ 0 ∷ 2 ∷ [], replicate 5 9, 0, 3 ∷ 0 ∷ 4 ∷ 1 ∷ 7 ∷ [])
    -- windows "may touch", and have one day
    ∷ (1, 0 ∷ 0 ∷ 0 ∷ [], 3 ∷ [], 0 ∷ 1 ∷ 1 ∷ 2 ∷ 2 ∷ 3 ∷ [], replicate 3 9, 0, 0 ∷ 1 ∷ 2 ∷ [])
    -- a later rank may begin earlier, on the same days
    ∷ (2, 1 ∷ 0 ∷ [], 1 ∷ 1 ∷ [], 7 ∷ 8 ∷ 7 ∷ 9 ∷ [], replicate 2 9, 0, 7 ∷ 7 ∷ [])
    -- days "numbered 0 to 3,660"
    ∷ (1, 0 ∷ [], 1 ∷ [], 3659 ∷ 3660 ∷ [], 9 ∷ [], 0, 3659 ∷ [])
    ∷ (1, 0 ∷ [], 1 ∷ [], 3660 ∷ 3661 ∷ [], 9 ∷ [], 19, 9 ∷ [])
    ∷ (1, 0 ∷ [], 1 ∷ [], 0 ∷ 3661 ∷ [], 9 ∷ [], 19, 9 ∷ [])
    -- "up to 32 windows", here of one day each, every other day
    ∷ (1, 0 ∷ 0 ∷ 0 ∷ [], 32 ∷ [], range 0 64, replicate 3 9, 0, 0 ∷ 2 ∷ 4 ∷ [])
    ∷ (1, 0 ∷ 0 ∷ 0 ∷ [], 33 ∷ [], range 0 66, replicate 3 9, 19, replicate 3 9)
    -- "may not be empty"
    ∷ (1, 0 ∷ [], 2 ∷ [], 0 ∷ 1 ∷ 4 ∷ 4 ∷ [], 9 ∷ [], 19, 9 ∷ [])
    ∷ (1, 0 ∷ [], 1 ∷ [], 5 ∷ 4 ∷ [], 9 ∷ [], 19, 9 ∷ [])
    -- "in rising sequence"
    ∷ (1, 0 ∷ [], 2 ∷ [], 4 ∷ 6 ∷ 5 ∷ 7 ∷ [], 9 ∷ [], 19, 9 ∷ [])
    ∷ (1, 0 ∷ [], 2 ∷ [], 4 ∷ 6 ∷ 1 ∷ 2 ∷ [], 9 ∷ [], 19, 9 ∷ [])
    -- "either of their slices of another length"; sums do not wrap
    ∷ (1, 0 ∷ [], [], [], 9 ∷ [], 19, 9 ∷ [])
    ∷ (1, 0 ∷ [], 1 ∷ 0 ∷ [], 0 ∷ 1 ∷ [], 9 ∷ [], 19, 9 ∷ [])
    ∷ (1, 0 ∷ [], 1 ∷ [], 0 ∷ [], 9 ∷ [], 19, 9 ∷ [])
    ∷ (1, 0 ∷ [], 1 ∷ [], 0 ∷ 1 ∷ 2 ∷ [], 9 ∷ [], 19, 9 ∷ [])
    ∷ (2, 0 ∷ 1 ∷ [], 2147483648 ∷ 2147483648 ∷ [], [], replicate 2 9, 19, replicate 2 9)
    -- "20 exactly when a crew has fewer open days than turbines": one fewer, as many, and no window
    ∷ (1, 0 ∷ 0 ∷ 0 ∷ [], 2 ∷ [], 0 ∷ 1 ∷ 5 ∷ 6 ∷ [], replicate 3 9, 20, replicate 3 9)
    ∷ (1, 0 ∷ 0 ∷ 0 ∷ [], 2 ∷ [], 0 ∷ 1 ∷ 5 ∷ 7 ∷ [], replicate 3 9, 0, 0 ∷ 5 ∷ 6 ∷ [])
    ∷ (2, 0 ∷ 1 ∷ [], 1 ∷ 0 ∷ [], 0 ∷ 1 ∷ [], replicate 2 9, 20, replicate 2 9)
    -- "after 19": a later rank's wrong window comes before an earlier one's lack
    ∷ (2, 0 ∷ 1 ∷ [], 0 ∷ 1 ∷ [], 1 ∷ 1 ∷ [], replicate 2 9, 19, replicate 2 9)
    -- "those of `from_owners`, 5, then the windows"
    ∷ (0, 0 ∷ [], [], [], 9 ∷ [], 2, 9 ∷ [])
    ∷ (1, [], 1 ∷ [], 0 ∷ 1 ∷ [], 9 ∷ [], 2, 9 ∷ [])
    ∷ (2, 0 ∷ [], 1 ∷ [], 0 ∷ 1 ∷ [], [], 2, [])
    ∷ (1, replicate 16385 0, 1 ∷ [], 0 ∷ 1 ∷ [], [], 3, [])
    ∷ (2, 0 ∷ 2 ∷ [], [], [], [], 12, [])
    ∷ (2, 1 ∷ 1 ∷ [], [], [], [], 9, [])
    ∷ (1, 0 ∷ 0 ∷ [], [], [], 9 ∷ [], 5, 9 ∷ [])
    ∷ []
