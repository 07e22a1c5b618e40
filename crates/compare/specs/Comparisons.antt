-- Comparisons by hand, good and bad, with what is told of each. proofs/ComparisonTableLaws.antt proves the table by computation. Assumes nothing.
use Rattle.std.specs.Prelude.{ℕ, List, [], ◌∷◌, replicate, Option, Some, None}
use Rattle.compare.specs.declared.order.Order.{Order}
use Rattle.compare.specs.declared.order.Order.TheVariants.{Same, First, Second}

-- the path 0-1-2-3: its offsets and neighbors
abbrev pub path_offsets : List ℕ
path_offsets = 0 ∷ 1 ∷ 3 ∷ 5 ∷ 6 ∷ []

abbrev pub path_neighbors : List ℕ
path_neighbors = 1 ∷ 0 ∷ 2 ∷ 1 ∷ 3 ∷ 2 ∷ []

-- a refusal: its number, and no order
abbrev refused : ℕ → ℕ × Option Order
refused number = (number, None)

-- the number 0, and the order
abbrev told : Order → ℕ × Option Order
told order = (0, Some order)

-- on the path: the number of ranks, two owner lists, the order, and the renaming's first numbers; all after them are 0
unfoldable pub comparisons : List (ℕ × List ℕ × List ℕ × (ℕ × Option Order) × List ℕ)
comparisons =
    -- "some renaming of crews turns one into the other": two exchanged, three in a ring, all as they were
    (2, 0 ∷ 0 ∷ 1 ∷ 1 ∷ [], 1 ∷ 1 ∷ 0 ∷ 0 ∷ [], told Same, 1 ∷ 0 ∷ [])
    ∷ (3, 2 ∷ 2 ∷ 0 ∷ 1 ∷ [], 0 ∷ 0 ∷ 1 ∷ 2 ∷ [], told Same, 1 ∷ 2 ∷ 0 ∷ [])
    ∷ (4, 3 ∷ 0 ∷ 2 ∷ 1 ∷ [], 0 ∷ 1 ∷ 2 ∷ 3 ∷ [], told Same, 1 ∷ 3 ∷ 2 ∷ 0 ∷ [])
    ∷ (2, 0 ∷ 1 ∷ 1 ∷ 0 ∷ [], 0 ∷ 1 ∷ 1 ∷ 0 ∷ [], told Same, 0 ∷ 1 ∷ [])
    ∷ (1, 0 ∷ 0 ∷ 0 ∷ 0 ∷ [], 0 ∷ 0 ∷ 0 ∷ 0 ∷ [], told Same, 0 ∷ [])
    -- "ordered by fewer cut links": one against two, though the second's renumbered owners come first
    ∷ (2, 0 ∷ 1 ∷ 1 ∷ 1 ∷ [], 0 ∷ 0 ∷ 1 ∷ 0 ∷ [], told First, [])
    ∷ (2, 0 ∷ 0 ∷ 1 ∷ 1 ∷ [], 0 ∷ 1 ∷ 1 ∷ 0 ∷ [], told First, [])
    ∷ (2, 0 ∷ 1 ∷ 0 ∷ 1 ∷ [], 0 ∷ 1 ∷ 1 ∷ 0 ∷ [], told Second, [])
    -- "then by renumbered owners from turbine 0 up": one cut link each, 0111 against 0001 and against 0011, 0011 against 0001
    ∷ (2, 0 ∷ 1 ∷ 1 ∷ 1 ∷ [], 0 ∷ 0 ∷ 0 ∷ 1 ∷ [], told Second, [])
    ∷ (2, 1 ∷ 0 ∷ 0 ∷ 0 ∷ [], 0 ∷ 0 ∷ 0 ∷ 1 ∷ [], told Second, [])
    ∷ (2, 1 ∷ 1 ∷ 0 ∷ 0 ∷ [], 0 ∷ 1 ∷ 1 ∷ 1 ∷ [], told First, [])
    ∷ (2, 1 ∷ 1 ∷ 1 ∷ 0 ∷ [], 0 ∷ 0 ∷ 1 ∷ 1 ∷ [], told First, [])
    -- "then each list, with one k, the `from_owners` tests": the first list's, then the second's
    ∷ (0, 0 ∷ 0 ∷ 1 ∷ 1 ∷ [], 0 ∷ 0 ∷ 1 ∷ 1 ∷ [], refused 2, [])
    ∷ (2, 0 ∷ 2 ∷ 1 ∷ [], 0 ∷ 0 ∷ 0 ∷ 0 ∷ [], refused 12, [])
    ∷ (2, 0 ∷ 0 ∷ 0 ∷ 0 ∷ [], 0 ∷ [], refused 9, [])
    ∷ (2, 0 ∷ 0 ∷ 1 ∷ 1 ∷ [], 0 ∷ [], refused 2, [])
    ∷ (2, 0 ∷ 0 ∷ 1 ∷ [], 0 ∷ 0 ∷ 2 ∷ 1 ∷ [], refused 12, [])
    ∷ (2, 0 ∷ 0 ∷ 1 ∷ [], 1 ∷ 1 ∷ 1 ∷ 1 ∷ [], refused 9, [])
    -- "18 for a list not n long, after both lists' tests"
    ∷ (2, 0 ∷ 0 ∷ 1 ∷ [], 0 ∷ 0 ∷ 1 ∷ 1 ∷ [], refused 18, [])
    ∷ (2, 0 ∷ 0 ∷ 1 ∷ 1 ∷ [], 0 ∷ 0 ∷ 1 ∷ [], refused 18, [])
    ∷ (2, 0 ∷ 0 ∷ 1 ∷ 1 ∷ 1 ∷ [], 0 ∷ 0 ∷ 1 ∷ [], refused 18, [])
    ∷ []

-- two owners for two ranks, which would pass, and a site: the offsets, the neighbors and the refusal
unfoldable pub bad_sites : List (List ℕ × List ℕ × (ℕ × Option Order))
bad_sites =
    -- "The site passes 3 (n and m only) and 4": 4 for no offsets, a link told from one end, a vertex linked to itself; 3 before it
    ([], [], refused 4)
    ∷ (0 ∷ 1 ∷ 1 ∷ [], 1 ∷ [], refused 4)
    ∷ (0 ∷ 1 ∷ 2 ∷ [], 0 ∷ 1 ∷ [], refused 4)
    ∷ (replicate 16386 0, [], refused 3)
    ∷ []
