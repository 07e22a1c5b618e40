-- Request P10: the order of two divisions, and the renaming between two that are the same. 02's turbine is a vertex here, its crew a rank.
-- Assumes nothing.
use Rattle.std.specs.Prelude.{ℕ, suc, Bool, true, false, ◌&&◌, cond, List, [], ◌∷◌, ◌++◌, map, ltb, eqb, Option, Some, None}
use Rattle.links.specs.Lists.{elem, foldl}
use Rattle.links.specs.Parts.{table}
use Rattle.links.specs.Graph.{links_cut}
use Rattle.compare.specs.declared.order.Order.{Order}
use Rattle.compare.specs.declared.order.Order.TheVariants.{Same, First, Second}

-- ---- ranks by first appearance

-- the ranks met so far, with r at their end if it is new
abbrev pub meeting : List ℕ → ℕ → List ℕ
meeting met r = let more = met ++ (r ∷ []) in cond (elem r met) met more

-- the ranks that own something, "by their first appearance from turbine 0 up"
unfoldable pub appearing : List ℕ → List ℕ
appearing owners = foldl meeting [] owners

-- the place where x first stands; the length if it stands nowhere
abbrev pub place_of : ℕ → List ℕ → ℕ
place_of x [] = 0
place_of x (y ∷ ys) = let further = suc (place_of x ys) in cond (eqb x y) 0 further

-- "Renumber crews by their first appearance from turbine 0 up"
unfoldable pub renumbered : List ℕ → List ℕ
renumbered owners = map (λ o. place_of o (appearing owners)) owners

-- ---- the order

-- the lesser of two numbers comes first
abbrev pub lesser_first : ℕ → ℕ → Order
lesser_first a b = cond (ltb a b) First (cond (ltb b a) Second Same)

-- what one key tells; where it does not decide, what is told later
abbrev pub then_by : Order → Order → Order
then_by Same later = later
then_by First later = First
then_by Second later = Second

-- which of two lists of one length has the lesser number where they first differ, "from turbine 0 up"
unfoldable pub by_numbers : List ℕ → List ℕ → Order
by_numbers [] ys = Same
by_numbers (x ∷ xs) [] = Same
by_numbers (x ∷ xs) (y ∷ ys) = then_by (lesser_first x y) (by_numbers xs ys)

-- "ordered by fewer cut links, then by renumbered owners from turbine 0 up"
unfoldable pub order_of : List (List ℕ) → List ℕ → List ℕ → Order
order_of rows first second =
    then_by (lesser_first (links_cut rows first) (links_cut rows second)) (by_numbers (renumbered first) (renumbered second))

-- the same answer with the two divisions exchanged
abbrev pub exchange : Order → Order
exchange Same = Same
exchange First = Second
exchange Second = First

abbrev pub is_same : Order → Bool
is_same Same = true
is_same First = false
is_same Second = false

-- of a refusal nothing is told
abbrev pub told_same : Option Order → Bool
told_same (Some o) = is_same o
told_same None = false

-- ---- the renaming

-- "the second division's number for the first's crew i": that of the first vertex that i owns; 0 if it owns none
unfoldable pub renamed : List ℕ → List ℕ → ℕ → ℕ
renamed [] second i = 0
renamed (a ∷ first) [] i = 0
renamed (a ∷ first) (b ∷ second) i = cond (eqb i a) b (renamed first second i)

-- "returned as 256 numbers: place i holds the second division's number for the first's crew i, and 0 stands from k on and everywhere if they differ"
unfoldable pub renaming_of : ℕ → List ℕ → List ℕ → Option Order → List ℕ
renaming_of k first second order = table (λ i. cond (told_same order && ltb i k) (renamed first second i) 0) 256
