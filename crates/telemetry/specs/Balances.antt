-- Sites by hand, good and bad: one by one with what is told of each, and several at once. proofs/BalanceTableLaws.antt proves both tables by computation.
-- Assumes nothing.
use Rattle.std.specs.Prelude.{ℕ, ◌+◌, List, [], ◌∷◌, ◌++◌, replicate, from_bits, Option, Some, None}
use Rattle.std.specs.Float.{binary64}
use Rattle.links.specs.Lists.{range, concat_map}
use Rattle.telemetry.specs.declared.site.PartitionTelemetry.{PartitionTelemetry}
use Rattle.telemetry.specs.declared.sites.Totals.{Totals}

-- the path 0-1-2-3: its offsets and neighbors
abbrev pub path_offsets : List ℕ
path_offsets = 0 ∷ 1 ∷ 3 ∷ 5 ∷ 6 ∷ []

abbrev pub path_neighbors : List ℕ
path_neighbors = 1 ∷ 0 ∷ 2 ∷ 1 ∷ 3 ∷ 2 ∷ []

-- n vertices without links
abbrev pub lone : ℕ → List ℕ
lone n = replicate (n + 1) 0

-- a refusal: its number, and no value
abbrev refused : {A : Type 0} → ℕ → ℕ × Option A
refused number = (number, None)

-- the number 0, and two ratios by their bits
abbrev ratios : ℕ → ℕ → ℕ × Option PartitionTelemetry
ratios owned entries = (0, Some (record { owned_dof_imbalance = from_bits binary64 owned; local_nnz_imbalance = from_bits binary64 entries }))

-- 1.0, 1.5, 2.0 and the f64 nearest to 4/3 and to 5/3
abbrev one : ℕ
one = 4607182418800017408

abbrev one_and_a_half : ℕ
one_and_a_half = 4609434218613702656

abbrev two : ℕ
two = 4611686018427387904

abbrev four_thirds : ℕ
four_thirds = 4608683618675807573

abbrev five_thirds : ℕ
five_thirds = 4610184818551597739

-- offsets, neighbors, the number of ranks, owners, and the answer
unfoldable pub telemetries : List (List ℕ × List ℕ × ℕ × List ℕ × (ℕ × Option PartitionTelemetry))
telemetries =
    -- "the owned ratio is exactly 1.0 where all crews own the same count"
    (path_offsets, path_neighbors, 2, 0 ∷ 0 ∷ 1 ∷ 1 ∷ [], ratios one one)
    ∷ (path_offsets, path_neighbors, 2, 0 ∷ 1 ∷ 1 ∷ 0 ∷ [], ratios one four_thirds)
    ∷ (path_offsets, path_neighbors, 4, 3 ∷ 2 ∷ 1 ∷ 0 ∷ [], ratios one four_thirds)
    -- entries are of the rows that a rank owns, cut ones among them
    ∷ (path_offsets, path_neighbors, 2, 0 ∷ 0 ∷ 0 ∷ 1 ∷ [], ratios one_and_a_half five_thirds)
    ∷ (path_offsets, path_neighbors, 1, 0 ∷ 0 ∷ 0 ∷ 0 ∷ [], ratios one one)
    -- "1.0 where the average is 0": without links
    ∷ (lone 4, [], 2, 1 ∷ 1 ∷ 1 ∷ 0 ∷ [], ratios one_and_a_half one)
    ∷ (lone 4, [], 4, 0 ∷ 1 ∷ 2 ∷ 3 ∷ [], ratios one one)
    -- "each f64 division rounded one time": 3 / (5 / 3) and 4 / (11 / 3) are each one unit off what 9 / 5 and 12 / 11 give
    ∷ (lone 5, [], 3, 0 ∷ 0 ∷ 0 ∷ 1 ∷ 2 ∷ [], ratios 4610785298501913804 one)
    ∷ (lone 11, [], 3, 0 ∷ 0 ∷ 0 ∷ 0 ∷ 1 ∷ 1 ∷ 1 ∷ 1 ∷ 2 ∷ 2 ∷ 2 ∷ [], ratios 4607591836947960181 one)
    -- "Tests: 3 (n, m), 4, `from_owners`, 18"
    ∷ (lone 16385, [], 0, [], refused 3)
    ∷ ([], [], 0, [], refused 4)
    ∷ (0 ∷ 1 ∷ 1 ∷ [], 1 ∷ [], 257, [], refused 4)
    ∷ (0 ∷ [], [], 1, [], refused 2)
    ∷ (path_offsets, path_neighbors, 5, 0 ∷ 0 ∷ 1 ∷ 1 ∷ [], refused 2)
    ∷ (path_offsets, path_neighbors, 257, replicate 300 0, refused 3)
    ∷ (path_offsets, path_neighbors, 2, 0 ∷ 0 ∷ 2 ∷ [], refused 12)
    ∷ (path_offsets, path_neighbors, 2, 0 ∷ 0 ∷ 0 ∷ [], refused 9)
    ∷ (path_offsets, path_neighbors, 2, 0 ∷ 0 ∷ 1 ∷ [], refused 18)
    ∷ (path_offsets, path_neighbors, 2, 0 ∷ 0 ∷ 1 ∷ 1 ∷ 1 ∷ [], refused 18)
    ∷ []

-- the number 0, and four sums
abbrev totals : ℕ → ℕ → ℕ → ℕ → ℕ × Option Totals
totals vertices ranks cuts site = (0, Some (record { vertices = vertices; ranks = ranks; cut_links = cuts; site = site }))

-- sizes, offsets, neighbors, owners, and the answer
unfoldable pub balances : List (List ℕ × List ℕ × List ℕ × List ℕ × (ℕ × Option Totals))
balances =
    -- one site; what is left over in a slice is not read
    (4 ∷ 6 ∷ 2 ∷ 4 ∷ [], path_offsets, path_neighbors, 0 ∷ 0 ∷ 1 ∷ 1 ∷ [], totals 4 2 1 0)
    ∷ (4 ∷ 6 ∷ 2 ∷ 4 ∷ [], path_offsets ++ (9 ∷ []), path_neighbors ++ (9 ∷ []), 0 ∷ 1 ∷ 0 ∷ 1 ∷ 9 ∷ [], totals 4 2 3 0)
    -- "add turbines, crews and cut links", and the site with the larger share: 3 × 2 / 4 above 2 × 2 / 4
    ∷ (4 ∷ 6 ∷ 2 ∷ 4 ∷ 4 ∷ 6 ∷ 2 ∷ 4 ∷ [], path_offsets ++ path_offsets, path_neighbors ++ path_neighbors, 0 ∷ 0 ∷ 1 ∷ 1 ∷ 0 ∷ 1 ∷ 1 ∷ 1 ∷ [], totals 8 4 2 1)
    ∷ (4 ∷ 6 ∷ 2 ∷ 4 ∷ 4 ∷ 6 ∷ 2 ∷ 4 ∷ [], path_offsets ++ path_offsets, path_neighbors ++ path_neighbors, 0 ∷ 1 ∷ 1 ∷ 1 ∷ 0 ∷ 0 ∷ 1 ∷ 1 ∷ [], totals 8 4 2 0)
    -- "the earlier site on a tie": 3 × 2 / 4 and 6 × 2 / 8, and the other way round
    ∷ (4 ∷ 0 ∷ 2 ∷ 4 ∷ 8 ∷ 0 ∷ 2 ∷ 8 ∷ [], lone 4 ++ lone 8, [], 0 ∷ 0 ∷ 0 ∷ 1 ∷ 0 ∷ 0 ∷ 0 ∷ 0 ∷ 0 ∷ 0 ∷ 1 ∷ 1 ∷ [], totals 12 4 0 0)
    ∷ (8 ∷ 0 ∷ 2 ∷ 8 ∷ 4 ∷ 0 ∷ 2 ∷ 4 ∷ [], lone 8 ++ lone 4, [], 0 ∷ 0 ∷ 0 ∷ 0 ∷ 0 ∷ 0 ∷ 1 ∷ 1 ∷ 0 ∷ 0 ∷ 0 ∷ 1 ∷ [], totals 12 4 0 0)
    -- "1 to 16 sites", here of one vertex each
    ∷ (concat_map (λ i. 1 ∷ 0 ∷ 1 ∷ 1 ∷ []) (range 0 16), replicate 32 0, [], replicate 16 0, totals 16 16 0 0)
    ∷ (concat_map (λ i. 1 ∷ 0 ∷ 1 ∷ 1 ∷ []) (range 0 17), replicate 34 0, [], replicate 17 0, refused 22)
    ∷ ([], [], [], [], refused 22)
    ∷ (4 ∷ 6 ∷ 2 ∷ 4 ∷ 4 ∷ [], path_offsets, path_neighbors, 0 ∷ 0 ∷ 1 ∷ 1 ∷ [], refused 22)
    ∷ (4 ∷ 6 ∷ 2 ∷ [], path_offsets, path_neighbors, 0 ∷ 0 ∷ 1 ∷ 1 ∷ [], refused 22)
    -- 5: "a lent slice ends before the site does"
    ∷ (5 ∷ 6 ∷ 2 ∷ 4 ∷ [], path_offsets, path_neighbors, 0 ∷ 0 ∷ 1 ∷ 1 ∷ [], refused 5)
    ∷ (4 ∷ 7 ∷ 2 ∷ 4 ∷ [], path_offsets, path_neighbors, 0 ∷ 0 ∷ 1 ∷ 1 ∷ [], refused 5)
    ∷ (4 ∷ 6 ∷ 2 ∷ 5 ∷ [], path_offsets, path_neighbors, 0 ∷ 0 ∷ 1 ∷ 1 ∷ [], refused 5)
    ∷ (4294967295 ∷ 4294967295 ∷ 4294967295 ∷ 4294967295 ∷ 4294967295 ∷ 6 ∷ 2 ∷ 4 ∷ [], path_offsets, path_neighbors, 0 ∷ 0 ∷ 1 ∷ 1 ∷ [], refused 5)
    -- "site by site": a later site's 5 does not come before an earlier one's 18
    ∷ (4 ∷ 6 ∷ 2 ∷ 3 ∷ 9 ∷ 9 ∷ 9 ∷ 9 ∷ [], path_offsets, path_neighbors, 0 ∷ 0 ∷ 1 ∷ [], refused 18)
    ∷ (4 ∷ 6 ∷ 2 ∷ 4 ∷ 4 ∷ 6 ∷ 2 ∷ 4 ∷ [], path_offsets ++ path_offsets, path_neighbors, 0 ∷ 0 ∷ 1 ∷ 1 ∷ [], refused 5)
    -- a site's offsets are from 0, as if it were alone
    ∷ (4 ∷ 6 ∷ 2 ∷ 4 ∷ 1 ∷ 0 ∷ 1 ∷ 1 ∷ [], path_offsets ++ (6 ∷ 6 ∷ []), path_neighbors, 0 ∷ 0 ∷ 1 ∷ 1 ∷ 0 ∷ [], refused 4)
    ∷ []
