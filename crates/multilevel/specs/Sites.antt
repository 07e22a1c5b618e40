-- The sites by hand of 01, some for requests of 02, the causes that come before the work, and link files good and bad, as three tables of claims.
-- proofs/SiteLaws.antt proves each table by computation. Assumes nothing.
use Rattle.std.specs.Prelude.{ℕ, ◌+◌, ◌-◌, ◌*◌, ◌/◌, ◌&&◌, ◌||◌, List, [], ◌∷◌, ◌++◌, map, length, take, replicate, eqb}
use Rattle.links.specs.Lists.{filter, any, foldl, range, sum, concat_map}
use Rattle.links.specs.Loads.{balance, saturating}
use Rattle.links.specs.Options.{default_list_length, default_pass_factor}
use Rattle.links.specs.declared.options.AbtmMultilevelStats.{AbtmMultilevelStats}
use Rattle.stages.specs.Moves.{Step, after}
use Rattle.stages.specs.Swaps.{refine_fine_pair_swaps}
use Rattle.multilevel.specs.Causes.{Call, work_need}
use Rattle.multilevel.specs.Division.{Outcome, refused, divided, division}

-- n vertices and their links
pub record Site : Type 0 where
  pub n : ℕ
  pub links : List (ℕ × ℕ)

-- its rows, and offsets into them put one after the other
abbrev pub rows_in : Site → List (List ℕ)
rows_in s =
    map
    (λ v. filter (λ u. any (λ l. (eqb l.0 v && eqb l.1 u) || (eqb l.0 u && eqb l.1 v)) s.links) (range 0 s.n))
    (range 0 s.n)

abbrev pub offsets_from : ℕ → List (List ℕ) → List ℕ
offsets_from a [] = a ∷ []
offsets_from a (r ∷ rs) = a ∷ offsets_from (a + length r) rs

-- ---- calls

-- lists, k, options (L, per crew, t, passes), and the lengths of the lent owner and work slices
abbrev pub weighted : List ℕ → List ℕ → List ℕ → ℕ → ℕ × ℕ × ℕ × ℕ → ℕ → ℕ → Call
weighted offsets neighbors workloads k o owners work =
    record {
      offsets = offsets;
      neighbors = neighbors;
      workloads = workloads;
      ranks = k;
      options =
          record {
            max_levels = o.0;
            coarse_vertices_per_rank = o.1;
            imbalance_per_mille = o.2;
            refinement_passes = o.3;
            swap_list_length = default_list_length;
            swap_pass_factor = default_pass_factor;
          };
      owners_length = owners;
      work_length = work;
    }

-- all workloads 1
abbrev pub ones : ℕ → List ℕ
ones n = replicate n 1

abbrev pub lent : List ℕ → List ℕ → ℕ → ℕ × ℕ × ℕ × ℕ → ℕ → ℕ → Call
lent offsets neighbors k o owners work = weighted offsets neighbors (ones (length offsets - 1)) k o owners work

-- a site's lists, with slices just long enough
abbrev pub site : Site → ℕ → ℕ × ℕ × ℕ × ℕ → Call
site s k o =
    let neighbors = concat_map (λ r. r) (rows_in s) in
    lent (offsets_from 0 (rows_in s)) neighbors k o s.n (work_need s.n (length neighbors) k o.0)

-- and with workloads
abbrev pub laden : Site → List ℕ → ℕ → ℕ × ℕ × ℕ × ℕ → Call
laden s workloads k o =
    let neighbors = concat_map (λ r. r) (rows_in s) in
    weighted (offsets_from 0 (rows_in s)) neighbors workloads k o s.n (work_need s.n (length neighbors) k o.0)

-- a call with another list length and pass factor
abbrev pub tuned : ℕ → ℕ → Call → Call
tuned list_length factor c =
    record {
      offsets = c.offsets;
      neighbors = c.neighbors;
      workloads = c.workloads;
      ranks = c.ranks;
      options =
          record {
            max_levels = c.options.max_levels;
            coarse_vertices_per_rank = c.options.coarse_vertices_per_rank;
            imbalance_per_mille = c.options.imbalance_per_mille;
            refinement_passes = c.options.refinement_passes;
            swap_list_length = list_length;
            swap_pass_factor = factor;
          };
      owners_length = c.owners_length;
      work_length = c.work_length;
    }

-- ---- claims

-- what is asked and what comes out
pub data Claim : Type 0 where
  -- a division ends so
  ends : Call → Outcome → Claim
  -- rule 7 alone, on a site with k ranks, tolerance t, passes and owners: so many swaps, and the owners that they leave
  swaps : Site → ℕ → ℕ → ℕ → List ℕ → ℕ → List ℕ → Claim

-- the swaps that rule 7 makes there
unfoldable pub swaps_on : Site → ℕ → ℕ → ℕ → List ℕ → List Step
swaps_on s k t passes owners =
    let weights = ones (length (rows_in s)) in
    (refine_fine_pair_swaps (balance (sum weights) k t) (rows_in s) weights default_list_length (saturating (default_pass_factor * passes)) owners).steps

-- what comes out, and what the claim says
pub data Answer : Type 0 where
  outcome : Outcome → Answer
  swapped : ℕ → List ℕ → Answer

abbrev pub found : Claim → Answer
found (ends c o) = outcome (division c).outcome
found (swaps s k t passes before number owners) =
    let made = swaps_on s k t passes before in
    swapped (length made) (foldl after before made)

abbrev pub stated : Claim → Answer
stated (ends c o) = outcome o
stated (swaps s k t passes before number owners) = swapped number owners

-- levels, coarsest, pairs, singletons, restarts, moves, cut, volume
abbrev pub stats : ℕ → ℕ → ℕ → ℕ → ℕ → ℕ → ℕ → ℕ → AbtmMultilevelStats
stats levels coarsest pairs singletons restarts moves cut volume =
    record {
      levels_built = levels;
      coarsest_vertices = coarsest;
      matched_pairs = pairs;
      singleton_aggregates = singletons;
      coarse_restarts = restarts;
      refinement_moves = moves;
      final_cut_nnz = cut;
      final_communication_volume = volume;
    }

-- ---- sites by hand

-- "P4 is the path 0-1-2-3, S4 the star of hub 0 and leaves 1, 2, 3"
abbrev pub P4 : Site
P4 = record { n = 4; links = (0, 1) ∷ (1, 2) ∷ (2, 3) ∷ [] }

abbrev pub S4 : Site
S4 = record { n = 4; links = (0, 1) ∷ (0, 2) ∷ (0, 3) ∷ [] }

-- the paths of five and of three
abbrev pub P5 : Site
P5 = record { n = 5; links = (0, 1) ∷ (1, 2) ∷ (2, 3) ∷ (3, 4) ∷ [] }

abbrev pub P3 : Site
P3 = record { n = 3; links = (0, 1) ∷ (1, 2) ∷ [] }

-- "links 0-1, 2-3, 4-5"
abbrev pub three_pairs : Site
three_pairs = record { n = 6; links = (0, 1) ∷ (2, 3) ∷ (4, 5) ∷ [] }

-- "four turbines, no links"
abbrev pub alone : Site
alone = record { n = 4; links = [] }

-- "links 0-2, 1-3"
abbrev pub crossed : Site
crossed = record { n = 4; links = (0, 2) ∷ (1, 3) ∷ [] }

-- a swap that a load before it forbids, and one that a load after it forbids
abbrev pub kite : Site
kite = record { n = 5; links = (0, 1) ∷ (0, 3) ∷ (1, 2) ∷ (2, 3) ∷ (2, 4) ∷ [] }

abbrev pub high_star : Site
high_star = record { n = 4; links = (0, 3) ∷ (1, 3) ∷ (2, 3) ∷ [] }

-- two crews "offer a move the same gain", and the one with "the smaller load now" is not the lower
abbrev pub eight : Site
eight =
    record {
      n = 8;
      links =
          (0, 1) ∷ (0, 2) ∷ (0, 5) ∷ (0, 6) ∷ (0, 7) ∷ (1, 3) ∷ (1, 4) ∷ (1, 5) ∷ (1, 7) ∷ (2, 3) ∷ (2, 4) ∷ (2, 5) ∷ (2, 7) ∷ (3, 5) ∷ (3, 6) ∷ (4, 6) ∷ (4, 7)
          ∷ (5, 7) ∷ [];
    }

-- the path 2-0-1-3, of which a list of 1 pairs only linked ends, and one of 2 pairs others
abbrev pub turned : Site
turned = record { n = 4; links = (0, 1) ∷ (0, 2) ∷ (1, 3) ∷ [] }

-- the path of five with a sixth at its middle, where the second pass of swaps has one to make
abbrev pub leafed : Site
leafed = record { n = 6; links = (0, 1) ∷ (1, 2) ∷ (2, 3) ∷ (2, 5) ∷ (3, 4) ∷ [] }

-- every case of the list, starred or not; then those of 02
unfoldable pub sites_by_hand : List Claim
sites_by_hand =
    ends (site P4 2 (12, 64, 30, 2)) (divided (0 ∷ 0 ∷ 1 ∷ 1 ∷ []) (stats 0 4 0 0 0 0 2 2))
    ∷ ends (site P4 2 (12, 1, 30, 2)) (divided (0 ∷ 0 ∷ 1 ∷ 1 ∷ []) (stats 1 2 2 0 0 0 2 2))
    ∷ ends (site P5 2 (12, 64, 199, 2)) (refused 8)
    ∷ ends (site P5 2 (12, 64, 200, 2)) (divided (0 ∷ 0 ∷ 0 ∷ 1 ∷ 1 ∷ []) (stats 0 5 0 0 0 0 2 2))
    ∷ ends (site P4 3 (12, 64, 500, 2)) (refused 9)
    ∷ ends (site P4 3 (12, 64, 499, 2)) (refused 8)
    ∷ ends (site S4 2 (1, 1, 30, 2)) (divided (0 ∷ 0 ∷ 1 ∷ 1 ∷ []) (stats 1 3 1 2 1 0 4 3))
    ∷ ends (site S4 2 (12, 1, 499, 2)) (refused 6)
    ∷ ends (site S4 2 (12, 1, 500, 2)) (divided (0 ∷ 0 ∷ 0 ∷ 1 ∷ []) (stats 2 2 2 3 0 0 2 2))
    ∷ ends (site three_pairs 4 (12, 1, 333, 2)) (refused 6)
    ∷ ends (site three_pairs 4 (12, 1, 334, 2)) (refused 7)
    ∷ ends (site alone 2 (12, 1, 30, 2)) (divided (0 ∷ 1 ∷ 0 ∷ 1 ∷ []) (stats 0 4 0 0 2 0 0 0))
    ∷ swaps crossed 2 30 2 (0 ∷ 0 ∷ 1 ∷ 1 ∷ []) 1 (1 ∷ 0 ∷ 1 ∷ 0 ∷ [])
    ∷ ends (laden kite (1064 ∷ 8401 ∷ 2172 ∷ 6255 ∷ 4692 ∷ []) 3 (2, 2, 200, 2)) (divided (1 ∷ 2 ∷ 0 ∷ 0 ∷ 1 ∷ []) (stats 0 5 0 0 1 0 8 8))
    ∷ ends (laden high_star (5 ∷ 4 ∷ 3 ∷ 6 ∷ []) 3 (3, 2, 366, 3)) (divided (1 ∷ 2 ∷ 1 ∷ 0 ∷ []) (stats 0 4 0 0 1 0 6 5))
    ∷ ends (site eight 3 (1, 2, 500, 3)) (divided (1 ∷ 1 ∷ 2 ∷ 2 ∷ 1 ∷ 2 ∷ 0 ∷ 1 ∷ []) (stats 1 4 4 0 0 3 20 12))
    ∷ ends (tuned 1 4 (site turned 2 (12, 64, 30, 2))) (divided (0 ∷ 0 ∷ 1 ∷ 1 ∷ []) (stats 0 4 0 0 1 0 4 4))
    ∷ ends (tuned 2 4 (site turned 2 (12, 64, 30, 2))) (divided (1 ∷ 0 ∷ 1 ∷ 0 ∷ []) (stats 0 4 0 0 1 1 2 2))
    ∷ ends (tuned 8 1 (site leafed 3 (12, 64, 30, 1))) (divided (1 ∷ 1 ∷ 0 ∷ 0 ∷ 2 ∷ 2 ∷ []) (stats 0 6 0 0 2 1 6 6))
    ∷ ends (tuned 8 2 (site leafed 3 (12, 64, 30, 1))) (divided (1 ∷ 1 ∷ 2 ∷ 0 ∷ 0 ∷ 2 ∷ []) (stats 0 6 0 0 2 2 4 4))
    -- stuck although k × cap is all that there is: where a step is kept, and with workloads
    ∷ ends (site three_pairs 2 (12, 1, 30, 2)) (refused 8)
    ∷ ends (laden P3 (1 ∷ 1 ∷ 2 ∷ []) 2 (12, 64, 30, 2)) (refused 8)
    ∷ []

-- ---- causes 1 to 5, 13 and 17, each on a call for which later causes hold too

-- a link between two vertices; with L = 1 and k = 2 it needs 2 owners and 194 work numbers
abbrev pub pair_offsets : List ℕ
pair_offsets = 0 ∷ 1 ∷ 2 ∷ []

abbrev pub pair : List ℕ
pair = 1 ∷ 0 ∷ []

-- by cause, in table order
unfoldable pub early : List Claim
early =
    -- L, per crew or passes 0, t above 500
    ends (lent pair_offsets pair 0 (0, 1, 30, 2) 2 194) (refused 1)
    ∷ ends (lent pair_offsets pair 0 (1, 0, 30, 2) 2 194) (refused 1)
    ∷ ends (lent pair_offsets pair 0 (1, 1, 30, 0) 2 194) (refused 1)
    ∷ ends (lent pair_offsets pair 0 (1, 1, 501, 2) 2 194) (refused 1)
    -- a list length or a factor out of its range, after 1; the ends of both ranges are taken
    ∷ ends (tuned 13 9 (lent pair_offsets pair 0 (1, 1, 501, 2) 2 194)) (refused 1)
    ∷ ends (tuned 0 4 (lent pair_offsets pair 0 (33, 1, 30, 2) 2 194)) (refused 17)
    ∷ ends (tuned 13 4 (lent pair_offsets pair 0 (33, 1, 30, 2) 2 194)) (refused 17)
    ∷ ends (tuned 8 0 (lent pair_offsets pair 0 (33, 1, 30, 2) 2 194)) (refused 17)
    ∷ ends (tuned 8 9 (lent pair_offsets pair 0 (33, 1, 30, 2) 2 194)) (refused 17)
    ∷ ends (tuned 1 1 (lent pair_offsets pair 2 (1, 1, 30, 2) 2 194)) (divided (0 ∷ 1 ∷ []) (stats 0 2 0 0 0 0 2 2))
    ∷ ends (tuned 12 8 (lent pair_offsets pair 2 (1, 1, 30, 2) 2 194)) (divided (0 ∷ 1 ∷ []) (stats 0 2 0 0 0 0 2 2))
    -- n = 0, k = 0, k > n
    ∷ ends (lent [] pair 1 (33, 1, 30, 2) 2 194) (refused 2)
    ∷ ends (lent pair_offsets pair 0 (33, 1, 30, 2) 2 194) (refused 2)
    ∷ ends (lent pair_offsets pair 3 (33, 1, 30, 2) 2 194) (refused 2)
    -- L above 32
    ∷ ends (lent pair_offsets (0 ∷ 1 ∷ []) 2 (33, 1, 30, 2) 2 194) (refused 3)
    -- offsets not from 0, falling, last ≠ m
    ∷ ends (lent (1 ∷ 1 ∷ 2 ∷ []) pair 2 (1, 1, 30, 2) 0 0) (refused 4)
    ∷ ends (lent (0 ∷ 2 ∷ 1 ∷ []) pair 2 (1, 1, 30, 2) 0 0) (refused 4)
    ∷ ends (lent pair_offsets (1 ∷ 0 ∷ 0 ∷ []) 2 (1, 1, 30, 2) 0 0) (refused 4)
    -- a list unsorted, repeated, self, ≥ n, not symmetric
    ∷ ends (lent (0 ∷ 2 ∷ 3 ∷ 4 ∷ []) (2 ∷ 1 ∷ 0 ∷ 0 ∷ []) 2 (1, 1, 30, 2) 0 0) (refused 4)
    ∷ ends (lent (0 ∷ 2 ∷ 4 ∷ []) (1 ∷ 1 ∷ 0 ∷ 0 ∷ []) 2 (1, 1, 30, 2) 0 0) (refused 4)
    ∷ ends (lent pair_offsets (0 ∷ 1 ∷ []) 2 (1, 1, 30, 2) 0 0) (refused 4)
    ∷ ends (lent pair_offsets (1 ∷ 2 ∷ []) 2 (1, 1, 30, 2) 0 0) (refused 4)
    ∷ ends (lent (0 ∷ 1 ∷ 1 ∷ []) (1 ∷ []) 2 (1, 1, 30, 2) 0 0) (refused 4)
    -- a workload of 0, one of 10,001, too few, too many; 10,000 is taken
    ∷ ends (weighted pair_offsets pair (0 ∷ 1 ∷ []) 2 (1, 1, 30, 2) 0 0) (refused 13)
    ∷ ends (weighted pair_offsets pair (1 ∷ 10001 ∷ []) 2 (1, 1, 30, 2) 0 0) (refused 13)
    ∷ ends (weighted pair_offsets pair (1 ∷ []) 2 (1, 1, 30, 2) 0 0) (refused 13)
    ∷ ends (weighted pair_offsets pair (1 ∷ 1 ∷ 1 ∷ []) 2 (1, 1, 30, 2) 0 0) (refused 13)
    ∷ ends (weighted pair_offsets pair (10000 ∷ 10000 ∷ []) 2 (1, 1, 30, 2) 2 194) (divided (0 ∷ 1 ∷ []) (stats 0 2 0 0 0 0 2 2))
    -- owners too short, work too short; and both just long enough
    ∷ ends (lent pair_offsets pair 2 (1, 1, 30, 2) 1 194) (refused 5)
    ∷ ends (lent pair_offsets pair 2 (1, 1, 30, 2) 2 193) (refused 5)
    ∷ ends (lent pair_offsets pair 2 (1, 1, 30, 18446744073709551615) 2 194) (divided (0 ∷ 1 ∷ []) (stats 0 2 0 0 0 0 2 2))
    ∷ []

-- ---- link files, each with what the check answers

-- "u32 little-endian": the file of these numbers, all below 65,536
abbrev pub file_of : List ℕ → List ℕ
file_of numbers = concat_map (λ x. (x - 256 * (x / 256)) ∷ (x / 256) ∷ 0 ∷ 0 ∷ []) numbers

-- n, e, k and max_levels, and the other sizes of P4
abbrev pub headed : ℕ → ℕ → ℕ → ℕ → List ℕ → List ℕ
headed n e k levels rest = n ∷ e ∷ k ∷ levels ∷ 64 ∷ 30 ∷ 2 ∷ rest

-- "sizes 4 3 2 12 64 30 2, lows 0 1 2, highs 1 2 3"
abbrev pub path_file : List ℕ
path_file = headed 4 3 2 12 (0 ∷ 1 ∷ 2 ∷ 1 ∷ 2 ∷ 3 ∷ [])

-- four vertices and two links, by low and then high ends
abbrev pub two_links : ℕ → ℕ → ℕ → ℕ → List ℕ
two_links a b c d = headed 4 2 2 12 (a ∷ b ∷ c ∷ d ∷ [])

-- in the order of the tests; a file for which later ones hold too shows which comes first
unfoldable pub files : List (List ℕ × ℕ)
files =
    (file_of path_file, 0)
    -- under 28 bytes
    ∷ ([], 10)
    ∷ (take 27 (file_of (headed 65 0 9 13 [])), 10)
    -- a limit passed, and a wrong length
    ∷ (file_of (headed 65 1 8 12 []), 3)
    ∷ (file_of (headed 64 129 8 12 []), 3)
    ∷ (file_of (headed 64 1 9 12 []), 3)
    ∷ (file_of (headed 64 1 8 13 []), 3)
    -- a wrong length: no links, with every size at its limit too; a byte too few, one too many; a workload too few, one too many
    ∷ (file_of (headed 64 128 8 12 []), 10)
    ∷ (file_of (headed 4 3 2 12 []), 10)
    ∷ (take 51 (file_of path_file), 10)
    ∷ (file_of path_file ++ 0 ∷ [], 10)
    ∷ (file_of (path_file ++ 0 ∷ 1 ∷ 1 ∷ []), 10)
    ∷ (file_of (path_file ++ 0 ∷ 1 ∷ 1 ∷ 1 ∷ 1 ∷ []), 10)
    -- a wrong link, where a vertex is lone too: from itself, turned, to vertex n, falling by low end and by high end, twice
    ∷ (file_of (two_links 0 1 1 1), 10)
    ∷ (file_of (two_links 0 2 1 1), 10)
    ∷ (file_of (two_links 0 1 1 4), 10)
    ∷ (file_of (two_links 1 0 2 1), 10)
    ∷ (file_of (two_links 0 0 2 1), 10)
    ∷ (file_of (two_links 0 0 1 1), 10)
    ∷ (file_of (two_links 0 1 1 1 ++ 0 ∷ 1 ∷ 1 ∷ 1 ∷ []), 10)
    -- a workload of 0, one of 10,001, where a vertex is lone too; 1 and 10,000 are taken
    ∷ (file_of (two_links 0 1 1 2 ++ 1 ∷ 1 ∷ 1 ∷ 0 ∷ []), 13)
    ∷ (file_of (two_links 0 1 1 2 ++ 10001 ∷ 1 ∷ 1 ∷ 1 ∷ []), 13)
    ∷ (file_of (path_file ++ 1 ∷ 10000 ∷ 1 ∷ 10000 ∷ []), 0)
    -- a lone vertex: the last, the first, one between, each of two, "four turbines, no links"; with workloads
    ∷ (file_of (two_links 0 1 1 2), 14)
    ∷ (file_of (two_links 1 2 2 3), 14)
    ∷ (file_of (two_links 0 2 2 3), 14)
    ∷ (file_of (headed 2 0 2 12 []), 14)
    ∷ (file_of (headed 4 0 2 12 []), 14)
    ∷ (file_of (two_links 0 1 1 2 ++ 1 ∷ 1 ∷ 1 ∷ 1 ∷ []), 14)
    -- none: every vertex a low end or a high one, "one turbine only", no vertex at all
    ∷ (file_of (two_links 0 1 2 3), 0)
    ∷ (file_of (headed 1 0 1 12 []), 0)
    ∷ (file_of (headed 0 0 1 12 []), 0)
    ∷ []
