-- Request P13, several sites: their sums, and the one with the largest share. Assumes nothing.
use Rattle.std.specs.Prelude.{◌≡◌, ℕ, ◌+◌, ◌*◌, ◌/◌, ◌%◌, ◌<◌, ◌≤◌, Bool, cond, not, ◌||◌, List, [], ◌∷◌, map, length, ◌==◌, nat_lt, Option, Some, None, Result}
use Rattle.std.specs.Result.{result_ok}
use Rattle.links.specs.Lists.{at, range, sum, best, option}
use Rattle.links.specs.Parts.{part}
use Rattle.links.specs.Graph.{rows_of, links_cut}
use Rattle.links.specs.Refusals.{number_of}
use Rattle.links.specs.declared.refusal.Refusal.{Refusal}
use Rattle.telemetry.specs.Telemetry.{most_owned, telemetry_cause}
use Rattle.telemetry.specs.declared.sites.Totals.{Totals}

-- "sites lie one after another in lent offsets, neighbours and owners; a slice of sizes holds n, m, k and the owner list's length for each"
pub record Sites : Type 0 where
  pub sizes : List ℕ
  pub offsets : List ℕ
  pub neighbors : List ℕ
  pub owners : List ℕ

abbrev pub sites_from : List ℕ → List ℕ → List ℕ → List ℕ → Sites
sites_from sizes offsets neighbors owners = record { sizes = sizes; offsets = offsets; neighbors = neighbors; owners = owners }

abbrev pub site_count : Sites → ℕ
site_count s = length s.sizes / 4

-- 22: "0 or more than 16 sites, or a slice of sizes whose length is no multiple of four"
unfoldable pub bad_sizes : List ℕ → Bool
bad_sizes sizes = not (length sizes % 4 == 0) || length sizes / 4 == 0 || nat_lt 16 (length sizes / 4)

-- ---- site i

-- its n, m, k and the length of its owner list
abbrev pub stated_vertices : List ℕ → ℕ → ℕ
stated_vertices sizes i = at sizes (4 * i)

abbrev pub stated_entries : List ℕ → ℕ → ℕ
stated_entries sizes i = at sizes (4 * i + 1)

abbrev pub stated_ranks : List ℕ → ℕ → ℕ
stated_ranks sizes i = at sizes (4 * i + 2)

abbrev pub stated_owners : List ℕ → ℕ → ℕ
stated_owners sizes i = at sizes (4 * i + 3)

-- where it begins in each slice; it ends where site i + 1 begins
unfoldable pub offsets_to : List ℕ → ℕ → ℕ
offsets_to sizes i = sum (map (λ j. stated_vertices sizes j + 1) (range 0 i))

unfoldable pub neighbors_to : List ℕ → ℕ → ℕ
neighbors_to sizes i = sum (map (stated_entries sizes) (range 0 i))

unfoldable pub owners_to : List ℕ → ℕ → ℕ
owners_to sizes i = sum (map (stated_owners sizes) (range 0 i))

abbrev pub site_offsets : Sites → ℕ → List ℕ
site_offsets s i = part s.offsets (offsets_to s.sizes i) (offsets_to s.sizes (i + 1))

abbrev pub site_neighbors : Sites → ℕ → List ℕ
site_neighbors s i = part s.neighbors (neighbors_to s.sizes i) (neighbors_to s.sizes (i + 1))

abbrev pub site_owners : Sites → ℕ → List ℕ
site_owners s i = part s.owners (owners_to s.sizes i) (owners_to s.sizes (i + 1))

-- ---- refusals

-- 5: "a lent slice ends before the site does"
unfoldable pub ends_early : Sites → ℕ → Bool
ends_early s i =
    nat_lt (length s.offsets) (offsets_to s.sizes (i + 1))
    || nat_lt (length s.neighbors) (neighbors_to s.sizes (i + 1))
    || nat_lt (length s.owners) (owners_to s.sizes (i + 1))

-- "site by site come 5 .. and those tests"
unfoldable pub cause_at : Sites → ℕ → ℕ
cause_at s i =
    let tests = telemetry_cause (site_offsets s i) (site_neighbors s i) (stated_ranks s.sizes i) (site_owners s i) in
    cond (ends_early s i) 5 tests

-- "the first refusal is the answer"
abbrev pub first_cause : List ℕ → ℕ
first_cause [] = 0
first_cause (c ∷ cs) = let r = first_cause cs in cond (c == 0) r c

-- 22 comes "before any site is read"
unfoldable pub sites_cause : Sites → ℕ
sites_cause s =
    let sites = first_cause (map (cause_at s) (range 0 (site_count s))) in
    cond (bad_sizes s.sizes) 22 sites

-- ---- "add turbines, crews and cut links"

unfoldable pub cut_at : Sites → ℕ → ℕ
cut_at s i = links_cut (rows_of (site_offsets s i) (site_neighbors s i)) (site_owners s i)

abbrev pub over_sites : Sites → (ℕ → ℕ) → ℕ
over_sites s f = sum (map f (range 0 (site_count s)))

-- ---- "name the site, from 0, with the largest max owned × k / n, compared by whole products, the earlier site on a tie"

unfoldable pub share_at : Sites → ℕ → ℕ
share_at s i = most_owned (site_owners s i) (stated_ranks s.sizes i) * stated_ranks s.sizes i

-- site i above site j
unfoldable pub higher_share : Sites → ℕ → ℕ → Bool
higher_share s i j = nat_lt (share_at s j * stated_vertices s.sizes i) (share_at s i * stated_vertices s.sizes j)

unfoldable pub named_site : Sites → ℕ
named_site s = option (best (higher_share s) (range 0 (site_count s))) 0 (λ i. i)

unfoldable pub totals_of : Sites → Totals
totals_of s =
    record {
      vertices = over_sites s (stated_vertices s.sizes);
      ranks = over_sites s (stated_ranks s.sizes);
      cut_links = over_sites s (cut_at s);
      site = named_site s;
    }

-- ---- the answer: its number and its four numbers; "a refusal added later returns zeros with its number and leaves everything lent as it was": the
-- slices are only read

abbrev pub balance_totals : Option Totals → List ℕ
balance_totals (Some t) = t.vertices ∷ t.ranks ∷ t.cut_links ∷ t.site ∷ []
balance_totals None = 0 ∷ 0 ∷ 0 ∷ 0 ∷ []

-- the sums, and none of a refusal
unfoldable pub balance_of : Sites → Option Totals
balance_of s = cond (sites_cause s == 0) (Some (totals_of s)) None

-- site w has the largest share, and each before it a smaller one: the fractions share / n, as whole products
pub record Largest (s : Sites) (w : ℕ) : Type 0 where
  pub is-site : w < site_count s
  pub largest : (j : ℕ) → j < site_count s → share_at s j * stated_vertices s.sizes w ≤ share_at s w * stated_vertices s.sizes j
  pub earlier : (j : ℕ) → j < w → share_at s j * stated_vertices s.sizes w < share_at s w * stated_vertices s.sizes j

-- the promise: the case and its sums are the defined ones, and so is the number; and what it means that a site is named
pub record SitesTold (s : Sites) (r : Result Totals Refusal) : Type 0 where
  pub answer : result_ok r ≡ balance_of s
  pub number : number_of r ≡ sites_cause s
  pub named : number_of r ≡ 0 → Largest s (named_site s)
