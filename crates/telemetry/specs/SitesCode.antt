-- What the inner functions of the sites take and leave. Assumes nothing.
use Rattle.std.specs.Prelude.{◌≡◌, ℕ, zero, suc, ◌+◌, ◌*◌, ◌/◌, ◌<◌, ◌≤◌, cond, List, length, nat_lt}
use Rattle.links.specs.Graph.{vertex_count, rows_of, links_cut}
use Rattle.telemetry.specs.Telemetry.{most_owned}
use Rattle.telemetry.specs.Sites.{Sites, sites_from, site_count, stated_ranks, offsets_to, neighbors_to, owners_to, site_offsets, site_neighbors, site_owners, cause_at}
use Rattle.telemetry.specs.declared.sites.LentSites.{LentSites}
use Rattle.telemetry.specs.declared.sites.Place.{Place}
use Rattle.telemetry.specs.declared.sites.SiteCounts.{SiteCounts}
use Rattle.telemetry.specs.declared.sites.Sum.{Sum}

-- what the lent slices hold
abbrev pub lent : LentSites → Sites
lent l = sites_from l.sizes.now l.offsets.now l.neighbors.now l.owners.now

-- where site i begins in each slice
unfoldable pub place_of : List ℕ → ℕ → Place
place_of sizes i = record { offsets = offsets_to sizes i; neighbors = neighbors_to sizes i; owners = owners_to sizes i }

-- one of the sites, of which there are few
pub record IsSite (sizes : List ℕ) (i : ℕ) : Type 0 where
  pub site : i < length sizes / 4
  pub few : length sizes / 4 ≤ 16

-- what a site counts
unfoldable pub counts_of : List ℕ → List ℕ → ℕ → List ℕ → SiteCounts
counts_of offsets neighbors k owners =
    record { vertices = vertex_count offsets; ranks = k; cut_links = links_cut (rows_of offsets neighbors) owners; most = most_owned owners k }

unfoldable pub counts_at : Sites → ℕ → SiteCounts
counts_at s i = counts_of (site_offsets s i) (site_neighbors s i) (stated_ranks s.sizes i) (site_owners s i)

-- no site's share, of one vertex: any site's is larger
abbrev pub sum_start : Sum
sum_start = record { vertices = 0; ranks = 0; cut_links = 0; site = 0; share = 0; size = 1 }

-- site i counted with those before it; its share is kept if it is larger
unfoldable pub with_site : Sum → ℕ → SiteCounts → Sum
with_site u i c =
    let larger = nat_lt (u.share * c.vertices) (c.most * c.ranks * u.size) in
    record {
      vertices = u.vertices + c.vertices;
      ranks = u.ranks + c.ranks;
      cut_links = u.cut_links + c.cut_links;
      site = cond larger i u.site;
      share = cond larger (c.most * c.ranks) u.share;
      size = cond larger c.vertices u.size;
    }

-- the first i sites counted
unfoldable pub sum_to : Sites → ℕ → Sum
sum_to s zero = sum_start
sum_to s (suc i) = with_site (sum_to s i) i (counts_at s i)

-- numbers of which no sum and no product wraps
pub record SmallSum (u : Sum) (i : ℕ) : Type 0 where
  pub vertices : u.vertices ≤ 16384 * i
  pub ranks : u.ranks ≤ 256 * i
  pub cuts : u.cut_links ≤ 131072 * 16384 * i
  pub share : u.share ≤ 4194304
  pub size : u.size ≤ 16384

pub record SmallCounts (c : SiteCounts) : Type 0 where
  pub vertices : c.vertices ≤ 16384
  pub ranks : c.ranks ≤ 256
  pub cuts : c.cut_links ≤ 131072 * 16384
  pub most : c.most ≤ 16384

-- there are some sites, few, and none is refused
pub record AllPass (s : Sites) : Type 0 where
  pub some : 1 ≤ site_count s
  pub few : site_count s ≤ 16
  pub pass : (i : ℕ) → i < site_count s → cause_at s i ≡ 0
