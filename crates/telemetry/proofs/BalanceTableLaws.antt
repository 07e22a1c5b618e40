-- The sites by hand come out as the request says: by computation. Assumes nothing.
use Rattle.std.proofs.Common.{◌≡◌, map, refl}
use lib.Ieee.{div, of_int, of_bits, round, of_fields, units, odd, size, climb, span}
use Rattle.links.specs.Graph.{neighbors_cause, neighbors_of, rows_of, bad_offsets, good_row, bad_lists, lists_cause, site_cause, owned, links, links_cut}
use Rattle.links.specs.Owners.{bad_ranks, too_many, stray_owner, empty_rank, from_owners}
use Rattle.telemetry.specs.Telemetry.{ratio, local_entries, most_owned, most_entries, telemetry_cause, telemetry_of, telemetry_for}
use Rattle.telemetry.specs.Sites.{sites_from, bad_sizes, offsets_to, neighbors_to, owners_to, ends_early, cause_at, sites_cause, cut_at, share_at, higher_share, named_site, totals_of, balance_of}
use Rattle.telemetry.specs.Balances.{telemetries, balances}
use Rattle.std.specs.Prelude.{ℕ, Option}
use Rattle.telemetry.specs.declared.site.PartitionTelemetry.{PartitionTelemetry}
use Rattle.telemetry.specs.declared.sites.Totals.{Totals}

pub telemetries-by-hand : map {B = ℕ × Option PartitionTelemetry} (λ t. (telemetry_cause t.0 t.1 t.2 t.3, telemetry_for t.0 t.1 t.2 t.3)) telemetries
    ≡ map {B = ℕ × Option PartitionTelemetry} (λ t. t.4) telemetries
unfolding telemetries div of_int of_bits round of_fields units odd size climb span neighbors_cause neighbors_of rows_of bad_offsets good_row bad_lists lists_cause site_cause owned bad_ranks too_many stray_owner empty_rank from_owners ratio local_entries most_owned most_entries telemetry_cause telemetry_of telemetry_for
telemetries-by-hand = refl

pub balances-by-hand : map {B = ℕ × Option Totals} (λ b. (sites_cause (sites_from b.0 b.1 b.2 b.3), balance_of (sites_from b.0 b.1 b.2 b.3))) balances
    ≡ map {B = ℕ × Option Totals} (λ b. b.4) balances
unfolding balances neighbors_cause neighbors_of rows_of bad_offsets good_row bad_lists lists_cause site_cause owned links links_cut bad_ranks too_many stray_owner empty_rank from_owners most_owned telemetry_cause bad_sizes offsets_to neighbors_to owners_to ends_early cause_at sites_cause cut_at share_at higher_share named_site totals_of balance_of
balances-by-hand = refl
