-- Request P13, one site: the two ratios of `partition_telemetry_assignment`. 02's crew is a rank here, its turbine a vertex. Assumes nothing.
use Rattle.std.specs.Prelude.{◌≡◌, ℕ, ◌<◌, cond, List, [], ◌∷◌, map, length, pos, ◌==◌, nat_eq, Float, Option, Some, None, Result}
use Rattle.std.specs.Result.{result_ok}
use Rattle.std.specs.Float.Ieee as Ieee
use Rattle.std.specs.Float.{binary64}
use Rattle.links.specs.Lists.{at, filter, range, sum, greatest}
use Rattle.links.specs.Graph.{vertices, degree, vertex_count, rows_of, site_cause, owned}
use Rattle.links.specs.Owners.{from_owners}
use Rattle.links.specs.Refusals.{number_of}
use Rattle.links.specs.declared.refusal.Refusal.{Refusal}
use Rattle.telemetry.specs.declared.site.PartitionTelemetry.{PartitionTelemetry}

-- ---- a ratio

-- a whole number as f64
abbrev pub float : ℕ → Float
float n = Ieee.of_int binary64 (pos n)

-- the most over the average, which is all over k: "each f64 division rounded one time under IEEE 754"
abbrev pub quotient : ℕ → ℕ → ℕ → Float
quotient most all k = Ieee.div binary64 (float most) (Ieee.div binary64 (float all) (float k))

-- "1.0 where the average is 0": where there is nothing to share
unfoldable pub ratio : ℕ → ℕ → ℕ → Float
ratio most all k = cond (all == 0) (float 1) (quotient most all k)

-- ---- a site and its owners

-- the entries of the rows that rank r owns, cut ones among them: the Rust's local_nnz
unfoldable pub local_entries : List (List ℕ) → List ℕ → ℕ → ℕ
local_entries rows owners r = sum (map (degree rows) (filter (λ v. nat_eq (at owners v) r) (vertices rows)))

-- "max owned"
unfoldable pub most_owned : List ℕ → ℕ → ℕ
most_owned owners k = greatest (map (owned owners) (range 0 k))

unfoldable pub most_entries : List (List ℕ) → List ℕ → ℕ → ℕ
most_entries rows owners k = greatest (map (local_entries rows owners) (range 0 k))

-- "3 (n, m), 4, `from_owners`, 18": the first of them, or 0; 18 is for "a list not n long"
unfoldable pub telemetry_cause : List ℕ → List ℕ → ℕ → List ℕ → ℕ
telemetry_cause offsets neighbors k owners =
    let other : ℕ = cond (length owners == vertex_count offsets) 0 18 in
    let own : ℕ = cond (from_owners k owners == 0) other (from_owners k owners) in
    cond (site_cause offsets neighbors == 0) own (site_cause offsets neighbors)

unfoldable pub telemetry_of : List ℕ → List ℕ → ℕ → List ℕ → PartitionTelemetry
telemetry_of offsets neighbors k owners =
    record {
      owned_dof_imbalance = ratio (most_owned owners k) (vertex_count offsets) k;
      local_nnz_imbalance = ratio (most_entries (rows_of offsets neighbors) owners k) (length neighbors) k;
    }

-- ---- the answer: its number and its two ratios; "a refusal added later returns zeros with its number and leaves everything lent as it was": the lists
-- are only read

abbrev pub ratios_of : Option PartitionTelemetry → List Float
ratios_of (Some t) = t.owned_dof_imbalance ∷ t.local_nnz_imbalance ∷ []
ratios_of None = Ieee.of_bits binary64 0 ∷ Ieee.of_bits binary64 0 ∷ []

-- the ratios, and none of a refusal
unfoldable pub telemetry_for : List ℕ → List ℕ → ℕ → List ℕ → Option PartitionTelemetry
telemetry_for offsets neighbors k owners =
    cond (telemetry_cause offsets neighbors k owners == 0) (Some (telemetry_of offsets neighbors k owners)) None

-- the promise: the case and its ratios are the defined ones, and so is the number; and what that comes to where all ranks own the same
pub record TelemetryTold (offsets neighbors : List ℕ) (k : ℕ) (owners : List ℕ) (r : Result PartitionTelemetry Refusal) : Type 0 where
  pub answer : result_ok r ≡ telemetry_for offsets neighbors k owners
  pub number : number_of r ≡ telemetry_cause offsets neighbors k owners
  -- "the owned ratio is exactly 1.0 where all crews own the same count"
  pub even : number_of r ≡ 0 → (c : ℕ) → ((q : ℕ) → q < k → owned owners q ≡ c) → (telemetry_of offsets neighbors k owners).owned_dof_imbalance ≡ float 1
