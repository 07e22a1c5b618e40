-- What a division is handed, and the causes that it tests before its work, each by name: 1 to 5 of 01's table, and 02's 13 and 17. Assumes nothing.
use Rattle.std.specs.Prelude.{ℕ, ◌+◌, ◌*◌, ◌≤◌, Bool, ◌||◌, cond, List, length, ltb, eqb}
use Rattle.links.specs.Graph.{vertex_count, bad_lists}
use Rattle.links.specs.Workloads.{bad_workloads}
use Rattle.links.specs.Options.{bad_options, bad_swaps}
use Rattle.links.specs.declared.options.AbtmMultilevelOptions.{AbtmMultilevelOptions}

-- the lists, each vertex's workload, the number of ranks, the options, and how long the lent owner and work slices are
pub record Call : Type 0 where
  pub offsets : List ℕ
  pub neighbors : List ℕ
  pub workloads : List ℕ
  pub ranks : ℕ
  pub options : AbtmMultilevelOptions
  pub owners_length : ℕ
  pub work_length : ℕ

abbrev pub call_of : List ℕ → List ℕ → List ℕ → ℕ → AbtmMultilevelOptions → ℕ → ℕ → Call
call_of offsets neighbors workloads ranks options owners_length work_length =
    record {
      offsets = offsets;
      neighbors = neighbors;
      workloads = workloads;
      ranks = ranks;
      options = options;
      owners_length = owners_length;
      work_length = work_length;
    }

-- 2: "n = 0, k = 0 or k > n"
unfoldable pub bad_counts : ℕ → ℕ → Bool
bad_counts n k = eqb n 0 || eqb k 0 || ltb n k

-- 3: "n ≤ 16,384; m ≤ 131,072; k ≤ 256; L = max_levels ≤ 32"
unfoldable pub over_limits : ℕ → ℕ → ℕ → ℕ → Bool
over_limits n m k levels = ltb 16384 n || ltb 131072 m || ltb 256 k || ltb 32 levels

-- "work needs (L + 6) × (4n + 2m + 2) + 24 × k × k numbers"
unfoldable pub work_need : ℕ → ℕ → ℕ → ℕ → ℕ
work_need n m k levels = (levels + 6) * (4 * n + 2 * m + 2) + 24 * k * k

-- within the limits of 3
pub record Limited (n m k levels : ℕ) : Type 0 where
  pub few-vertices : n ≤ 16384
  pub few-entries : m ≤ 131072
  pub few-ranks : k ≤ 256
  pub few-levels : levels ≤ 32

-- "a division tests in table order", 13 "after 4 and before 5", 17 "after 1 and before 2": the number of the first cause that holds, 0 if none
abbrev pub first_of : Bool → Bool → Bool → Bool → Bool → Bool → Bool → ℕ
first_of c1 c17 c2 c3 c4 c13 c5 = cond c1 1 (cond c17 17 (cond c2 2 (cond c3 3 (cond c4 4 (cond c13 13 (cond c5 5 0))))))

-- the numbers that a call's work needs
abbrev pub need_of : Call → ℕ
need_of c = work_need (vertex_count c.offsets) (length c.neighbors) c.ranks c.options.max_levels

-- 5: "lent slice too short"; "owners need n"
unfoldable pub too_short : Call → Bool
too_short c = ltb c.owners_length (vertex_count c.offsets) || ltb c.work_length (need_of c)

unfoldable pub early_cause : Call → ℕ
early_cause c =
    let n = vertex_count c.offsets in
    first_of
    (bad_options c.options)
    (bad_swaps c.options)
    (bad_counts n c.ranks)
    (over_limits n (length c.neighbors) c.ranks c.options.max_levels)
    (bad_lists c.offsets c.neighbors)
    (bad_workloads n c.workloads)
    (too_short c)
