-- Rule 9: the link file, with document 02's workloads and its 14. One definition of the format serves the check and the reader. Assumes nothing.
use Rattle.std.specs.Prelude.{ℕ, ◌+◌, ◌-◌, ◌*◌, ◌≤◌, ◌<◌, ◌≡◌, Bool, false, not, ◌&&◌, ◌||◌, cond, List, [], ◌∷◌, ◌++◌, map, length, drop, replicate, ltb, eqb, Result, Ok, Err}
use Rattle.std.proofs.lemmas.List.Edits.{sets}
use Rattle.links.specs.Lists.{at, filter, any, all, range, empty, concat_map, above}
use Rattle.links.specs.Options.{default_list_length, default_pass_factor}
use Rattle.links.specs.Graph.{rows_of, offsets_from, packed, SoundLists}
use Rattle.links.specs.Workloads.{bad_workloads}
use Rattle.multilevel.specs.declared.file.Sizes.{Sizes}
use Rattle.links.specs.Refusals.{number_of}
use Rattle.links.specs.declared.refusal.Refusal.{Refusal}

-- "u32 little-endian": the file's number at place i
unfoldable pub number : List ℕ → ℕ → ℕ
number b i = at b (4 * i) + 256 * at b (4 * i + 1) + 65536 * at b (4 * i + 2) + 16777216 * at b (4 * i + 3)

-- "n, e, k, max_levels, coarse_vertices_per_rank, t, refinement_passes"; "in the link file both keep their defaults"
unfoldable pub sizes_of : List ℕ → Sizes
sizes_of b =
    record {
      vertices = number b 0;
      links = number b 1;
      ranks = number b 2;
      options =
          record {
            max_levels = number b 3;
            coarse_vertices_per_rank = number b 4;
            imbalance_per_mille = number b 5;
            refinement_passes = number b 6;
            swap_list_length = default_list_length;
            swap_pass_factor = default_pass_factor;
          };
    }

abbrev pub vertex_count_of : List ℕ → ℕ
vertex_count_of b = number b 0

abbrev pub link_count_of : List ℕ → ℕ
link_count_of b = number b 1

-- "then e low ends; then e high ends"
unfoldable pub low_end : List ℕ → ℕ → ℕ
low_end b i = number b (7 + i)

unfoldable pub high_end : List ℕ → ℕ → ℕ
high_end b i = number b (7 + link_count_of b + i)

-- "the program allows n ≤ 64, e ≤ 128, k ≤ 8, max_levels ≤ 12"
unfoldable pub over_program_limits : List ℕ → Bool
over_program_limits b = ltb 64 (number b 0) || ltb 128 (number b 1) || ltb 8 (number b 2) || ltb 12 (number b 3)

-- link i before link j "by (low, high)"
unfoldable pub link_before : List ℕ → ℕ → ℕ → Bool
link_before b i j = above (low_end b j) (low_end b i) (ltb (high_end b i) (high_end b j))

-- "low < high < n; links strictly rising by (low, high)"
unfoldable pub good_link : List ℕ → ℕ → Bool
good_link b i = ltb (low_end b i) (high_end b i) && ltb (high_end b i) (vertex_count_of b) && (eqb i 0 || link_before b (i - 1) i)

unfoldable pub good_links : List ℕ → Bool
good_links b = all (good_link b) (range 0 (link_count_of b))

-- "A file of length 28 + 8e means all 1; one of 28 + 8e + 4n carries them; any other length is still malformed."
unfoldable pub good_length : List ℕ → Bool
good_length b = eqb (length b) (28 + 8 * link_count_of b) || eqb (length b) (28 + 8 * link_count_of b + 4 * vertex_count_of b)

-- "n u32 workloads after the two arrays", or "all 1"
unfoldable pub file_workloads : List ℕ → List ℕ
file_workloads b =
    cond (eqb (length b) (28 + 8 * link_count_of b))
    (replicate (vertex_count_of b) 1)
    (map (number b) (range (7 + 2 * link_count_of b) (vertex_count_of b)))

-- v is an end of link i
unfoldable pub is_end : List ℕ → ℕ → ℕ → Bool
is_end b v i = eqb (low_end b i) v || eqb (high_end b i) v

-- a "turbine without a link": no link has v as an end
unfoldable pub lone_in : List ℕ → ℕ → Bool
lone_in b v = all (λ i. not (is_end b v i)) (range 0 (link_count_of b))

-- "a lone turbine where n is 2 or more"
unfoldable pub has_lone : List ℕ → Bool
has_lone b = ltb 1 (vertex_count_of b) && any (lone_in b) (range 0 (vertex_count_of b))

-- "under 28 bytes 10; program limits 3"; any other length than those two, "or a wrong link, 10"; then 13, "in a file after the link tests of 10";
-- 14 "after 13"
unfoldable pub file_cause : List ℕ → ℕ
file_cause b =
    cond (ltb (length b) 28) 10
    (cond (over_program_limits b) 3
    (cond (not (good_length b && good_links b)) 10
    (cond (bad_workloads (vertex_count_of b) (file_workloads b)) 13
    (cond (has_lone b) 14 0))))

-- "the reader then 5 (n + 1 offsets, 2e neighbours)", and "its 5 counts them too": n workloads
unfoldable pub reader_cause : List ℕ → ℕ → ℕ → ℕ → ℕ
reader_cause b offsets_length neighbors_length workloads_length =
    cond (eqb (file_cause b) 0)
    (cond (ltb offsets_length (vertex_count_of b + 1) || ltb neighbors_length (2 * link_count_of b) || ltb workloads_length (vertex_count_of b)) 5 0)
    (file_cause b)

-- ---- the lists of an accepted file

-- some link has the ends u and v
unfoldable pub linked_in : List ℕ → ℕ → ℕ → Bool
linked_in b v u =
    any (λ i. (eqb (low_end b i) v && eqb (high_end b i) u) || (eqb (low_end b i) u && eqb (high_end b i) v)) (range 0 (link_count_of b))

-- "the rising neighbour lists"
unfoldable pub file_row : List ℕ → ℕ → List ℕ
file_row b v = filter (linked_in b v) (range 0 (vertex_count_of b))

unfoldable pub file_rows : List ℕ → List (List ℕ)
file_rows b = map (file_row b) (range 0 (vertex_count_of b))

abbrev pub file_offsets : List ℕ → List ℕ
file_offsets b = offsets_from 0 (file_rows b)

abbrev pub file_neighbors : List ℕ → List ℕ
file_neighbors b = packed (file_rows b)

-- ---- what the reader tells and writes

-- "zero sizes", with every refusal
abbrev pub zero_sizes : Sizes
zero_sizes =
    record {
      vertices = 0;
      links = 0;
      ranks = 0;
      options = record { max_levels = 0; coarse_vertices_per_rank = 0; imbalance_per_mille = 0; refinement_passes = 0; swap_list_length = 0; swap_pass_factor = 0 };
    }

-- document 01's sizes of each answer
abbrev pub read_sizes : Result Sizes Refusal → Sizes
read_sizes (Ok s) = s
read_sizes (Err e) = zero_sizes

-- "the reader returns sizes and options, and writes the offsets and the rising neighbour lists, nothing beyond", and "n workloads for either
-- length"; a refusal leaves "everything" as it was
pub record FileRead (b offsets neighbors workloads offsets' neighbors' workloads' : List ℕ) (r : Result Sizes Refusal) : Type 0 where
  pub answer : reader_cause b (length offsets) (length neighbors) (length workloads) ≡ 0 → r ≡ Ok (sizes_of b)
  -- so are its number and its sizes, "zero sizes" with a refusal
  pub number : number_of r ≡ reader_cause b (length offsets) (length neighbors) (length workloads)
  pub sizes : read_sizes r ≡ cond (eqb (reader_cause b (length offsets) (length neighbors) (length workloads)) 0) (sizes_of b) zero_sizes
  pub refused
      : (reader_cause b (length offsets) (length neighbors) (length workloads) ≡ 0 → ⊥)
      → (offsets' ≡ offsets) × (neighbors' ≡ neighbors) × (workloads' ≡ workloads)
  pub offsets-written
      : reader_cause b (length offsets) (length neighbors) (length workloads) ≡ 0
      → offsets' ≡ file_offsets b ++ drop (vertex_count_of b + 1) offsets
  pub neighbors-written
      : reader_cause b (length offsets) (length neighbors) (length workloads) ≡ 0
      → neighbors' ≡ file_neighbors b ++ drop (2 * link_count_of b) neighbors
  pub workloads-written
      : reader_cause b (length offsets) (length neighbors) (length workloads) ≡ 0
      → workloads' ≡ file_workloads b ++ drop (vertex_count_of b) workloads
  -- what it writes passes the list test, and is the file's rows
  pub sound : file_cause b ≡ 0 → SoundLists (file_offsets b) (file_neighbors b) × (rows_of (file_offsets b) (file_neighbors b) ≡ file_rows b)
  -- and the workloads pass theirs
  pub workloads-pass : file_cause b ≡ 0 → bad_workloads (vertex_count_of b) (file_workloads b) ≡ false
  -- no row is empty, "unless it has one turbine only"
  pub linked : file_cause b ≡ 0 → 1 < vertex_count_of b → (v : ℕ) → v < vertex_count_of b → empty (file_row b v) ≡ false

-- a file that has at least the bytes that its links ask for
pub record Sized (b : List ℕ) (e : ℕ) : Type 0 where
  pub links : e ≡ link_count_of b
  pub few : e ≤ 128
  pub bytes : 28 + 8 * e ≤ length b

-- ---- a row as the reader makes it: link by link, v's other end

unfoldable pub other_end : List ℕ → ℕ → ℕ → List ℕ
other_end b v i = cond (eqb (low_end b i) v) (high_end b i ∷ []) (cond (eqb (high_end b i) v) (low_end b i ∷ []) [])

unfoldable pub row_up_to : List ℕ → ℕ → ℕ → List ℕ
row_up_to b v i = concat_map (other_end b v) (range 0 i)

-- what a slice holds once a list was written from `from` on, and where that list ended
pub record Written (xs : List ℕ) (from : ℕ) (neighbors neighbors' : List ℕ) (end : ℕ) : Type 0 where
  pub end_is : end ≡ from + length xs
  pub is : neighbors' ≡ sets neighbors from xs

pub record RowsWritten (b offsets neighbors offsets' neighbors' : List ℕ) : Type 0 where
  pub offsets_are : offsets' ≡ file_offsets b ++ drop (vertex_count_of b + 1) offsets
  pub neighbors-are : neighbors' ≡ file_neighbors b ++ drop (2 * link_count_of b) neighbors
