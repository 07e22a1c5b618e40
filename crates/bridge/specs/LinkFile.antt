-- The link file's reader over numbers and slices. Assumes nothing.
use Rattle.std.specs.Prelude.{ℕ, ◌≡◌, cond, List, [], ◌∷◌, length, eqb, Result}
use Rattle.links.specs.declared.refusal.Refusal.{Refusal}
use Rattle.multilevel.specs.declared.file.Sizes.{Sizes}
use Rattle.multilevel.specs.File.{sizes_of, zero_sizes, reader_cause, FileRead}

-- the seven numbers of a header, in its order
abbrev pub header_of : Sizes → List ℕ
header_of s =
    s.vertices
    ∷ s.links
    ∷ s.ranks
    ∷ s.options.max_levels
    ∷ s.options.coarse_vertices_per_rank
    ∷ s.options.imbalance_per_mille
    ∷ s.options.refinement_passes
    ∷ []

-- the reader's answer as its number and seven numbers, all 0 on a refusal; what it writes is the reader's own promise, of the answer that
-- the file asks for
pub record ReadAsNumbers (b offsets neighbors workloads offsets' neighbors' workloads' header' : List ℕ) (r : ℕ) : Type 0 where
  pub number : r ≡ reader_cause b (length offsets) (length neighbors) (length workloads)
  pub header : header' ≡ header_of (cond (eqb r 0) (sizes_of b) zero_sizes)
  pub lists : (answer : Result Sizes Refusal) × FileRead b offsets neighbors workloads offsets' neighbors' workloads' answer
