-- The listing of an answer, "turbine and owner, then the stats", as document 01's example has it; "for a refusal, `refused ` and the number".
-- Assumes nothing.
use Rattle.std.specs.Prelude.{ℕ, ◌+◌, ◌*◌, List, ◌++◌, length}
use Rattle.links.specs.Lists.{at, range, concat_map}
use Rattle.links.specs.declared.options.AbtmMultilevelStats.{AbtmMultilevelStats}
use Rattle.listing.specs.Text.{bytes, decimal}

-- `turbines 4 crews 2`
unfoldable pub head_text : ℕ → ℕ → List ℕ
head_text n k = bytes "turbines " ++ decimal n ++ bytes " crews " ++ decimal k ++ bytes "\n"

-- `2 1`: vertex 2 is owned by rank 1
unfoldable pub line_text : ℕ → ℕ → List ℕ
line_text v r = decimal v ++ bytes " " ++ decimal r ++ bytes "\n"

-- the lines of the first i vertices
unfoldable pub lines_text : List ℕ → ℕ → List ℕ
lines_text owners i = concat_map (λ v. line_text v (at owners v)) (range 0 i)

-- `levels 0 coarsest 4 pairs 0 singles 0 restarts 0 moves 0 cut 1 volume 2`
unfoldable pub coarse_text : AbtmMultilevelStats → List ℕ
coarse_text s =
    bytes "levels "
    ++ decimal s.levels_built
    ++ bytes " coarsest "
    ++ decimal s.coarsest_vertices
    ++ bytes " pairs "
    ++ decimal s.matched_pairs
    ++ bytes " singles "
    ++ decimal s.singleton_aggregates

-- the first argument stands behind `cut`
unfoldable pub fine_text : ℕ → AbtmMultilevelStats → List ℕ
fine_text cut s =
    bytes " restarts "
    ++ decimal s.coarse_restarts
    ++ bytes " moves "
    ++ decimal s.refinement_moves
    ++ bytes " cut "
    ++ decimal cut
    ++ bytes " volume "
    ++ decimal s.final_communication_volume

unfoldable pub stats_text : ℕ → AbtmMultilevelStats → List ℕ
stats_text cut s = coarse_text s ++ fine_text cut s ++ bytes "\n"

-- the whole listing of a division
unfoldable pub site_text : ℕ → List ℕ → ℕ → AbtmMultilevelStats → List ℕ
site_text k owners cut s = head_text (length owners) k ++ lines_text owners (length owners) ++ stats_text cut s

-- `refused 8`
unfoldable pub refusal_text : ℕ → List ℕ
refusal_text number = bytes "refused " ++ decimal number ++ bytes "\n"

-- the bytes that hold any such text, with 20 for each number
abbrev pub site_room : ℕ → ℕ
site_room n = 281 + 42 * n

abbrev pub refusal_room : ℕ
refusal_room = 29
