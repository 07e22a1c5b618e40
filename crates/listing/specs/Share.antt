-- From a link file's bytes to its listing. Assumes nothing.
use Rattle.std.specs.Prelude.{ℕ, cond, List, eqb}
use Rattle.links.specs.Graph.{links_cut}
use Rattle.multilevel.specs.declared.file.Sizes.{Sizes}
use Rattle.multilevel.specs.File.{sizes_of, file_offsets, file_neighbors, file_workloads, file_cause}
use Rattle.multilevel.specs.Causes.{call_of}
use Rattle.multilevel.specs.Division.{Outcome, refused, divided, division}
use Rattle.multilevel.specs.Demand3.{site_rows}
use Rattle.listing.specs.Listing.{site_text, refusal_text, site_room}

-- what the program lends a division: 64 owners, and the work of 64 vertices, 256 neighbor entries, 8 ranks and 12 levels
abbrev pub lent_owners : ℕ
lent_owners = 64

abbrev pub lent_work : ℕ
lent_work = 15396

-- the text of how the division of a site with these rows ends. "In the listing `cut` becomes the number of links whose ends have different owners"
unfoldable pub outcome_text : List (List ℕ) → ℕ → Outcome → List ℕ
outcome_text rows k (refused number) = refusal_text number
outcome_text rows k (divided owners s) = site_text k owners (links_cut rows owners) s

-- the text of the division of a site with these lists, workloads, sizes and options
unfoldable pub call_text : List ℕ → List ℕ → List ℕ → Sizes → List ℕ
call_text offsets neighbors workloads s =
    let c = call_of offsets neighbors workloads s.ranks s.options lent_owners lent_work in
    outcome_text (site_rows c) c.ranks (division c).outcome

-- the text of a file: its refusal, or the division of the site that it describes
unfoldable pub file_text : List ℕ → List ℕ
file_text b =
    let site = call_text (file_offsets b) (file_neighbors b) (file_workloads b) (sizes_of b) in
    cond (eqb (file_cause b) 0) site (refusal_text (file_cause b))

-- the bytes that hold the text of any file
abbrev pub share_room : ℕ
share_room = site_room lent_owners
