-- The listing of the path P4, from the definitions alone: by computation. Assumes nothing.
use mathlib.Core.Path.{◌≡◌, refl, ap, ◌∙◌}
use mathlib.Core.List.{[], ◌∷◌, head-eq_of_cons-eq}
use Rattle.links.specs.Graph.{neighbors_cause, neighbors_of, rows_of, links, links_cut}
use Rattle.multilevel.specs.Causes.{Call}
use Rattle.multilevel.specs.Division.{divided, division}
use Rattle.multilevel.specs.Demand3.{site_rows}
use Rattle.multilevel.specs.Sites.{P4, site, stats, sites_by_hand}
use Rattle.multilevel.proofs.SiteLaws.{by_hand}
use Rattle.listing.specs.Text.{bytes, decimal_within, decimal}
use Rattle.listing.specs.Listing.{head_text, line_text, lines_text, coarse_text, fine_text, stats_text, site_text}
use Rattle.listing.specs.Share.{outcome_text}

abbrev path : Call
path = site P4 2 (12, 64, 30, 2)

path-divided : (division path).outcome ≡ divided (0 ∷ 0 ∷ 1 ∷ 1 ∷ []) (stats 0 4 0 0 0 0 2 2)
unfolding sites_by_hand
path-divided = let e = head-eq_of_cons-eq by_hand.0 in cc

-- "the last line for the path P4 ends `cut 1 volume 2`"
pub path-text
    : outcome_text (site_rows path) 2 (division path).outcome
    ≡ bytes "turbines 4 crews 2\n0 0\n1 0\n2 1\n3 1\nlevels 0 coarsest 4 pairs 0 singles 0 restarts 0 moves 0 cut 1 volume 2\n"
unfolding outcome_text site_text head_text lines_text line_text stats_text coarse_text fine_text decimal decimal_within
    neighbors_cause neighbors_of rows_of links links_cut
path-text = ap (outcome_text (site_rows path) 2) path-divided ∙ refl
