-- The sites by hand, the causes before the work and the link files come out as 01 and 02 say: by computation. Assumes nothing.
use mathlib.Core.Path.{◌≡◌, refl}
use mathlib.Core.Bool.{cond}
use mathlib.Core.List.{map}
use lib.Dec.{eqb}
use Rattle.links.specs.Loads.{share, load_cap, minimum_load, balance}
use Rattle.links.specs.Graph.{neighbors_cause, neighbors_of, rows_of, bad_offsets, good_row, bad_lists, links_in, load, owned, cut_entries, foreign_neighbors, volume}
use Rattle.links.specs.Owners.{bad_ranks, too_many, stray_owner, empty_rank, from_owners}
use Rattle.links.specs.Workloads.{bad_workload, bad_workloads}
use Rattle.links.specs.Options.{bad_options, bad_list_length, bad_swaps, stop_size}
use Rattle.stages.specs.Coarsen.{by_degree, shared, closer, partner, grouped, match, unmatched, pairing, coarse_row, coarsen_once}
use Rattle.stages.specs.Seeds.{spread, spread_from, distances, farther, next_seed, farthest_seeds}
use Rattle.stages.specs.Growth.{fits, after_choice, pop, restart, claimed, chosen, turn, round, rounds, seed_owners, seeded, weighted_multisource, grown, restart_count}
use Rattle.stages.specs.Moves.{after, linked, gain, repeat, may_leave, may_join, preferred, target, destination, move_pass, refine_by_cut}
use Rattle.stages.specs.Swaps.{ahead, candidates, sooner, propose, proposals, all_proposals, in_balance, keeps_balance, applies, swap_pass, refine_fine_pair_swaps}
use Rattle.multilevel.specs.Causes.{bad_counts, over_limits, work_need, too_short, early_cause}
use Rattle.multilevel.specs.Division.{coarsenings, refine, grow, solve, stats_of, abtm_multilevel_partition, division}
use Rattle.multilevel.specs.File.{number, low_end, high_end, over_program_limits, link_before, good_link, good_links, good_length, file_workloads, is_end, lone_in, has_lone, file_cause, reader_cause}
use Rattle.multilevel.specs.Sites.{swaps_on, found, stated, sites_by_hand, early, files}

-- every definition of rules 1 to 8 is opened, and each side computes to the same table
pub by_hand : (map found sites_by_hand ≡ map stated sites_by_hand) × (map found early ≡ map stated early)
unfolding sites_by_hand early swaps_on
    share load_cap minimum_load balance neighbors_cause neighbors_of rows_of bad_offsets good_row bad_lists links_in load owned cut_entries foreign_neighbors volume
    bad_ranks too_many stray_owner empty_rank from_owners bad_options bad_list_length bad_swaps stop_size
    by_degree shared closer partner grouped match unmatched pairing coarse_row coarsen_once
    spread spread_from distances farther next_seed farthest_seeds
    fits after_choice pop restart claimed chosen turn round rounds seed_owners seeded weighted_multisource grown restart_count
    after linked gain repeat may_leave may_join preferred target destination move_pass refine_by_cut
    ahead candidates sooner propose proposals all_proposals in_balance keeps_balance applies swap_pass refine_fine_pair_swaps
    bad_counts over_limits bad_workload bad_workloads work_need too_short early_cause coarsenings refine grow solve stats_of abtm_multilevel_partition division
by_hand = (refl, refl)

-- the check of each file; and the reader, lent nothing, answers 5 only where the check has nothing to say
pub files-by-hand
    : (map (λ f. file_cause f.0) files ≡ map (λ f. f.1) files)
    × (map (λ f. reader_cause f.0 0 0 0) files ≡ map (λ f. cond (eqb f.1 0) 5 f.1) files)
unfolding files number low_end high_end over_program_limits link_before good_link good_links good_length bad_workload bad_workloads file_workloads
    is_end lone_in has_lone file_cause reader_cause
files-by-hand = (refl, refl)
