-- The comparisons by hand come out as the request says: by computation. Assumes nothing.
use Prim.Native.Nat.{◌-◌}
use mathlib.Core.Path.{◌≡◌, refl}
use mathlib.Core.List.{[], ◌∷◌, ◌++◌, map}
use lib.ListN.{length, replicate}
use Rattle.links.specs.Graph.{neighbors_cause, neighbors_of, rows_of, bad_offsets, good_row, bad_lists, lists_cause, site_cause, owned, links, links_cut}
use Rattle.links.specs.Owners.{bad_ranks, too_many, stray_owner, empty_rank, from_owners}
use Rattle.std.specs.Prelude.{ℕ, Option}
use Rattle.compare.specs.declared.order.Order.{Order}
use Rattle.compare.specs.Order.{appearing, renumbered, by_numbers, order_of, renamed, renaming_of}
use Rattle.compare.specs.Comparison.{lengths_cause, comparison_cause, order_for}
use Rattle.compare.specs.Comparisons.{path_offsets, path_neighbors, comparisons, bad_sites}

pub comparisons-by-hand : map {B = ℕ × Option Order} (λ c. (comparison_cause path_offsets path_neighbors c.0 c.1 c.2, order_for path_offsets path_neighbors c.0 c.1 c.2)) comparisons
    ≡ map {B = ℕ × Option Order} (λ c. c.3) comparisons
unfolding comparisons neighbors_cause neighbors_of rows_of bad_offsets good_row bad_lists lists_cause site_cause owned links links_cut bad_ranks too_many stray_owner empty_rank from_owners appearing renumbered by_numbers order_of lengths_cause comparison_cause order_for
comparisons-by-hand = refl

pub renamings-by-hand : map (λ c. renaming_of c.0 c.1 c.2 c.3.1) comparisons ≡ map (λ c. c.4 ++ replicate (256 - length c.4) 0) comparisons
unfolding comparisons renamed renaming_of
renamings-by-hand = refl

pub bad-sites-by-hand : map {B = ℕ × Option Order} (λ s. (comparison_cause s.0 s.1 2 (0 ∷ 1 ∷ []) (1 ∷ 0 ∷ []), order_for s.0 s.1 2 (0 ∷ 1 ∷ []) (1 ∷ 0 ∷ []))) bad_sites
    ≡ map {B = ℕ × Option Order} (λ s. s.2) bad_sites
unfolding bad_sites neighbors_cause neighbors_of rows_of bad_offsets good_row bad_lists lists_cause site_cause owned links links_cut bad_ranks too_many stray_owner empty_rank from_owners appearing renumbered by_numbers order_of lengths_cause comparison_cause order_for
bad-sites-by-hand = refl
