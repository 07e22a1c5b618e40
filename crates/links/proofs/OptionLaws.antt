-- What the tests on the swaps' options leave. Assumes nothing.
use Prim.Native.Nat.{ℕ, ◌≤◌}
use mathlib.Core.Path.{◌≡◌}
use mathlib.Core.Bool.{false, not}
use borrow.Author.Tests.{not-false}
use Rattle.links.specs.Lists.{between}
use Rattle.links.specs.Options.{bad_list_length, bad_swaps}
use Rattle.links.specs.declared.options.AbtmMultilevelOptions.{AbtmMultilevelOptions}
use Rattle.links.proofs.ListLaws.{or_l, between-least, between-most}

pub record GoodListLength (n : ℕ) : Type 0 where
  pub some : 1 ≤ n
  pub few : n ≤ 12

pub good-list-length : (n : ℕ) → bad_list_length n ≡ false → GoodListLength n
unfolding bad_list_length
good-list-length n e =
    let in-range = not-false (between 1 12 n) e in
    record { some = between-least 1 12 n in-range; few = between-most 1 12 n in-range }

pub good-swaps : (o : AbtmMultilevelOptions) → bad_swaps o ≡ false → GoodListLength o.swap_list_length
unfolding bad_swaps
good-swaps o e = good-list-length o.swap_list_length (or_l (bad_list_length o.swap_list_length) (not (between 1 8 o.swap_pass_factor)) e)
