-- The tallies are made, used up, and 0 again. Assumes nothing.
use Prim.Native.Nat.{ℕ, ◌≤◌}
use mathlib.Core.Path.{refl, sym, ap, ◌∙◌}
use mathlib.Core.List.{List}
use native.Mathlib.Omega.{arith}
use Rattle.links.specs.Lists.{at}
use Rattle.stages.proofs.ListingLaws.{given-kept, owners-same, sorted-kept, listed}
use Rattle.stages.proofs.swaps.list_counted.Goals as goal

pub offer_row-requires : goal.offer_row-requires
offer_row-requires c =
    let a = c.args in
    let g = c.requires.0 in
    let k = c.tally.ensures.1 in
    let h : a.s.used ≤ a.s.tallies = omega (arith, g.used-in, g.loads-in) in
    (given-kept g k h, c.requires.1, c.owner_in-a.ensures ∙ ap (λ (z : List ℕ). at z a.v) (sym (owners-same g k h)), c.tally.ensures.0, sorted-kept a.s k g.tallies-in c.requires.3)

pub returns : goal.returns
returns c =
    listed c.requires.0 c.requires.1 c.owner_in-a.result c.owner_in-a.ensures c.tally.new.work c.offer_row.new.work
    _ c.tally.ensures.1 c.offer_row.ensures.0 c.offer_row.ensures.1 refl
