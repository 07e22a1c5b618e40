-- The row and the owners are parts of the work slice. Assumes nothing.
use Prim.Native.Nat.{ℕ}
use mathlib.Core.Path.{ap, ◌∙◌}
use mathlib.Core.List.{List}
use native.Mathlib.Omega.{arith}
use lib.ListN.{length}
use Rattle.links.specs.Graph.{links_in}
use Rattle.stages.specs.Level.{owners_at}
use Rattle.stages.proofs.SwapsSliceLaws.{row-few, row_under}
use Rattle.stages.proofs.swaps.links_to.Goals as goal

pub links_in-requires : goal.links_in-requires
links_in-requires c =
    let e = c.row.ensures in
    (rw e (row-few c.requires.0 c.args.v c.requires.1), rw e (row_under c.requires.0 c.args.v c.requires.1))

pub returns : goal.returns
returns c =
    let a = c.args in
    let e = c.row.ensures in (
      omega (arith, ap length e, row-few c.requires.0 a.v c.requires.1, c.links_in.ensures.0),
      c.links_in.ensures.1 ∙ ap (λ (z : List ℕ). links_in z (owners_at a.w.now a.s.level) a.r) e,
    )
