-- Four stores: two change places, two are 1. Assumes nothing.
use mathlib.Core.Path.{sym, ap, ◌∙◌}
use mathlib.Core.List.{List}
use Prim.Native.Nat.{ℕ, ◌+◌}
use native.Mathlib.Omega.{arith}
use lib.ListN.{set}
use Rattle.std.proofs.lemmas.List.Edits.{swap_is}
use Rattle.stages.specs.SwapsCode.{changed}
use Rattle.stages.proofs.swaps.change.Goals as goal

pub returns : goal.returns
unfolding changed
returns c =
    let a = c.args in
    let o = a.s.level.owners in
    let e = c.swap.ensures.after ∙ sym (swap_is a.work.now (o + a.u) (o + a.v) 0 (omega arith) (omega arith)) in
    ap (λ (w : List ℕ). set (set w (a.s.used + a.u) 1) (a.s.used + a.v) 1) e
