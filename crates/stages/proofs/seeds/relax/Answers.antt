-- A farther neighbor is lowered and appended, a near one left. Assumes nothing.
use mathlib.Core.Path.{◌≡◌}
use mathlib.Core.Bool.{true, false}
use Prim.Native.Nat.{◌+◌}
use borrow.Author.Tests.{lt-ltb, le-ltb}
use Rattle.stages.specs.SeedsCode.{from, relaxed, tail_after, is_farther}
use Rattle.stages.proofs.seeds.relax.Goals as goal

pub returns-then-d-work : goal.returns-then-d-work
unfolding relaxed tail_after
returns-then-d-work c =
    let a = c.args in
    let far : is_farther a.work.now a.scratch a.x a.d ≡ true =
    lt-ltb (a.d + 1) (from a.work.now a.scratch a.x) c.if-d-work.true in
    record { tail = rw far; after = rw far }

pub returns : goal.returns
unfolding relaxed tail_after
returns c =
    let a = c.args in
    let near : is_farther a.work.now a.scratch a.x a.d ≡ false =
    le-ltb (a.d + 1) (from a.work.now a.scratch a.x) c.if-d-work.false in
    record { tail = rw near; after = rw near }
