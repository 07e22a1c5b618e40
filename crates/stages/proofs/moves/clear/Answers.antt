-- What a part that was filled with 0 holds. Assumes nothing.
use Prim.Native.Nat.{◌+◌}
use mathlib.Core.Path.{ap}
use Rattle.links.specs.Parts.{put_back, filled_part}
use Rattle.links.proofs.PartLaws.{filled_at, filled-kept}
use Rattle.stages.proofs.moves.clear.Goals as goal

pub returns : goal.returns
unfolding filled_part
returns c =
    let a = c.args in
    let e = ap (put_back a.work.now a.a (a.a + a.n)) (c.fill.ensures.after (λ y e. e)) in
    (filled_at a.work.now _ a.a a.n 0 c.requires e, filled-kept a.work.now _ a.a a.n 0 c.requires e)
