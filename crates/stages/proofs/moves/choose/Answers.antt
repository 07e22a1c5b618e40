-- No rank tempts v, so that it has no target; or the tallies are made and cleared again, so that the slice is as it was. Assumes nothing.
use Prim.Native.Nat.{◌+◌}
use mathlib.Core.Path.{refl}
use Rattle.stages.specs.Level.{rows_at, weights_at, owners_at}
use Rattle.stages.proofs.MovesTurnLaws.{tallies-roomed, weighed-kept, target-kept, cleared-again, no-offer}
use Rattle.stages.proofs.moves.choose.Goals as goal

pub best_offer-best-requires : goal.best_offer-best-requires
best_offer-best-requires c =
    let t = c.tally.ensures in
    (weighed-kept c.requires.0.weighed t.1, c.requires.1, t.0)

pub clear_tallies-requires : goal.clear_tallies-requires
clear_tallies-requires c =
    let t = c.tally.ensures in
    (tallies-roomed (weighed-kept c.requires.0.weighed t.1), c.requires.1, t.0)

pub returns : goal.returns
returns c =
    let t = c.tally.ensures in
    let u = c.clear_tallies.ensures in (
      target-kept c.requires.0.weighed t.1 c.args.s.limits c.args.v _ c.best_offer-best.ensures,
      cleared-again c.args.work.now _ _ (c.args.s.scratch + c.args.s.limits.ranks) c.args.s.limits.ranks c.requires.0.clear t.1 u.0
          u.1,
    )

pub returns-then-not-tempted : goal.returns-then-not-tempted
returns-then-not-tempted c =
    let a = c.args in
    let w = a.work.now in
    (no-offer a.s.limits (rows_at w a.s.level) (weights_at w a.s.level) (owners_at w a.s.level) a.v c.tempted.result c.tempted.ensures c.if-not-tempted.true, refl)
