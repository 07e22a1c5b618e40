-- Moves, which may refuse. Assumes nothing.
use Rattle.std.proofs.Common.{sym, ap, ◌∙◌}
use Rattle.std.specs.Prelude.{Err}
use Rattle.std.proofs.lemmas.Result.{err_from_is_err_and}
use Rattle.multilevel.proofs.PlaceLaws.{level-moved, level-refused}
use Rattle.multilevel.proofs.driver.refine_level.Goals as goal

pub returns-in_err-moves : goal.returns-in_err-moves
returns-in_err-moves c =
    let a = c.args in
    let p = err_from_is_err_and c.from_residual.result c.from_residual.ensures.1 in
    rw p.1 (level-refused a.work.now a.l a.q c.requires _ _ a.s p.0 c.refine_by_cut.ensures (c.in_err-moves.was ∙ ap Err (sym p.2)))

pub returns : goal.returns
returns c =
    let a = c.args in
    level-moved a.work.now a.l a.q c.requires _ a.s c.added_moves.result c.in_ok-moves.moves
    (rw c.in_ok-moves.was at c.refine_by_cut.ensures) c.added_moves.ensures
