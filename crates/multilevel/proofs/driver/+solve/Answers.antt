use mathlib.Core.Path.{sym, ap, ◌∙◌}
use Rattle.std.specs.Prelude.{Err}
use Rattle.std.proofs.lemmas.Result.{err_from_is_err_and}
use native.Mathlib.Omega.{arith}
use Rattle.multilevel.proofs.DescentLaws.{solved-last}
use Rattle.multilevel.proofs.DescentCodeLaws.{laid-alone, code-small, code-regrown, code_same, code-placed, code-refused, code-stacked, code-refining, code-finer}
use Rattle.multilevel.proofs.driver.+solve.Goals as goal

pub returns-then-left-eq0 : goal.returns-then-left-eq0
returns-then-left-eq0 t c =
    let a = c.args in
    solved-last a.work.now a.l a.q a.left c.requires.0 _ _ c.if-left-eq0.true c.grow_level.ensures

pub returns-then-l-q : goal.returns-then-l-q
returns-then-l-q t c =
    let a = c.args in
    code-small a.work.now a.l a.q a.left c.requires.0 c.if-left-eq0.false _ _ c.if-l-q.true c.grow_level-then-l-q.ensures

pub grow_level-requires-in_default : goal.grow_level-requires-in_default
grow_level-requires-in_default t c =
    let a = c.args in
    code-regrown a.work.now a.l a.q a.left c.requires.0 c.if-left-eq0.false c.moved_up-next.result (c.moved_up-next.ensures (laid-alone c.requires.0.ready.laid, omega arith))
    c.if-l-q.false _ _ c.coarsen_once_cached.ensures

pub returns-in_default : goal.returns-in_default
returns-in_default t c =
    let a = c.args in
    code_same a.work.now a.l a.q a.left c.requires.0 c.if-left-eq0.false c.moved_up-next.result (c.moved_up-next.ensures (laid-alone c.requires.0.ready.laid, omega arith))
    c.if-l-q.false _ _ c.coarsen_once_cached.ensures _ _ c.in_default.is c.grow_level-in_default.ensures

pub solve-requires : goal.solve-requires
solve-requires t c =
    let a = c.args in
    let placed =
    code-placed a.work.now a.l a.q a.left c.requires.0 c.if-left-eq0.false c.moved_up-next.result (c.moved_up-next.ensures (laid-alone c.requires.0.ready.laid, omega arith))
    c.if-l-q.false _ _ c.coarsen_once_cached.ensures _ c.in-Some.is c.sized-coarse.result c.sized-coarse.ensures in
    (let z = c.if-left-eq0.false in let t = c.requires.0 in omega arith, (placed, omega (arith, c.requires.1)))

pub returns-in_err-s : goal.returns-in_err-s
returns-in_err-s t c =
    let a = c.args in
    let p = err_from_is_err_and c.from_residual.result c.from_residual.ensures.1 in
    rw p.1 (code-refused a.work.now a.l a.q a.left c.requires.0 c.if-left-eq0.false c.moved_up-next.result (c.moved_up-next.ensures (laid-alone c.requires.0.ready.laid, omega arith))
    c.if-l-q.false _ _ c.coarsen_once_cached.ensures _ c.in-Some.is c.sized-coarse.result c.sized-coarse.ensures
    _ _ c.solve.ensures p.0 (c.in_err-s.was ∙ ap Err (sym p.2)))

pub take_over-requires : goal.take_over-requires
take_over-requires t c =
    let a = c.args in
    code-stacked a.work.now a.l a.q a.left c.requires.0 c.if-left-eq0.false c.moved_up-next.result (c.moved_up-next.ensures (laid-alone c.requires.0.ready.laid, omega arith))
    c.if-l-q.false _ _ c.coarsen_once_cached.ensures _ c.in-Some.is c.sized-coarse.result c.sized-coarse.ensures _ _
    c.solve.ensures _ c.in_ok-s.was

pub refine_level-requires : goal.refine_level-requires
refine_level-requires t c =
    let a = c.args in
    code-refining a.work.now a.l a.q a.left c.requires.0 c.if-left-eq0.false c.moved_up-next.result (c.moved_up-next.ensures (laid-alone c.requires.0.ready.laid, omega arith))
    c.if-l-q.false _ _ c.coarsen_once_cached.ensures _ c.in-Some.is c.sized-coarse.result c.sized-coarse.ensures _ _
    c.solve.ensures _ c.in_ok-s.was _ c.take_over.ensures

pub returns : goal.returns
returns t c =
    let a = c.args in
    code-finer a.work.now a.l a.q a.left c.requires.0 c.if-left-eq0.false c.moved_up-next.result (c.moved_up-next.ensures (laid-alone c.requires.0.ready.laid, omega arith))
    c.if-l-q.false _ _ c.coarsen_once_cached.ensures _ c.in-Some.is c.sized-coarse.result c.sized-coarse.ensures _ _
    c.solve.ensures _ c.in_ok-s.was _ c.take_over.ensures _ c.added_pairs-kept.result _ c.added_pairs-kept.ensures c.requires.1
    c.refine_level.ensures
