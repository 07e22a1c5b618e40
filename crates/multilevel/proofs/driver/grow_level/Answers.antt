-- Growth, and moves if it did not refuse. Assumes nothing.
use Rattle.std.proofs.Common.{sym, ap, ◌∙◌, rules}
use Rattle.std.specs.Prelude.{Err}
use Rattle.std.proofs.lemmas.Result.{err_from_is_err_and}
use Rattle.links.specs.Options.{grown_stats, zero_stats}
use Rattle.links.specs.declared.options.AbtmMultilevelStats.{AbtmMultilevelStats}
use Rattle.multilevel.proofs.GrowLaws.{grown-refining, level-grown, level-ungrown}
use Rattle.multilevel.proofs.driver.grow_level.Goals as goal

pub returns-in_err-restarts : goal.returns-in_err-restarts
returns-in_err-restarts c =
    let a = c.args in
    let p = err_from_is_err_and c.from_residual.result c.from_residual.ensures.1 in
    rw p.1 (level-ungrown a.work.now a.l a.q c.requires _ _ c.weighted_multisource_partition.ensures p.0 (c.in_err-restarts.was ∙ ap Err (sym p.2)))

pub refine_level-requires : goal.refine_level-requires
refine_level-requires c =
    let a = c.args in
    grown-refining a.work.now a.l a.q c.requires _ _ c.weighted_multisource_partition.ensures c.in_ok-restarts.restarts c.in_ok-restarts.was

pub returns : goal.returns
unfolding zero_stats
returns c =
    let a = c.args in
    let n = c.in_ok-restarts.restarts in
    level-grown a.work.now a.l a.q c.requires _ _ c.weighted_multisource_partition.ensures n c.in_ok-restarts.was _ c.grown-s.result _
    (c.grown-s.ensures ∙ ap (λ (s : AbtmMultilevelStats). grown_stats s a.l.vertices n) (search rules))
    c.refine_level.ensures
