-- Each test may rest on those before it. Assumes nothing.
use Rattle.std.proofs.Common.{sym, ◌∙◌}
use Rattle.bridge_stages.specs.Lent.{slices_of}
use Rattle.bridge_stages.proofs.LentLaws.{limited}
use Rattle.bridge_stages.proofs.lent.lent_cause.Goals as goal

pub misfits-requires : goal.misfits-requires
misfits-requires c = (limited (slices_of c.args.s) (sym c.over_limits.ensures ∙ c.if-over_limits.false)).0
