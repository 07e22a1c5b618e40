-- Within the limits no product overflows. Assumes nothing.
use Rattle.multilevel.specs.Causes.{work_need}
use borrow.Author.Rules.{rules}
use Rattle.multilevel.proofs.causes.work_need.Goals as goal

pub returns : goal.returns
unfolding work_need
returns c = search rules
