-- A visit out or a visit in, as the definition's test has it. Assumes nothing.
use Rattle.std.proofs.Common.{sym, ◌∙◌, arith}
use Rattle.visits.proofs.SweepLaws.{step-out, step_in}
use Rattle.visits.proofs.crane.step.Goals as goal

pub returns-then-from : goal.returns-then-from
returns-then-from c = c.visit_out.ensures ∙ sym (step-out c.args.w c.args.days.now c.args.s (omega arith))

pub returns-else-from : goal.returns-else-from
returns-else-from c = c.visit_in.ensures ∙ sym (step_in c.args.w c.args.days.now c.args.s (omega arith))
