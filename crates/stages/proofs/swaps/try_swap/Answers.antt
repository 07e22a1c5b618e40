-- A proposal that applies is taken, another passed over. Assumes nothing.
use mathlib.Core.Path.{sym, ◌∙◌}
use native.Mathlib.Omega.{arith}
use Rattle.stages.specs.Slots.{proposal}
use Rattle.stages.proofs.SwapStepLaws.{taken-skip, taken-swap}
use Rattle.stages.proofs.swaps.try_swap.Goals as goal

pub returns-then-applies : goal.returns-then-applies
returns-then-applies c =
    let a = c.args in
    (omega arith, λ g. taken-swap (proposal g a.u a.v) c.swap.new.work (λ used m. sym c.if-applies.true ∙ c.applies.ensures used m) c.swap.ensures)

pub returns-else-applies : goal.returns-else-applies
returns-else-applies c =
    let a = c.args in
    (omega arith, λ g. taken-skip (proposal g a.u a.v) c.requires.0 (λ used m. sym c.if-applies.false ∙ c.applies.ensures used m))
