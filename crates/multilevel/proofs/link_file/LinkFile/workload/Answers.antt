-- The number at a place that is in the longer file, or 1. Assumes nothing.
use Rattle.std.proofs.Common.{sym, ◌∙◌, arith}
use Rattle.multilevel.proofs.FileWorkloadLaws.{workload-one, workload-carried, workload-within}
use Rattle.multilevel.proofs.link_file.LinkFile.workload.Goals as goal

pub returns-then-self : goal.returns-then-self
returns-then-self c = let f = c.args.self in workload-one f.bytes.now f.links c.args.v f.sized.links c.requires.1 c.if-self.true

pub overflow_add-self-else-self-2 : goal.overflow_add-self-else-self-2
overflow_add-self-else-self-2 c =
    let f = c.args.self in
    omega (arith, workload-within f.bytes.now f.links c.args.v f.sized.links c.requires.1 c.if-self.false c.requires.0, c.well_formed)

pub number_at-requires : goal.number_at-requires
number_at-requires c =
    let f = c.args.self in
    omega (arith, workload-within f.bytes.now f.links c.args.v f.sized.links c.requires.1 c.if-self.false c.requires.0)

pub returns-else-self : goal.returns-else-self
returns-else-self c =
    let f = c.args.self in
    c.number_at.ensures ∙ sym (workload-carried f.bytes.now f.links c.args.v f.sized.links c.requires.1 c.if-self.false)
