-- The tests in their order, each of which may rest on those before it. Assumes nothing.
use Rattle.std.proofs.Common.{true, false, sym, ◌∙◌}
use Rattle.multilevel.proofs.FileLaws.{file-short, file-over, file-length, file-sized, file-links, file-workloads, file-lone}
use Rattle.multilevel.proofs.file.link_file_cause.Goals as goal

pub returns-then-bytes-lt-HEAD_BYTES : goal.returns-then-bytes-lt-HEAD_BYTES
returns-then-bytes-lt-HEAD_BYTES c = file-short c.args.bytes.now c.if-bytes-lt-HEAD_BYTES.true

pub returns-then-over_limits : goal.returns-then-over_limits
returns-then-over_limits c = file-over c.args.bytes.now c.if-bytes-lt-HEAD_BYTES.false (sym c.if-over_limits.true ∙ c.over_limits.ensures)

pub returns-then-not-length_good : goal.returns-then-not-length_good
returns-then-not-length_good c =
    file-length c.args.bytes.now c.if-bytes-lt-HEAD_BYTES.false (sym c.if-over_limits.false ∙ c.over_limits.ensures) (sym c.if-not-length_good.true ∙ c.length_good.ensures)

pub invariant_of-file : goal.invariant_of-file
invariant_of-file c =
    record { sized = file-sized c.args.bytes.now c.if-bytes-lt-HEAD_BYTES.false (sym c.if-over_limits.false ∙ c.over_limits.ensures) (sym c.if-not-length_good.false ∙ c.length_good.ensures) _ c.number_at-links.ensures }

pub returns-then-not-links_good : goal.returns-then-not-links_good
returns-then-not-links_good c =
    file-links c.args.bytes.now c.if-bytes-lt-HEAD_BYTES.false (sym c.if-over_limits.false ∙ c.over_limits.ensures) (sym c.if-not-length_good.false ∙ c.length_good.ensures) (sym c.if-not-links_good.true ∙ c.links_good.ensures)

pub returns-then-workload_bad : goal.returns-then-workload_bad
returns-then-workload_bad c =
    file-workloads c.args.bytes.now c.if-bytes-lt-HEAD_BYTES.false (sym c.if-over_limits.false ∙ c.over_limits.ensures) (sym c.if-not-length_good.false ∙ c.length_good.ensures) (sym c.if-not-links_good.false ∙ c.links_good.ensures) (sym c.if-workload_bad.true ∙ c.workload_bad.ensures)

pub returns-then-has_lone : goal.returns-then-has_lone
returns-then-has_lone c =
    file-lone c.args.bytes.now c.if-bytes-lt-HEAD_BYTES.false (sym c.if-over_limits.false ∙ c.over_limits.ensures) (sym c.if-not-length_good.false ∙ c.length_good.ensures) (sym c.if-not-links_good.false ∙ c.links_good.ensures) (sym c.if-workload_bad.false ∙ c.workload_bad.ensures) true (sym c.if-has_lone.true ∙ c.has_lone.ensures)

pub returns : goal.returns
returns c =
    file-lone c.args.bytes.now c.if-bytes-lt-HEAD_BYTES.false (sym c.if-over_limits.false ∙ c.over_limits.ensures) (sym c.if-not-length_good.false ∙ c.length_good.ensures) (sym c.if-not-links_good.false ∙ c.links_good.ensures) (sym c.if-workload_bad.false ∙ c.workload_bad.ensures) false (sym c.if-has_lone.false ∙ c.has_lone.ensures)
