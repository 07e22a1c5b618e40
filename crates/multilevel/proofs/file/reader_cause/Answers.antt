-- The file's refusal first, then the three lengths. Assumes nothing.
use Rattle.std.proofs.Common.{sym, ◌∙◌, arith}
use Rattle.links.proofs.RefusalLaws.{passed-on, refusal-some}
use Rattle.multilevel.proofs.FileLaws.{accepted}
use Rattle.multilevel.proofs.FileReadLaws.{cause-file, cause-offsets, cause-neighbors, cause-workloads, cause-none}
use Rattle.multilevel.proofs.file.reader_cause.Goals as goal
use Rattle.multilevel.proofs.file.reader_cause.Goals.{then-offsets-n-via-then-offsets-n, then-offsets-n-via-else-offsets-n+then-neighbors-links, then-offsets-n-via-else-offsets-n+else-neighbors-links+then-workloads-n}

pub returns-in_err-link_file_cause : goal.returns-in_err-link_file_cause
returns-in_err-link_file_cause c =
    let a = c.args in
    passed-on c.from_residual.result _ c.from_residual.ensures.1 ∙ cause-file a.bytes.now a.offsets a.neighbors a.workloads _ c.in_err-link_file_cause.ensures (refusal-some _)

pub number_at-n-requires : goal.number_at-n-requires
number_at-n-requires c = omega (arith, (accepted c.args.bytes.now (sym c.in_ok-link_file_cause.ensures)).long)

pub number_at-links-requires : goal.number_at-links-requires
number_at-links-requires c = omega (arith, (accepted c.args.bytes.now (sym c.in_ok-link_file_cause.ensures)).long)

pub returns-then-offsets-n : goal.returns-then-offsets-n
returns-then-offsets-n c =
    let a = c.args in
    let z = sym c.in_ok-link_file_cause.ensures in
    let n = c.number_at-n.ensures in
    let e = c.number_at-links.ensures in
    elim c.then-offsets-n.branch [
      | then-offsets-n-via-then-offsets-n w ↦ cause-offsets a.bytes.now a.offsets a.neighbors a.workloads z (omega (arith, n, w.if-offsets-n.true))
      | then-offsets-n-via-else-offsets-n+then-neighbors-links w ↦
          cause-neighbors a.bytes.now a.offsets a.neighbors a.workloads z (omega (arith, n, w.if-offsets-n.false)) (omega (arith, e, w.if-neighbors-links.true))
      | then-offsets-n-via-else-offsets-n+else-neighbors-links+then-workloads-n w ↦
          cause-workloads a.bytes.now a.offsets a.neighbors a.workloads z (omega (arith, n, w.if-offsets-n.false)) (omega (arith, e, w.if-neighbors-links.false)) (omega (arith, n, w.if-workloads-n.true))
    ]

pub returns : goal.returns
returns c =
    let a = c.args in
    cause-none a.bytes.now a.offsets a.neighbors a.workloads (sym c.in_ok-link_file_cause.ensures) (omega (arith, c.number_at-n.ensures)) (omega (arith, c.number_at-links.ensures)) (omega (arith, c.number_at-n.ensures))
