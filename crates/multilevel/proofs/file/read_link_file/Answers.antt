-- A file that is accepted, and outputs that have room, or a refusal that writes nothing. Assumes nothing.
use Rattle.std.proofs.Common.{ap, sym, ◌∙◌, arith}
use Rattle.std.proofs.lemmas.Result.{err_from_is_err_and}
use Rattle.links.specs.Refusals.{refusal_number}
use Rattle.multilevel.specs.File.{sizes_of}
use Rattle.multilevel.specs.declared.file.Sizes.{Sizes}
use Rattle.multilevel.proofs.FileReadLaws.{roomy, read-bad, read_all}
use Rattle.multilevel.proofs.file.read_link_file.Goals as goal

pub returns-in_err-reader_cause : goal.returns-in_err-reader_cause
returns-in_err-reader_cause c =
    let a = c.args in
    let p = err_from_is_err_and c.from_residual.result c.from_residual.ensures.1 in
    read-bad a.bytes.now a.offsets.now a.neighbors.now a.workloads.now _ p.0 p.1 (ap refusal_number p.2 ∙ c.in_err-reader_cause.ensures)

pub sizes_of-sizes-requires : goal.sizes_of-sizes-requires
sizes_of-sizes-requires c = (roomy _ _ _ _ (sym c.in_ok-reader_cause.ensures)).file.long

pub invariant_of-file : goal.invariant_of-file
unfolding sizes_of
invariant_of-file c =
    let r = roomy _ _ _ _ (sym c.in_ok-reader_cause.ensures) in
    let links = ap (λ (s : Sizes). s.links) c.sizes_of-sizes.ensures in
    record { sized = rw links r.file.sized }

pub write_rows-requires : goal.write_rows-requires
unfolding sizes_of
write_rows-requires c =
    let r = roomy _ _ _ _ (sym c.in_ok-reader_cause.ensures) in
    let n = ap (λ (s : Sizes). s.vertices) c.sizes_of-sizes.ensures in
    let links = ap (λ (s : Sizes). s.links) c.sizes_of-sizes.ensures in
    (r.file.links, n, omega (arith, r.file.vertices, n), omega (arith, r.offsets, n), omega (arith, r.neighbors, links))

pub write_workloads-requires : goal.write_workloads-requires
unfolding sizes_of
write_workloads-requires c =
    let r = roomy _ _ _ _ (sym c.in_ok-reader_cause.ensures) in
    let n = ap (λ (s : Sizes). s.vertices) c.sizes_of-sizes.ensures in
    (r.file.whole, n, omega (arith, r.workloads, n))

pub returns : goal.returns
returns c =
    let a = c.args in
    rw c.sizes_of-sizes.ensures
    (read_all a.bytes.now a.offsets.now a.neighbors.now a.workloads.now (sym c.in_ok-reader_cause.ensures) _ _ c.write_rows.ensures _ c.write_workloads.ensures)
