-- A copy over the front. Assumes nothing.
use native.Mathlib.Omega.{arith}
use mathlib.Core.Path.{◌≡◌, ◌∙◌}
use Prim.Native.Nat.{◌+◌, ◌-◌}
use Rattle.links.proofs.PartLaws.{length_part, copied_is}
use Rattle.links.specs.Parts.{part}
use Rattle.multilevel.proofs.writeback.write_owners.Goals as goal

pub returns : goal.returns
returns c =
    let a = c.args in
    let l = a.l in
    let n = length_part a.work.now l.owners (l.owners + l.vertices) (omega arith) c.requires.0 in
    let e : l.owners + l.vertices - l.owners ≡ l.vertices = omega arith in
    let t = part a.work.now l.owners (l.owners + l.vertices) in
    c.copy_into.ensures ∙ copied_is a.owners.now t (omega arith) ∙ rw (n, e)
