use Prim.Native.Nat.{ℕ, ◌+◌, ◌-◌, max}
use mathlib.Core.Path.{◌≡◌, sym, ◌∙◌}
use borrow.Author.Rules.{rules}
use native.Mathlib.Nat.{sub-zero}
use borrow.Author.Tests.{lt-ltb, le-ltb}
use Rattle.links.specs.Lists.{at}
use Rattle.stages.specs.Level.{offsets_at}
use Rattle.stages.specs.CoarsenParts.{top_below}
use Rattle.stages.proofs.LevelLaws.{count-vertices, degree-is}
use Rattle.stages.proofs.CoarsenOrderLaws.{raised-more}
use Rattle.stages.proofs.level.HierarchyLevel.top_below.Goals as goal
use Rattle.stages.proofs.level.HierarchyLevel.top_below.Goals.{then-d-b, else-d-b}

pub loop-v-init : goal.loop-v-init
unfolding top_below
loop-v-init c = rw (sub-zero, count-vertices c.requires)

pub loop-v-preserved : goal.loop-v-preserved
loop-v-preserved c =
    let a = c.args in
    let L = c.loop-v in
    let O = offsets_at a.work.now a.self in
    let D : ℕ → ℕ = λ u. at O (u + 1) - at O u in
    let e = c.degree-d.ensures ∙ degree-is c.requires L.v c.loop-v-test.true in
    let r = sym (raised-more D a.b L.above L.v a.self.vertices c.loop-v-test.true) ∙ L.invariant in
    elim c.if-d-b.branch [
      | then-d-b w ↦
          let q = lt-ltb (D L.v) a.b (rw e at w.if-d-b.true) in
          let m : w.max-above.result ≡ max L.above (c.degree-d.result + 1) = search rules in
          rw (w.above-is, m, e) (rw q at r)
      | else-d-b w ↦ let q = le-ltb (D L.v) a.b (rw e at w.if-d-b.false) in rw w.above-is (rw q at r)
    ]
