use Prim.Native.Nat.{◌-◌}
use mathlib.Core.Path.{◌≡◌, refl}
use Rattle.std.proofs.Common.{◌∙◌, sym, arith}
use Rattle.multilevel.proofs.FileLaws.{lone-few, lone-found, lone-next, lone-none}
use Rattle.multilevel.proofs.link_file.LinkFile.has_lone.Goals as goal

pub returns-then-n-lt-LINKED_FROM : goal.returns-then-n-lt-LINKED_FROM
returns-then-n-lt-LINKED_FROM c = lone-few c.args.self.bytes.now c.vertices-n.result c.vertices-n.ensures (omega arith)

pub loop-v-init : goal.loop-v-init
loop-v-init c =
    let n = c.vertices-n.result in
    let z : n - n ≡ 0 = omega arith in
    rw z refl

pub returns-then-is_lone : goal.returns-then-is_lone
returns-then-is_lone c =
    lone-found c.args.self.bytes.now c.vertices-n.result c.vertices-n.ensures (omega arith) (c.loop-v.v - 1)
    (omega (arith, c.loop-v.auto.v, c.loop-v-test.true)) (sym c.is_lone.ensures ∙ c.if-is_lone.true)

pub loop-v-preserved : goal.loop-v-preserved
loop-v-preserved c =
    lone-next c.args.self.bytes.now c.vertices-n.result c.loop-v.v (omega (arith, c.loop-v-test.true)) (omega (arith, c.loop-v.auto.v))
    c.loop-v.invariant (sym c.is_lone.ensures ∙ c.if-is_lone.false)

pub returns : goal.returns
returns c =
    lone-none c.args.self.bytes.now c.vertices-n.result c.vertices-n.ensures (omega arith) c.loop-v.v (omega (arith, c.loop-v-test.false)) c.loop-v.invariant
