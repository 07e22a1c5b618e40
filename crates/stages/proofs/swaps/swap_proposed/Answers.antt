-- All products make the proposals of the two ranks. Assumes nothing.
use mathlib.Core.Path.{subst}
use native.Mathlib.Omega.{arith}
use Rattle.stages.specs.SwapsCode.{Taken}
use Rattle.stages.proofs.SwapPassLaws.{fore-within, back-within, made, named}
use Rattle.stages.proofs.swaps.swap_proposed.Goals as goal

pub propose_all-requires : goal.propose_all-requires
propose_all-requires c =
    let p = c.requires in
    let g = p.0.given in
    let f = p.1.3 in
    (g, omega (arith, p.2, c.product_count-room.ensures.1), fore-within g f, back-within g f)

pub take_all-requires : goal.take_all-requires
take_all-requires c =
    let a = c.args in
    let p = c.requires in
    let g = p.0.given in
    let f = p.1.3 in
    let n = c.product_count-room in
    let x = c.propose_all in
    (p.0, omega (arith, x.auto, p.2, n.ensures.1), omega (arith, n.ensures.0), named g f _ (made g f n.result a.list.now x.new.list (omega (arith, n.ensures.1)) p.3 x.ensures))

pub returns : goal.returns
returns c =
    let a = c.args in
    let p = c.requires in
    let g = p.0.given in
    let n = c.product_count-room in
    let x = c.propose_all in
    let t = c.take_all in (
      omega (arith, t.ensures.0, n.ensures.0),
      λ owners i j f. subst (Taken a.work.now t.new.work a.s t.result) (made g f n.result a.list.now x.new.list (omega (arith, n.ensures.1)) p.3 x.ensures) t.ensures.1,
    )
