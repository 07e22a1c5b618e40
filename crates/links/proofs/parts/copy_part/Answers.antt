-- What comes back is as much of the part as there is, with src over it. Assumes nothing.
use Prim.Native.Nat.{ℕ}
use mathlib.Core.Path.{ap, ◌∙◌}
use mathlib.Core.List.{List}
use native.Mathlib.Omega.{arith}
use Rattle.links.specs.Parts.{part, put_back, copied, copied_part}
use Rattle.links.proofs.PartLaws.{clip, clip-none, copied_none}
use Rattle.links.proofs.parts.copy_part.Goals as goal

pub returns-then-a-end : goal.returns-then-a-end
unfolding copied_part
returns-then-a-end c =
    let a = c.args in
    let w = a.work.now in
    let s = a.src.now in
    let e = c.min-end.result in
    ap (put_back w a.a e) c.copy_into.ensures
    ∙ ap (λ (t : ℕ). put_back w a.a t (copied (part w a.a t) s)) c.min-end.ensures
    ∙ clip w a.a a.e (λ (t : List ℕ). copied t s)

pub returns-else-a-end : goal.returns-else-a-end
unfolding copied_part
returns-else-a-end c =
    let a = c.args in clip-none a.work.now a.a a.e (λ (t : List ℕ). copied t a.src.now) (copied_none a.src.now) (omega (arith, c.min-end.ensures))
