-- What comes back is as much of the part as there is, filled. Assumes nothing.
use Prim.Native.Nat.{ℕ}
use mathlib.Core.Path.{refl, ap, ◌∙◌}
use mathlib.Core.List.{List}
use native.Mathlib.Omega.{arith}
use lib.ListN.{length, replicate}
use Rattle.links.specs.Parts.{part, put_back, filled_part}
use Rattle.links.proofs.PartLaws.{clip, clip-none}
use Rattle.links.proofs.parts.fill_part.Goals as goal

pub returns-then-a-end : goal.returns-then-a-end
unfolding filled_part
returns-then-a-end c =
    let a = c.args in
    let w = a.work.now in
    let e = c.min-end.result in
    ap (put_back w a.a e) c.fill.ensures
    ∙ ap (λ (t : ℕ). put_back w a.a t (replicate (length (part w a.a t)) a.x)) c.min-end.ensures
    ∙ clip w a.a a.e (λ (t : List ℕ). replicate (length t) a.x)

pub returns-else-a-end : goal.returns-else-a-end
unfolding filled_part
returns-else-a-end c =
    let a = c.args in clip-none a.work.now a.a a.e (λ (t : List ℕ). replicate (length t) a.x) refl (omega (arith, c.min-end.ensures))
