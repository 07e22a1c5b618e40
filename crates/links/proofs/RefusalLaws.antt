-- Laws of refusals and of answers that may be one. Assumes nothing.
use Prim.Native.Nat.{ℕ}
use mathlib.Core.Path.{◌≡◌, refl, sym, ap, ◌∙◌}
use native.Mathlib.Omega.{arith}
use Rattle.std.specs.Prelude.{cond, eqb, Result, Ok, Err}
use Rattle.std.specs.Result.{IsErrAnd}
use Rattle.links.specs.Refusals.{refusal_number, number_of}
use Rattle.links.specs.declared.refusal.Refusal.{Refusal}
use Rattle.links.specs.declared.refusal.Refusal.TheVariants as refusal

-- no refusal has the number 0
pub refusal-some : (e : Refusal) → refusal_number e ≡ 0 → ⊥
refusal-some refusal.InvalidOptions z = omega arith
refusal-some refusal.InvalidRankCount z = omega arith
refusal-some refusal.LimitPassed z = omega arith
refusal-some refusal.InvalidLists z = omega arith
refusal-some refusal.SliceTooShort z = omega arith
refusal-some refusal.GroupAboveCap z = omega arith
refusal-some refusal.FewerGroupsThanRanks z = omega arith
refusal-some refusal.GrowthStuck z = omega arith
refusal-some refusal.EmptyRank z = omega arith
refusal-some refusal.MalformedFile z = omega arith
refusal-some refusal.VertexOutOfRange z = omega arith
refusal-some refusal.RankOutOfRange z = omega arith
refusal-some refusal.InvalidWorkloads z = omega arith
refusal-some refusal.LoneVertex z = omega arith
refusal-some refusal.InvalidSwaps z = omega arith
refusal-some refusal.OwnersNotOnePerVertex z = omega arith
refusal-some refusal.InvalidWindows z = omega arith
refusal-some refusal.TooFewDays z = omega arith
refusal-some refusal.InvalidVisits z = omega arith
refusal-some refusal.InvalidSizes z = omega arith

-- a refusal that `?` passes on has the number that it had
pub passed-on : {T : Type 0} (r : Result T Refusal) (e : Refusal) → IsErrAnd r (λ y. y ≡ e) → number_of r ≡ refusal_number e
passed-on (Ok x) e h = absurd h
passed-on (Err x) e h = ap refusal_number h

-- the refusal that has a number; the last one, where none has
abbrev refusal_with : ℕ → Refusal
refusal_with n =
    cond (eqb n 1) refusal.InvalidOptions (
    cond (eqb n 2) refusal.InvalidRankCount (
    cond (eqb n 3) refusal.LimitPassed (
    cond (eqb n 4) refusal.InvalidLists (
    cond (eqb n 5) refusal.SliceTooShort (
    cond (eqb n 6) refusal.GroupAboveCap (
    cond (eqb n 7) refusal.FewerGroupsThanRanks (
    cond (eqb n 8) refusal.GrowthStuck (
    cond (eqb n 9) refusal.EmptyRank (
    cond (eqb n 10) refusal.MalformedFile (
    cond (eqb n 11) refusal.VertexOutOfRange (
    cond (eqb n 12) refusal.RankOutOfRange (
    cond (eqb n 13) refusal.InvalidWorkloads (
    cond (eqb n 14) refusal.LoneVertex (
    cond (eqb n 17) refusal.InvalidSwaps (
    cond (eqb n 18) refusal.OwnersNotOnePerVertex (
    cond (eqb n 19) refusal.InvalidWindows (
    cond (eqb n 20) refusal.TooFewDays (
    cond (eqb n 21) refusal.InvalidVisits (
    refusal.InvalidSizes)))))))))))))))))))

with-number : (e : Refusal) → refusal_with (refusal_number e) ≡ e
with-number refusal.InvalidOptions = refl
with-number refusal.InvalidRankCount = refl
with-number refusal.LimitPassed = refl
with-number refusal.InvalidLists = refl
with-number refusal.SliceTooShort = refl
with-number refusal.GroupAboveCap = refl
with-number refusal.FewerGroupsThanRanks = refl
with-number refusal.GrowthStuck = refl
with-number refusal.EmptyRank = refl
with-number refusal.MalformedFile = refl
with-number refusal.VertexOutOfRange = refl
with-number refusal.RankOutOfRange = refl
with-number refusal.InvalidWorkloads = refl
with-number refusal.LoneVertex = refl
with-number refusal.InvalidSwaps = refl
with-number refusal.OwnersNotOnePerVertex = refl
with-number refusal.InvalidWindows = refl
with-number refusal.TooFewDays = refl
with-number refusal.InvalidVisits = refl
with-number refusal.InvalidSizes = refl

-- a number says which refusal it is
pub same-refusal : (a b : Refusal) → refusal_number a ≡ refusal_number b → a ≡ b
same-refusal a b h = sym (with-number a) ∙ ap refusal_with h ∙ with-number b

-- an answer with the number of a refusal is that refusal
pub refused-with : {T : Type 0} (r : Result T Refusal) (e : Refusal) → number_of r ≡ refusal_number e → r ≡ Err e
refused-with (Ok x) e h = absurd (refusal-some e (sym h))
refused-with (Err x) e h = ap Err (same-refusal x e h)
