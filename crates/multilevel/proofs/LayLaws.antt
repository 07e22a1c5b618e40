-- Laws of the site's own lists in the work slice: what copying them leaves, a level that the stages can work on. Assumes nothing.
use Prim.Native.Nat.{ℕ, ◌+◌, ◌≤◌}
use mathlib.Core.Path.{◌≡◌, ◌∙◌}
use mathlib.Core.List.{List}
use native.Mathlib.Omega.{arith}
use lib.ListN.{length}
use Rattle.links.specs.Parts.{copied_part, Kept}
use Rattle.stages.specs.declared.level.HierarchyLevel.{HierarchyLevel}
use Rattle.links.proofs.PartLaws.{kept-part-before, kept_trans, kept-wide, copied-kept, copied-part}
use Rattle.multilevel.specs.Room.{SiteFits, SiteLaid}

pub site-laid
    : (w w₁ w₂ w₃ : List ℕ) (l : HierarchyLevel) (offsets neighbors workloads : List ℕ)
    → SiteFits w l offsets neighbors workloads
    → w₁ ≡ copied_part w l.offsets (l.offsets + (l.vertices + 1)) offsets
    → w₂ ≡ copied_part w₁ l.neighbors (l.neighbors + l.entries) neighbors
    → w₃ ≡ copied_part w₂ l.weights (l.weights + l.vertices) workloads
    → SiteLaid w w₃ l offsets neighbors workloads
site-laid w w₁ w₂ w₃ l offsets neighbors workloads s e₁ e₂ e₃ =
    let n = l.vertices in
    let o = l.offsets in
    let b = l.neighbors in
    let g = l.weights in
    let d = s.laid in
    let f₁ : o + (n + 1) ≤ length w = omega (arith, d.offsets-in, d.neighbors-in, d.weights-in, d.map-in, d.owners-in) in
    let k₁ : Kept o (o + (n + 1)) w₁ w = copied-kept w w₁ o (n + 1) offsets f₁ s.offsets-sized e₁ in
    let f₂ : b + l.entries ≤ length w₁ = omega (arith, k₁.same_length, d.neighbors-in, d.weights-in, d.map-in, d.owners-in) in
    let k₂ : Kept b (b + l.entries) w₂ w₁ = copied-kept w₁ w₂ b l.entries neighbors f₂ s.neighbors-sized e₂ in
    let f₃ : g + n ≤ length w₂ = omega (arith, k₁.same_length, k₂.same_length, d.weights-in, d.map-in, d.owners-in) in
    let k₃ : Kept g (g + n) w₃ w₂ = copied-kept w₂ w₃ g n workloads f₃ s.workloads-sized e₃ in
    record {
      offsets-laid =
          kept-part-before g (g + n) w₃ w₂ k₃ o (o + (n + 1)) (omega (arith, d.offsets-in, d.neighbors-in))
          ∙ kept-part-before b (b + l.entries) w₂ w₁ k₂ o (o + (n + 1)) d.offsets-in
          ∙ copied-part w w₁ o (n + 1) offsets f₁ s.offsets-sized e₁;
      neighbors-laid =
          kept-part-before g (g + n) w₃ w₂ k₃ b (b + l.entries) d.neighbors-in
          ∙ copied-part w₁ w₂ b l.entries neighbors f₂ s.neighbors-sized e₂;
      weights-laid = copied-part w₂ w₃ g n workloads f₃ s.workloads-sized e₃;
      frame =
          kept_trans o (g + n) w₃ w₂ w (kept-wide g (g + n) o (g + n) w₃ w₂ (omega (arith, d.offsets-in, d.neighbors-in)) (omega arith) k₃)
          (kept_trans o (g + n) w₂ w₁ w (kept-wide b (b + l.entries) o (g + n) w₂ w₁ (omega (arith, d.offsets-in)) (omega (arith, d.neighbors-in)) k₂)
          (kept-wide o (o + (n + 1)) o (g + n) w₁ w (omega arith) (omega (arith, d.offsets-in, d.neighbors-in)) k₁));
    }
