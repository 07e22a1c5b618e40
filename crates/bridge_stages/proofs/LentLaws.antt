-- Laws of a lent level: what the causes leave, what copying it leaves, and that the stages can work on it. Assumes nothing.
use Prim.Native.Nat.{ℕ, ◌+◌, ◌≤◌, ◌<◌, ◌^◌}
use mathlib.Core.Path.{◌≡◌, refl, ◌∙◌}
use mathlib.Core.Bool.{Bool, true, false, not, ◌||◌, cond}
use mathlib.Core.List.{List}
use native.Mathlib.Omega.{arith}
use lib.ListN.{length}
use lib.Dec.{leb, ltb, eqb}
use borrow.Author.Tests.{eqb-true, ltb-false, leb-false}
use Rattle.links.specs.Lists.{at, sum}
use Rattle.links.specs.Parts.{part, copied_part, Kept}
use Rattle.links.specs.Graph.{vertex_count, bad_lists, SoundLists}
use Rattle.links.specs.Owners.{stray_owner}
use Rattle.links.proofs.ListLaws.{or_l, or_r}
use Rattle.links.proofs.PartLaws.{kept-part-before, copied-kept, copied-part}
use Rattle.links.proofs.SoundLaws.{sound-lists}
use Rattle.links.proofs.OwnerLaws.{all-below}
use Rattle.stages.specs.declared.level.HierarchyLevel.{HierarchyLevel}
use Rattle.bridge_stages.specs.declared.lent.Place.{Place}
use Rattle.bridge_stages.specs.Lent.{Lent, place_of, need_of, over_limits, misfit, lent_cause, Limited, LevelFits, LevelLaid, LevelIn}

-- ---- what the causes leave

pub record Passed (s : Lent) (work : ℕ) : Type 0 where
  pub limits : Limited (vertex_count s.offsets) (length s.neighbors) s.ranks
  pub light : sum s.weights < 2 ^ 31
  pub lists : SoundLists s.offsets s.neighbors
  pub a-weight : length s.weights ≡ vertex_count s.offsets
  pub an-owner : length s.owners ≡ vertex_count s.offsets
  pub room : need_of s ≤ work
  pub ranked : (i : ℕ) → i < length s.owners → at s.owners i < s.ranks

first-none : (a b c d : Bool) → ◌≡◌ {A = ℕ} (cond a 3 (cond b 4 (cond c 5 (cond d 12 0)))) 0 → (a ≡ false) × (b ≡ false) × (c ≡ false) × (d ≡ false)
first-none true b c d e = absurd (omega arith)
first-none false true c d e = absurd (omega arith)
first-none false false true d e = absurd (omega arith)
first-none false false false true e = absurd (omega arith)
first-none false false false false e = (refl, refl, refl, refl)

same : (a b : ℕ) → not (eqb a b) ≡ false → a ≡ b
same a b e = eqb-true a b (yes (eqb a b) e)
  where
    yes : (x : Bool) → not x ≡ false → x ≡ true
    yes true f = refl
    yes false f = let z : ◌≡◌ {A = ℕ} 0 1 = cc in absurd (omega arith)

module _ (s : Lent) where
  pub limited : over_limits s ≡ false → Limited (vertex_count s.offsets) (length s.neighbors) s.ranks × (sum s.weights < 2 ^ 31)
  unfolding over_limits
  limited e =
      let b1 : Bool = ltb 16384 (vertex_count s.offsets) in
      let b2 : Bool = ltb 131072 (length s.neighbors) in
      let b3 : Bool = ltb 256 s.ranks in
      let b4 : Bool = leb (2 ^ 31) (sum s.weights) in
      let e3 : b1 || b2 || b3 ≡ false = or_l (b1 || b2 || b3) b4 e in
      let e2 : b1 || b2 ≡ false = or_l (b1 || b2) b3 e3 in (
        record {
          few-vertices = ltb-false 16384 (vertex_count s.offsets) (or_l b1 b2 e2);
          few-entries = ltb-false 131072 (length s.neighbors) (or_r b1 b2 e2);
          few-ranks = ltb-false 256 s.ranks (or_r (b1 || b2) b3 e3);
        },
        leb-false (2 ^ 31) (sum s.weights) (or_r (b1 || b2 || b3) b4 e),
      )

  pub passed : (work : ℕ) → lent_cause s work ≡ 0 → Passed s work
  unfolding lent_cause misfit
  passed work e =
      let n = vertex_count s.offsets in
      let c1 : Bool = not (eqb (length s.weights) n) in
      let c2 : Bool = not (eqb (length s.owners) n) in
      let c3 : Bool = ltb work (need_of s) in
      let z = first-none (over_limits s) (bad_lists s.offsets s.neighbors) (misfit s work) (stray_owner s.ranks s.owners) e in
      let e2 : c1 || c2 ≡ false = or_l (c1 || c2) c3 z.2 in
      record {
        limits = (limited z.0).0;
        light = (limited z.0).1;
        lists = sound-lists s.offsets s.neighbors z.1;
        a-weight = same (length s.weights) n (or_l c1 c2 e2);
        an-owner = same (length s.owners) n (or_r c1 c2 e2);
        room = ltb-false work (need_of s) (or_r (c1 || c2) c3 z.2);
        ranked = all-below s.ranks s.owners z.3;
      }

-- ---- what copying leaves

pub level-laid
    : (w w₁ w₂ w₃ w₄ : List ℕ) (l : HierarchyLevel) (offsets neighbors weights owners : List ℕ)
    → LevelFits w l offsets neighbors weights owners
    → w₁ ≡ copied_part w l.offsets (l.offsets + (l.vertices + 1)) offsets
    → w₂ ≡ copied_part w₁ l.neighbors (l.neighbors + l.entries) neighbors
    → w₃ ≡ copied_part w₂ l.weights (l.weights + l.vertices) weights
    → w₄ ≡ copied_part w₃ l.owners (l.owners + l.vertices) owners
    → LevelLaid w w₄ l offsets neighbors weights owners
level-laid w w₁ w₂ w₃ w₄ l offsets neighbors weights owners f e₁ e₂ e₃ e₄ =
    let d = f.parts in
    let n = l.vertices in
    let o = l.offsets in
    let b = l.neighbors in
    let g = l.weights in
    let q = l.owners in
    let f₁ : o + (n + 1) ≤ length w = omega (arith, d.offsets-in, d.neighbors-in, d.weights-in, d.map-in, d.owners-in) in
    let k₁ : Kept o (o + (n + 1)) w₁ w = copied-kept w w₁ o (n + 1) offsets f₁ f.offsets-sized e₁ in
    let f₂ : b + l.entries ≤ length w₁ = omega (arith, k₁.same_length, d.neighbors-in, d.weights-in, d.map-in, d.owners-in) in
    let k₂ : Kept b (b + l.entries) w₂ w₁ = copied-kept w₁ w₂ b l.entries neighbors f₂ f.neighbors-sized e₂ in
    let f₃ : g + n ≤ length w₂ = omega (arith, k₁.same_length, k₂.same_length, d.weights-in, d.map-in, d.owners-in) in
    let k₃ : Kept g (g + n) w₃ w₂ = copied-kept w₂ w₃ g n weights f₃ f.weights-sized e₃ in
    let f₄ : q + n ≤ length w₃ = omega (arith, k₁.same_length, k₂.same_length, k₃.same_length, d.owners-in) in
    let k₄ : Kept q (q + n) w₄ w₃ = copied-kept w₃ w₄ q n owners f₄ f.owners-sized e₄ in
    let after₂ : (u v : ℕ) → v ≤ b → part w₂ u v ≡ part w₁ u v = kept-part-before b (b + l.entries) w₂ w₁ k₂ in
    let after₃ : (u v : ℕ) → v ≤ g → part w₃ u v ≡ part w₂ u v = kept-part-before g (g + n) w₃ w₂ k₃ in
    let after₄ : (u v : ℕ) → v ≤ q → part w₄ u v ≡ part w₃ u v = kept-part-before q (q + n) w₄ w₃ k₄ in
    record {
      offsets-laid =
          after₄ o (o + (n + 1)) (omega (arith, d.offsets-in, d.neighbors-in, d.weights-in, d.map-in))
          ∙ after₃ o (o + (n + 1)) (omega (arith, d.offsets-in, d.neighbors-in))
          ∙ after₂ o (o + (n + 1)) d.offsets-in
          ∙ copied-part w w₁ o (n + 1) offsets f₁ f.offsets-sized e₁;
      neighbors-laid =
          after₄ b (b + l.entries) (omega (arith, d.neighbors-in, d.weights-in, d.map-in)) ∙ after₃ b (b + l.entries) d.neighbors-in ∙ copied-part w₁ w₂ b l.entries neighbors f₂ f.neighbors-sized e₂;
      weights-laid = after₄ g (g + n) (omega (arith, d.weights-in, d.map-in)) ∙ copied-part w₂ w₃ g n weights f₃ f.weights-sized e₃;
      owners-laid = copied-part w₃ w₄ q n owners f₄ f.owners-sized e₄;
      same_length = k₄.same_length ∙ k₃.same_length ∙ k₂.same_length ∙ k₁.same_length;
    }

-- ---- the level in the work slice

module _ (s : Lent) (w : List ℕ) (cause : lent_cause s (length w) ≡ 0) (p : Place) (here : p ≡ place_of s) where
  pub level-fits : LevelFits w p.level s.offsets s.neighbors s.weights s.owners
  level-fits =
      let q = passed s (length w) cause in
      rw here
      (record {
        parts =
            record {
              offsets-in = omega arith;
              neighbors-in = omega arith;
              weights-in = omega arith;
              map-in = omega arith;
              owners-in = omega (arith, q.room);
            };
        offsets-sized = omega (arith, q.lists.some);
        neighbors-sized = refl;
        weights-sized = q.a-weight;
        owners-sized = q.an-owner;
      })

  pub level_in : (w' : List ℕ) → LevelLaid w w' p.level s.offsets s.neighbors s.weights s.owners → LevelIn s w'
  level_in w' r =
      let q = passed s (length w) cause in
      let t : LevelLaid w w' (place_of s).level s.offsets s.neighbors s.weights s.owners = rw here at r in
      record {
        limits = q.limits;
        room = omega (arith, q.room, t.same_length);
        ready =
            record {
              laid =
                  record {
                    offsets-in = omega arith;
                    neighbors-in = omega arith;
                    weights-in = omega arith;
                    map-in = omega arith;
                    owners-in = omega arith;
                  };
              inside = omega (arith, q.room, t.same_length);
              lists = rw (t.offsets-laid, t.neighbors-laid) q.lists;
              few = q.limits.few-vertices;
              short = q.limits.few-entries;
              light = rw t.weights-laid q.light;
            };
        ranked = λ v h. rw t.owners-laid (q.ranked v (omega (arith, q.an-owner)));
        offsets_are = t.offsets-laid;
        neighbors-are = t.neighbors-laid;
        weights-are = t.weights-laid;
        owners-are = t.owners-laid;
      }
