-- The loads of the ranks in the work slice: adding them up, and what a vertex that changes its rank does to them. Assumes nothing.
use Prim.Native.Nat.{ℕ, ◌+◌, ◌≤◌, ◌<◌, ◌^◌}
use mathlib.Core.Path.{◌≡◌, refl}
use mathlib.Core.Bool.{cond}
use mathlib.Core.List.{List}
use native.Mathlib.Omega.{arith}
use lib.ListN.{length, set, drop}
use lib.Seq.{get_or-set_same, get_or-set_other}
use lib.Dec.{eqb}
use borrow.Author.Tests.{eq-eqb, eqb-true, eqb-false}
use Rattle.links.specs.Lists.{at}
use Rattle.links.specs.Parts.{Kept}
use Rattle.links.specs.Graph.{load}
use Rattle.links.proofs.ListLaws.{split}
use Rattle.links.proofs.PartLaws.{kept_set}
use Rattle.stages.specs.Level.{weights_at, owners_at, Ready}
use Rattle.stages.specs.declared.level.HierarchyLevel.{HierarchyLevel}
use Rattle.stages.specs.MovesCode.{Roomed, Loaded}
use Rattle.stages.proofs.LoadSetLaws.{load-next, load-end, load-sum}
use Rattle.stages.proofs.LevelLaws.{length-weights, length-owners, weights-kept, owners-kept, ready-kept, ready_by, beneath}

-- added up as far as vertex v: with what is left, the loads
pub record WeighTo (w₀ w : List ℕ) (l : HierarchyLevel) (loads ranks v : ℕ) : Type 0 where
  pub kept : Kept loads (loads + ranks) w w₀
  pub sums : (r : ℕ) → r < ranks → at w (loads + r) + load (drop v (weights_at w₀ l)) (drop v (owners_at w₀ l)) r ≡ load (weights_at w₀ l)
      (owners_at w₀ l) r

module _ {w₀ : List ℕ} {l : HierarchyLevel} {loads ranks : ℕ} (t : Roomed w₀ l loads ranks) where
  abbrev ws : List ℕ
  ws = weights_at w₀ l

  abbrev os : List ℕ
  os = owners_at w₀ l

  below : l.owners ≤ loads
  below = omega (arith, t.ready.laid)

  pub weigh-asks : {w : List ℕ} → Kept loads (loads + ranks) w w₀ → Ready w l (length w)
  weigh-asks {w} k = ready_by (length w) (ready-kept t.ready k (beneath t.ready below)) (omega (arith, t.room, k.same_length)) (omega arith)

  module _ {w : List ℕ} {v : ℕ} (d : WeighTo w₀ w l loads ranks v) (h : v < l.vertices) (r : ℕ) (e : r ≡ at (owners_at w l) v) where
    rank_is : r ≡ at os v
    rank_is = rw (owners-kept t.ready d.kept (omega arith)) at e

    pub rank-in : r < ranks
    rank-in = rw rank_is (t.ranked v h)

    module _ (x : ℕ) (f : x ≡ at (weights_at w l) v) where
      weight_is : x ≡ at ws v
      weight_is = rw (weights-kept t.ready d.kept (beneath t.ready below)) at f

      next : (s : ℕ) → load (drop v ws) (drop v os) s ≡ cond (eqb r s) x 0 + load (drop (v + 1) ws) (drop (v + 1) os) s
      next s = rw (rank_is, weight_is) (load-next ws os s v (omega (arith, length-owners t.ready)) (omega (arith, length-weights t.ready)))

      pub weigh-fits : at w (loads + r) + x < 2 ^ 31
      weigh-fits =
          let n : load (drop v ws) (drop v os) r ≡ x + load (drop (v + 1) ws) (drop (v + 1) os) r = rw (eq-eqb r r refl) at (next r) in
          omega (arith, d.sums r rank-in, load-sum ws os r, t.ready.light)

      pub weigh-turn : (w' : List ℕ) → w' ≡ set w (loads + r) (at w (loads + r) + x) → WeighTo w₀ w' l loads ranks (v + 1)
      weigh-turn w' g = record {
        kept = rw g (kept_set loads (loads + ranks) w w₀ (loads + r) (at w (loads + r) + x) d.kept (omega arith) (omega (arith, rank-in)));
        sums = λ s m.
            let n = next s in
            split (eqb r s)
            (λ p.
            let q : r ≡ s = eqb-true r s p in
            let z : at (set w (loads + r) (at w (loads + r) + x)) (loads + s) ≡ at w (loads + s) + x = rw (← q)
            (get_or-set_same w (loads + r) (at w (loads + r) + x) 0 (omega (arith, t.room, d.kept.same_length, rank-in))) in
            rw g (omega (arith, d.sums s m, rw p at n)))
            (λ p.
            let q = eqb-false r s p in
            let z : at (set w (loads + r) (at w (loads + r) + x)) (loads + s) ≡ at w (loads + s) = get_or-set_other w (loads + r) (loads + s)
            (at w (loads + r) + x) 0 (λ y. q (omega arith)) in
            rw g (omega (arith, d.sums s m, rw p at n)));
      }

  pub weigh-end : {w : List ℕ} → WeighTo w₀ w l loads ranks l.vertices → Loaded w l loads ranks × Kept loads (loads + ranks) w w₀
  weigh-end {w} d = (
    λ r h. rw (weights-kept t.ready d.kept (beneath t.ready below), owners-kept t.ready d.kept (omega arith))
        (omega (arith, d.sums r h, load-end ws os r l.vertices (omega (arith, length-weights t.ready)))),
    d.kept,
  )
