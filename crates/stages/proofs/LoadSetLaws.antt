-- Laws of loads: what one vertex adds to its rank's load, a rank's share of the total, and the loads after one vertex changed its rank, or two theirs.
-- Assumes nothing.
use Prim.Native.Nat.{ℕ, zero, suc, ◌+◌, ◌-◌, ◌≤◌, ◌<◌}
use mathlib.Core.Path.{◌≡◌, refl, sym, ap, ◌∙◌}
use mathlib.Core.Bool.{cond}
use mathlib.Core.List.{List, [], ◌∷◌}
use native.Mathlib.Omega.{arith}
use native.Mathlib.Numerals.{add-one}
use lib.ListN.{length, set, length-set, drop, drop_of_length-le}
use lib.Seq.{get_or-set_same, get_or-set_other, drop-cons}
use lib.Dec.{eqb}
use borrow.Author.Tests.{eq-eqb, ne_eqb, eqb-true, eqb-false}
use Rattle.links.specs.Lists.{at, sum}
use Rattle.links.specs.Graph.{load}
use Rattle.links.proofs.ListLaws.{split}
use Rattle.stages.specs.Moves.{swap, after}

-- v goes over to rank t: the exact loads after it
pub load-set
    : (ws os : List ℕ) (v t r : ℕ)
    → v < length os
    → v < length ws
    → load ws (set os v t) r + cond (eqb (at os v) r) (at ws v) 0 ≡ load ws os r + cond (eqb t r) (at ws v) 0
unfolding load
load-set [] os v t r h k = absurd (omega arith)
load-set (w ∷ ws) [] v t r h k = absurd (omega arith)
load-set (w ∷ ws) (o ∷ os) zero t r h k = omega arith
load-set (w ∷ ws) (o ∷ os) (suc v) t r h k = omega (arith, load-set ws os v t r (omega arith) (omega arith))

-- a rank's load is part of the total
pub load-sum : (ws os : List ℕ) (r : ℕ) → load ws os r ≤ sum ws
unfolding load
load-sum [] os r = omega arith
load-sum (w ∷ ws) [] r = omega arith
load-sum (w ∷ ws) (o ∷ os) r = split (eqb o r) (λ p. rw p (omega (arith, load-sum ws os r))) (λ p. rw p (omega (arith, load-sum ws os r)))

-- a vertex's weight is part of its rank's load
pub load-holds : (ws os : List ℕ) (v : ℕ) → v < length os → at ws v ≤ load ws os (at os v)
unfolding load
load-holds [] os v h = omega arith
load-holds (w ∷ ws) [] v h = absurd (omega arith)
load-holds (w ∷ ws) (o ∷ os) zero h = rw (eq-eqb o o refl) (omega arith)
load-holds (w ∷ ws) (o ∷ os) (suc v) h = omega (arith, load-holds ws os v (omega arith))

-- and with another rank's load, of the total
pub load-joins : (ws os : List ℕ) (v r : ℕ) → v < length os → (at os v ≡ r → ⊥) → load ws os r + at ws v ≤ sum ws
unfolding load
load-joins [] os v r h d = omega arith
load-joins (w ∷ ws) [] v r h d = absurd (omega arith)
load-joins (w ∷ ws) (o ∷ os) zero r h d = split (eqb o r) (λ p. absurd (d (eqb-true o r p))) (λ p. rw p (omega (arith, load-sum ws os r)))
load-joins (w ∷ ws) (o ∷ os) (suc v) r h d =
    split (eqb o r) (λ p. rw p (omega (arith, load-joins ws os v r (omega arith) d)))
    (λ p. rw p (omega (arith, load-joins ws os v r (omega arith) d)))

-- a swap's loads: each rank gives what it had and takes what comes
pub load-swap
    : (ws os : List ℕ) (u v r : ℕ)
    → u < length os
    → v < length os
    → length ws ≡ length os
    → load ws (after os (swap u v)) r + cond (eqb (at os u) r) (at ws u) 0 + cond (eqb (at os v) r) (at ws v) 0
    ≡ load ws os r + cond (eqb (at os v) r) (at ws u) 0 + cond (eqb (at os u) r) (at ws v) 0
unfolding after
load-swap ws os u v r h k e =
    let b = at os v in
    let os₁ = set os u b in
    let l : length os₁ ≡ length os = length-set os u b in
    let d : at os₁ v ≡ b = split (eqb v u)
    (λ p. ap (at os₁) (eqb-true v u p) ∙ get_or-set_same os u b 0 h)
    (λ p. get_or-set_other os u v b 0 (eqb-false v u p)) in
    let q = rw d at (load-set ws os₁ v (at os u) r (omega arith) (omega arith)) in
    omega (arith, load-set ws os u b r h (omega arith), q)

-- of two ranks' vertices, the loads that a swap leaves
module _ (ws os : List ℕ) (u v : ℕ) (h : u < length os) (k : v < length os) (e : length ws ≡ length os) (d : at os u ≡ at os v → ⊥) where
  pub left-first : load ws (after os (swap u v)) (at os u) ≡ load ws os (at os u) - at ws u + at ws v
  left-first =
      let l = rw (eq-eqb (at os u) (at os u) refl, ne_eqb (at os v) (at os u) (λ q. d (sym q))) at (load-swap ws os u v (at os u) h k e) in
      omega (arith, l, load-holds ws os u h)

  pub left-second : load ws (after os (swap u v)) (at os v) ≡ load ws os (at os v) - at ws v + at ws u
  left-second =
      let l = rw (eq-eqb (at os v) (at os v) refl, ne_eqb (at os u) (at os v) d) at (load-swap ws os u v (at os v) h k e) in
      omega (arith, l, load-holds ws os v k)

-- ---- adding up, vertex by vertex: what is left from i on

pub load-next
    : (ws os : List ℕ) (r i : ℕ)
    → i < length os
    → i < length ws
    → load (drop i ws) (drop i os) r ≡ cond (eqb (at os i) r) (at ws i) 0 + load (drop (i + 1) ws) (drop (i + 1) os) r
unfolding load
load-next ws os r i h k = rw (add-one, drop-cons ws i 0, drop-cons os i 0)

pub load-end : (ws os : List ℕ) (r i : ℕ) → length ws ≤ i → load (drop i ws) (drop i os) r ≡ 0
unfolding load
load-end ws os r i h = rw (drop_of_length-le ws h)
