-- The memory of a growth in the work slice: a store in a region is a store in its list, and leaves the others. Assumes nothing.
use mathlib.Core.Path.{◌≡◌, refl, sym, ap, ap₂, ◌∙◌}
use mathlib.Core.List.{List}
use Prim.Native.Nat.{ℕ, ◌+◌, ◌≤◌, ◌<◌}
use native.Mathlib.Omega.{arith}
use lib.ListN.{length, set, length-set}
use lib.Seq.{get_or-set_other}
use Rattle.links.specs.Lists.{at}
use Rattle.links.specs.Parts.{part}
use Rattle.links.proofs.PartLaws.{get_or-part, length_part, part-agree, part-set-in, part-set-before, part-set-after}
use Rattle.stages.specs.FrontierCode.{Memory, memory, memory_in, weights_in, GrowthLaid, Outside, Stored, parked, begun, appended, owning}
use Rattle.stages.specs.declared.growth.GrowthRoom.{GrowthRoom}

abbrev put-owner : Memory → ℕ → ℕ → Memory
put-owner m i x = memory (set m.owners i x) m.links m.loads m.heads m.tails m.places m.counts

abbrev put-link : Memory → ℕ → ℕ → Memory
put-link m i x = memory m.owners (set m.links i x) m.loads m.heads m.tails m.places m.counts

abbrev put-load : Memory → ℕ → ℕ → Memory
put-load m i x = memory m.owners m.links (set m.loads i x) m.heads m.tails m.places m.counts

abbrev put-head : Memory → ℕ → ℕ → Memory
put-head m i x = memory m.owners m.links m.loads (set m.heads i x) m.tails m.places m.counts

abbrev put-tail : Memory → ℕ → ℕ → Memory
put-tail m i x = memory m.owners m.links m.loads m.heads (set m.tails i x) m.places m.counts

abbrev put-place : Memory → ℕ → ℕ → Memory
put-place m i x = memory m.owners m.links m.loads m.heads m.tails (set m.places i x) m.counts

abbrev put_count : Memory → ℕ → ℕ → Memory
put_count m i x = memory m.owners m.links m.loads m.heads m.tails m.places (set m.counts i x)

memory-eq
    : (a b c d e f g a' b' c' d' e' f' g' : List ℕ)
    → a ≡ a'
    → b ≡ b'
    → c ≡ c'
    → d ≡ d'
    → e ≡ e'
    → f ≡ f'
    → g ≡ g'
    → memory a b c d e f g ≡ memory a' b' c' d' e' f' g'
memory-eq a b c d e f g a' b' c' d' e' f' g' p q r s t u v = cc

-- ---- what is outside

pub outside_refl : (l : GrowthRoom) (w : List ℕ) → Outside l w w
outside_refl l w = record { same_length = refl; below = λ i h. refl; between = λ i h k. refl; beyond = λ i h. refl }

pub outside_trans : {l : GrowthRoom} {u v w : List ℕ} → Outside l u v → Outside l v w → Outside l u w
outside_trans a b = record {
  same_length = b.same_length ∙ a.same_length;
  below = λ i h. b.below i h ∙ a.below i h;
  between = λ i h k. b.between i h k ∙ a.between i h k;
  beyond = λ i h. b.beyond i h ∙ a.beyond i h;
}

-- a part below the owners is as it was
pub below-same : {l : GrowthRoom} {w w' : List ℕ} → Outside l w w' → (a e : ℕ) → e ≤ l.level.owners → part w' a e ≡ part w a e
below-same {l} {w} {w'} o a e h = part-agree w' w a e o.same_length (λ i p q. o.below i (omega arith))

-- and so is one between the owners and the links
pub between-same
    : {l : GrowthRoom} {w w' : List ℕ}
    → Outside l w w'
    → (a e : ℕ)
    → l.level.owners + l.level.vertices ≤ a
    → e ≤ l.links
    → part w' a e ≡ part w a e
between-same {l} {w} {w'} o a e h k = part-agree w' w a e o.same_length (λ i p q. o.between i (omega arith) (omega arith))

pub laid-after : {l : GrowthRoom} {w w' : List ℕ} → Outside l w w' → GrowthLaid l (length w) → GrowthLaid l (length w')
laid-after o h = rw o.same_length h

-- ---- stores

module _ (l : GrowthRoom) (w : List ℕ) (h : GrowthLaid l (length w)) where
  outside_set : (j x : ℕ) → l.links ≤ j → j < l.counts + l.ranks → Outside l w (set w j x)
  outside_set j x a b = record {
    same_length = length-set w j x;
    below = λ i p. get_or-set_other w j i x 0 (λ q. omega arith);
    between = λ i p k. get_or-set_other w j i x 0 (λ q. omega arith);
    beyond = λ i p. get_or-set_other w j i x 0 (λ q. omega arith);
  }

  outside-own : (i x : ℕ) → i < l.level.vertices → Outside l w (set w (l.level.owners + i) x)
  outside-own i x a = record {
    same_length = length-set w (l.level.owners + i) x;
    below = λ j p. get_or-set_other w (l.level.owners + i) j x 0 (λ q. omega arith);
    between = λ j p k. get_or-set_other w (l.level.owners + i) j x 0 (λ q. omega arith);
    beyond = λ j p. get_or-set_other w (l.level.owners + i) j x 0 (λ q. omega arith);
  }

  memory-owner : (i x : ℕ) → i < l.level.vertices → memory_in l (set w (l.level.owners + i) x) ≡ put-owner (memory_in l w) i x
  unfolding memory_in memory
  memory-owner i x q = memory-eq _ _ _ _ _ _ _ _ _ _ _ _ _ _
      (part-set-in w l.level.owners (l.level.owners + l.level.vertices) i x (omega arith) (omega arith) (omega arith))
      (part-set-before w l.links (l.links + l.level.vertices) (l.level.owners + i) x (omega arith))
      (part-set-before w l.loads (l.loads + l.ranks) (l.level.owners + i) x (omega arith))
      (part-set-before w l.heads (l.heads + l.ranks) (l.level.owners + i) x (omega arith))
      (part-set-before w l.tails (l.tails + l.ranks) (l.level.owners + i) x (omega arith))
      (part-set-before w l.places (l.places + l.ranks) (l.level.owners + i) x (omega arith))
      (part-set-before w l.counts (l.counts + l.ranks) (l.level.owners + i) x (omega arith))

  memory-link : (i x : ℕ) → i < l.level.vertices → memory_in l (set w (l.links + i) x) ≡ put-link (memory_in l w) i x
  unfolding memory_in memory
  memory-link i x q = memory-eq _ _ _ _ _ _ _ _ _ _ _ _ _ _
      (part-set-after w l.level.owners (l.level.owners + l.level.vertices) (l.links + i) x (omega arith))
      (part-set-in w l.links (l.links + l.level.vertices) i x (omega arith) (omega arith) (omega arith))
      (part-set-before w l.loads (l.loads + l.ranks) (l.links + i) x (omega arith))
      (part-set-before w l.heads (l.heads + l.ranks) (l.links + i) x (omega arith))
      (part-set-before w l.tails (l.tails + l.ranks) (l.links + i) x (omega arith))
      (part-set-before w l.places (l.places + l.ranks) (l.links + i) x (omega arith))
      (part-set-before w l.counts (l.counts + l.ranks) (l.links + i) x (omega arith))

  memory-load : (i x : ℕ) → i < l.ranks → memory_in l (set w (l.loads + i) x) ≡ put-load (memory_in l w) i x
  unfolding memory_in memory
  memory-load i x q = memory-eq _ _ _ _ _ _ _ _ _ _ _ _ _ _
      (part-set-after w l.level.owners (l.level.owners + l.level.vertices) (l.loads + i) x (omega arith))
      (part-set-after w l.links (l.links + l.level.vertices) (l.loads + i) x (omega arith))
      (part-set-in w l.loads (l.loads + l.ranks) i x (omega arith) (omega arith) (omega arith))
      (part-set-before w l.heads (l.heads + l.ranks) (l.loads + i) x (omega arith))
      (part-set-before w l.tails (l.tails + l.ranks) (l.loads + i) x (omega arith))
      (part-set-before w l.places (l.places + l.ranks) (l.loads + i) x (omega arith))
      (part-set-before w l.counts (l.counts + l.ranks) (l.loads + i) x (omega arith))

  memory-head : (i x : ℕ) → i < l.ranks → memory_in l (set w (l.heads + i) x) ≡ put-head (memory_in l w) i x
  unfolding memory_in memory
  memory-head i x q = memory-eq _ _ _ _ _ _ _ _ _ _ _ _ _ _
      (part-set-after w l.level.owners (l.level.owners + l.level.vertices) (l.heads + i) x (omega arith))
      (part-set-after w l.links (l.links + l.level.vertices) (l.heads + i) x (omega arith))
      (part-set-after w l.loads (l.loads + l.ranks) (l.heads + i) x (omega arith))
      (part-set-in w l.heads (l.heads + l.ranks) i x (omega arith) (omega arith) (omega arith))
      (part-set-before w l.tails (l.tails + l.ranks) (l.heads + i) x (omega arith))
      (part-set-before w l.places (l.places + l.ranks) (l.heads + i) x (omega arith))
      (part-set-before w l.counts (l.counts + l.ranks) (l.heads + i) x (omega arith))

  memory-tail : (i x : ℕ) → i < l.ranks → memory_in l (set w (l.tails + i) x) ≡ put-tail (memory_in l w) i x
  unfolding memory_in memory
  memory-tail i x q = memory-eq _ _ _ _ _ _ _ _ _ _ _ _ _ _
      (part-set-after w l.level.owners (l.level.owners + l.level.vertices) (l.tails + i) x (omega arith))
      (part-set-after w l.links (l.links + l.level.vertices) (l.tails + i) x (omega arith))
      (part-set-after w l.loads (l.loads + l.ranks) (l.tails + i) x (omega arith))
      (part-set-after w l.heads (l.heads + l.ranks) (l.tails + i) x (omega arith))
      (part-set-in w l.tails (l.tails + l.ranks) i x (omega arith) (omega arith) (omega arith))
      (part-set-before w l.places (l.places + l.ranks) (l.tails + i) x (omega arith))
      (part-set-before w l.counts (l.counts + l.ranks) (l.tails + i) x (omega arith))

  memory-place : (i x : ℕ) → i < l.ranks → memory_in l (set w (l.places + i) x) ≡ put-place (memory_in l w) i x
  unfolding memory_in memory
  memory-place i x q = memory-eq _ _ _ _ _ _ _ _ _ _ _ _ _ _
      (part-set-after w l.level.owners (l.level.owners + l.level.vertices) (l.places + i) x (omega arith))
      (part-set-after w l.links (l.links + l.level.vertices) (l.places + i) x (omega arith))
      (part-set-after w l.loads (l.loads + l.ranks) (l.places + i) x (omega arith))
      (part-set-after w l.heads (l.heads + l.ranks) (l.places + i) x (omega arith))
      (part-set-after w l.tails (l.tails + l.ranks) (l.places + i) x (omega arith))
      (part-set-in w l.places (l.places + l.ranks) i x (omega arith) (omega arith) (omega arith))
      (part-set-before w l.counts (l.counts + l.ranks) (l.places + i) x (omega arith))

  memory-count : (i x : ℕ) → i < l.ranks → memory_in l (set w (l.counts + i) x) ≡ put_count (memory_in l w) i x
  unfolding memory_in memory
  memory-count i x q = memory-eq _ _ _ _ _ _ _ _ _ _ _ _ _ _
      (part-set-after w l.level.owners (l.level.owners + l.level.vertices) (l.counts + i) x (omega arith))
      (part-set-after w l.links (l.links + l.level.vertices) (l.counts + i) x (omega arith))
      (part-set-after w l.loads (l.loads + l.ranks) (l.counts + i) x (omega arith))
      (part-set-after w l.heads (l.heads + l.ranks) (l.counts + i) x (omega arith))
      (part-set-after w l.tails (l.tails + l.ranks) (l.counts + i) x (omega arith))
      (part-set-after w l.places (l.places + l.ranks) (l.counts + i) x (omega arith))
      (part-set-in w l.counts (l.counts + l.ranks) i x (omega arith) (omega arith) (omega arith))

  store-owner : {w' : List ℕ} (i x : ℕ) → i < l.level.vertices → w' ≡ set w (l.level.owners + i) x → Stored l w w' (put-owner (memory_in l w) i x)
  store-owner i x q e = record { after = ap (memory_in l) e ∙ memory-owner i x q; outside = rw e (outside-own i x q) }

  store-link : {w' : List ℕ} (i x : ℕ) → i < l.level.vertices → w' ≡ set w (l.links + i) x → Stored l w w' (put-link (memory_in l w) i x)
  store-link i x q e = record { after = ap (memory_in l) e ∙ memory-link i x q; outside = rw e (outside_set (l.links + i) x (omega arith) (omega arith)) }

  store-load : {w' : List ℕ} (i x : ℕ) → i < l.ranks → w' ≡ set w (l.loads + i) x → Stored l w w' (put-load (memory_in l w) i x)
  store-load i x q e = record { after = ap (memory_in l) e ∙ memory-load i x q; outside = rw e (outside_set (l.loads + i) x (omega arith) (omega arith)) }

  store-head : {w' : List ℕ} (i x : ℕ) → i < l.ranks → w' ≡ set w (l.heads + i) x → Stored l w w' (put-head (memory_in l w) i x)
  store-head i x q e = record { after = ap (memory_in l) e ∙ memory-head i x q; outside = rw e (outside_set (l.heads + i) x (omega arith) (omega arith)) }

  store_tail : {w' : List ℕ} (i x : ℕ) → i < l.ranks → w' ≡ set w (l.tails + i) x → Stored l w w' (put-tail (memory_in l w) i x)
  store_tail i x q e = record { after = ap (memory_in l) e ∙ memory-tail i x q; outside = rw e (outside_set (l.tails + i) x (omega arith) (omega arith)) }

  store-place : {w' : List ℕ} (i x : ℕ) → i < l.ranks → w' ≡ set w (l.places + i) x → Stored l w w' (put-place (memory_in l w) i x)
  store-place i x q e = record { after = ap (memory_in l) e ∙ memory-place i x q; outside = rw e (outside_set (l.places + i) x (omega arith) (omega arith)) }

  store-count : {w' : List ℕ} (i x : ℕ) → i < l.ranks → w' ≡ set w (l.counts + i) x → Stored l w w' (put_count (memory_in l w) i x)
  store-count i x q e = record { after = ap (memory_in l) e ∙ memory-count i x q; outside = rw e (outside_set (l.counts + i) x (omega arith) (omega arith)) }

-- one store after another
stored-then
    : {l : GrowthRoom} {w w₁ w₂ : List ℕ} {m : Memory} (f : Memory → Memory)
    → Stored l w w₁ m
    → Stored l w₁ w₂ (f (memory_in l w₁))
    → Stored l w w₂ (f m)
stored-then f s t = record { after = t.after ∙ ap f s.after; outside = outside_trans s.outside t.outside }

module _ {l : GrowthRoom} {w : List ℕ} (h : GrowthLaid l (length w)) (r : ℕ) (q : r < l.ranks) where
  pub park-is
      : {w₁ w₂ w₃ : List ℕ} (a p n : ℕ)
      → w₁ ≡ set w (l.heads + r) a
      → w₂ ≡ set w₁ (l.places + r) p
      → w₃ ≡ set w₂ (l.counts + r) n
      → Stored l w w₃ (parked (memory_in l w) r a p n)
  unfolding parked memory
  park-is {w₁} {w₂} a p n e₁ e₂ e₃ =
      let s₁ = store-head l w h r a q e₁ in
      let h₁ = laid-after s₁.outside h in
      let s₂ = store-place l w₁ h₁ r p q e₂ in
      let h₂ = laid-after s₂.outside h₁ in
      let s₃ = store-count l w₂ h₂ r n q e₃ in
      stored-then (λ m. put_count m r n) (stored-then (λ m. put-place m r p) s₁ s₂) s₃

  pub begin-is
      : {w₁ w₂ w₃ w₄ : List ℕ} (g : ℕ)
      → w₁ ≡ set w (l.heads + r) g
      → w₂ ≡ set w₁ (l.tails + r) g
      → w₃ ≡ set w₂ (l.places + r) 0
      → w₄ ≡ set w₃ (l.counts + r) 1
      → Stored l w w₄ (begun (memory_in l w) r g)
  unfolding begun memory
  begin-is {w₁} {w₂} {w₃} g e₁ e₂ e₃ e₄ =
      let s₁ = store-head l w h r g q e₁ in
      let h₁ = laid-after s₁.outside h in
      let s₂ = store_tail l w₁ h₁ r g q e₂ in
      let h₂ = laid-after s₂.outside h₁ in
      let s₃ = store-place l w₂ h₂ r 0 q e₃ in
      let h₃ = laid-after s₃.outside h₂ in
      let s₄ = store-count l w₃ h₃ r 1 q e₄ in
      stored-then (λ m. put_count m r 1) (stored-then (λ m. put-place m r 0) (stored-then (λ m. put-tail m r g) s₁ s₂) s₃) s₄

  pub append-is
      : {w₁ w₂ w₃ : List ℕ} (t c g : ℕ)
      → t ≡ at (memory_in l w).tails r
      → t < l.level.vertices
      → c ≡ at (memory_in l w).counts r + 1
      → w₁ ≡ set w (l.links + t) g
      → w₂ ≡ set w₁ (l.tails + r) g
      → w₃ ≡ set w₂ (l.counts + r) c
      → Stored l w w₃ (appended (memory_in l w) r g)
  unfolding appended memory
  append-is {w₁} {w₂} t c g et b ec e₁ e₂ e₃ =
      let s₁ = store-link l w h t g b e₁ in
      let h₁ = laid-after s₁.outside h in
      let s₂ = store_tail l w₁ h₁ r g q e₂ in
      let h₂ = laid-after s₂.outside h₁ in
      let s₃ = store-count l w₂ h₂ r c q e₃ in
      let s = stored-then (λ m. put_count m r c) (stored-then (λ m. put-tail m r g) s₁ s₂) s₃ in
      let m = memory_in l w in
      let done : ℕ → ℕ → Memory =
      λ i j. memory m.owners (set m.links i g) m.loads m.heads (set m.tails r g) m.places (set m.counts r j) in
      record { after = s.after ∙ ap₂ done et ec; outside = s.outside }

  pub own_is
      : {w₁ w₂ : List ℕ} (g x z : ℕ)
      → g < l.level.vertices
      → z ≡ at (memory_in l w).loads r + x
      → w₁ ≡ set w (l.level.owners + g) r
      → w₂ ≡ set w₁ (l.loads + r) z
      → Stored l w w₂ (owning (memory_in l w) r g x)
  unfolding owning memory
  own_is {w₁} g x z b ez e₁ e₂ =
      let s₁ = store-owner l w h g r b e₁ in
      let s₂ = store-load l w₁ (laid-after s₁.outside h) r z q e₂ in
      let s = stored-then (λ m. put-load m r z) s₁ s₂ in
      let m = memory_in l w in
      let done : ℕ → Memory = λ i. memory (set m.owners g r) m.links (set m.loads r i) m.heads m.tails m.places m.counts in
      record { after = s.after ∙ ap done ez; outside = s.outside }

-- what the code reads
module _ {l : GrowthRoom} (w : List ℕ) (h : GrowthLaid l (length w)) (r : ℕ) (q : r < l.ranks) where
  pub read-load : at w (l.loads + r) ≡ at (memory_in l w).loads r
  unfolding memory_in memory
  read-load = sym (get_or-part w l.loads (l.loads + l.ranks) r (omega arith))

  pub read_head : at w (l.heads + r) ≡ at (memory_in l w).heads r
  unfolding memory_in memory
  read_head = sym (get_or-part w l.heads (l.heads + l.ranks) r (omega arith))

  pub read-tail : at w (l.tails + r) ≡ at (memory_in l w).tails r
  unfolding memory_in memory
  read-tail = sym (get_or-part w l.tails (l.tails + l.ranks) r (omega arith))

  pub read-place : at w (l.places + r) ≡ at (memory_in l w).places r
  unfolding memory_in memory
  read-place = sym (get_or-part w l.places (l.places + l.ranks) r (omega arith))

  pub read_count : at w (l.counts + r) ≡ at (memory_in l w).counts r
  unfolding memory_in memory
  read_count = sym (get_or-part w l.counts (l.counts + l.ranks) r (omega arith))

pub read-weight
    : (l : GrowthRoom) (w : List ℕ) (g : ℕ) → g < l.level.vertices → at w (l.level.weights + g) ≡ at (weights_in l w) g
read-weight l w g h = sym (get_or-part w l.level.weights (l.level.weights + l.level.vertices) g (omega arith))

-- ---- lengths

module _ {l : GrowthRoom} (w : List ℕ) (h : GrowthLaid l (length w)) where
  pub lengths
      : (length (memory_in l w).owners ≡ l.level.vertices)
      × (length (memory_in l w).links ≡ l.level.vertices)
      × (length (memory_in l w).loads ≡ l.ranks)
      × (length (memory_in l w).heads ≡ l.ranks)
      × (length (memory_in l w).tails ≡ l.ranks)
      × (length (memory_in l w).places ≡ l.ranks)
      × (length (memory_in l w).counts ≡ l.ranks)
  unfolding memory_in memory
  lengths = (
    length_part w l.level.owners (l.level.owners + l.level.vertices) (omega arith) (omega arith) ∙ omega arith,
    length_part w l.links (l.links + l.level.vertices) (omega arith) (omega arith) ∙ omega arith,
    length_part w l.loads (l.loads + l.ranks) (omega arith) (omega arith) ∙ omega arith,
    length_part w l.heads (l.heads + l.ranks) (omega arith) (omega arith) ∙ omega arith,
    length_part w l.tails (l.tails + l.ranks) (omega arith) (omega arith) ∙ omega arith,
    length_part w l.places (l.places + l.ranks) (omega arith) (omega arith) ∙ omega arith,
    length_part w l.counts (l.counts + l.ranks) (omega arith) (omega arith) ∙ omega arith,
  )
