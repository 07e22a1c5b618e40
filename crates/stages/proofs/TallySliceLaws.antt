-- The tallies of a vertex in the work slice: what a turn of the loops over its row does. Assumes nothing.
use Prim.Native.Nat.{ℕ, ◌+◌, ◌-◌, ◌≤◌, ◌<◌}
use mathlib.Core.Path.{◌≡◌, sym, ap, ◌∙◌}
use mathlib.Core.Bool.{true, false}
use mathlib.Core.List.{List}
use native.Mathlib.Omega.{arith}
use lib.ListN.{length, set}
use lib.Seq.{get_or-set_same, get_or-set_other}
use lib.Dec.{eqb}
use borrow.Author.Tests.{eqb-true, eqb-false}
use Rattle.links.specs.Lists.{at}
use Rattle.links.specs.Parts.{part, Kept}
use Rattle.links.specs.Graph.{links_in}
use Rattle.links.proofs.ListLaws.{split}
use Rattle.links.proofs.PartLaws.{length_part, kept_set, kept_refl}
use Rattle.stages.specs.Level.{offsets_at, neighbors_at, owners_at, Ready}
use Rattle.stages.specs.declared.level.HierarchyLevel.{HierarchyLevel}
use Rattle.stages.specs.MovesCode.{Clear, Roomed, Tallied}
use Rattle.stages.proofs.TallyLaws.{links-snoc, links-cons, links-none, links-few}
use Rattle.stages.proofs.LevelLaws.{length-neighbors, row-part, row-rises, row_ends, entry-below, rows-kept, neighbors-kept, owners-kept, ready-kept, ready_by, beneath}

-- tallied as far as entry i; to be cleared from entry i on
pub record TallyTo (w₀ w : List ℕ) (l : HierarchyLevel) (tallies ranks v i : ℕ) : Type 0 where
  pub kept : Kept tallies (tallies + ranks) w w₀
  pub counts : (r : ℕ) → r < ranks → at w (tallies + r) ≡ links_in (part (neighbors_at w₀ l) (at (offsets_at w₀ l) v) i) (owners_at w₀ l) r

pub record ClearFrom (w₀ w : List ℕ) (l : HierarchyLevel) (tallies ranks v i : ℕ) : Type 0 where
  pub kept : Kept tallies (tallies + ranks) w w₀
  pub zeros : (r : ℕ) → r < ranks → links_in (part (neighbors_at w₀ l) i (at (offsets_at w₀ l) (v + 1))) (owners_at w₀ l) r ≡ 0 → at w (tallies + r) ≡ 0

module _ {w₀ : List ℕ} {l : HierarchyLevel} {tallies ranks v : ℕ} (t : Roomed w₀ l tallies ranks) (vertex : v < l.vertices) where
  abbrev from : ℕ
  from = at (offsets_at w₀ l) v

  abbrev to : ℕ
  to = at (offsets_at w₀ l) (v + 1)

  abbrev owner : ℕ → ℕ
  owner i = at (owners_at w₀ l) (at (neighbors_at w₀ l) i)

  -- what the loops ask of the slice
  pub whole : Ready w₀ l (length w₀)
  whole = ready_by (length w₀) t.ready (omega (arith, t.room)) (omega arith)

  pub rises : from ≤ to
  rises = row-rises t.ready v vertex

  pub ends : to ≤ l.entries
  ends = row_ends t.ready v vertex

  module _ {w : List ℕ} (k : Kept tallies (tallies + ranks) w w₀) (i : ℕ) (a : from ≤ i) (b : i < to) where
    pub owner-asks : Ready w l (length w) × (i < l.entries) × (at (neighbors_at w l) i < l.vertices)
    owner-asks =
        let below : l.owners ≤ tallies = omega (arith, t.ready.laid) in (
          ready_by (length w) (ready-kept t.ready k (beneath t.ready below)) (omega (arith, t.room, k.same_length)) (omega arith),
          omega (arith, ends),
          rw (neighbors-kept t.ready k (beneath t.ready below)) (entry-below t.ready v vertex i a b),
        )

    pub owner-is : (r : ℕ) → r ≡ at (owners_at w l) (at (neighbors_at w l) i) → r ≡ owner i
    owner-is r e =
        let below : l.owners ≤ tallies = omega (arith, t.ready.laid) in
        rw (owners-kept t.ready k (omega arith), neighbors-kept t.ready k (beneath t.ready below)) at e

    pub owner-in : (r : ℕ) → r ≡ at (owners_at w l) (at (neighbors_at w l) i) → r < ranks
    owner-in r e = rw (owner-is r e) (t.ranked (at (neighbors_at w₀ l) i) (entry-below t.ready v vertex i a b))

    -- the store of a turn
    stored : (r x : ℕ) → r < ranks → at (set w (tallies + r) x) (tallies + r) ≡ x
    stored r x h = get_or-set_same w (tallies + r) x 0 (omega (arith, t.room, k.same_length))

  -- ---- counting

  pub tally-start : Clear w₀ tallies ranks → TallyTo w₀ w₀ l tallies ranks v from
  tally-start z = record { kept = kept_refl tallies (tallies + ranks) w₀; counts = λ r h. z r h ∙ sym (links-none (neighbors_at w₀ l) (owners_at w₀ l) from r) }

  module _ {w : List ℕ} {i : ℕ} (d : TallyTo w₀ w l tallies ranks v i) (a : from ≤ i) (b : i < to) (r : ℕ) (e : r ≡ at (owners_at w l) (at (neighbors_at w l) i)) where
    -- a tally is below 2^32
    pub tally-fits : at w (tallies + r) + 1 ≤ 131072
    tally-fits =
        let n : length (part (neighbors_at w₀ l) from i) ≡ i - from = length_part (neighbors_at w₀ l)
        from i a (omega (arith, ends, length-neighbors t.ready)) in
        omega (arith, d.counts r (owner-in d.kept i a b r e), links-few (part (neighbors_at w₀ l) from i) (owners_at w₀ l) r, ends, t.ready.short)

    pub tally-turn : (w' : List ℕ) → w' ≡ set w (tallies + r) (at w (tallies + r) + 1) → TallyTo w₀ w' l tallies ranks v (i + 1)
    tally-turn w' f =
        let h = owner-in d.kept i a b r e in
        let o : owner i ≡ r = sym (owner-is d.kept i a b r e) in
        record {
          kept = rw f (kept_set tallies (tallies + ranks) w w₀ (tallies + r) (at w (tallies + r) + 1) d.kept (omega arith) (omega arith));
          counts = λ s m.
              let n = links-snoc (neighbors_at w₀ l) (owners_at w₀ l) from i s a (omega (arith, ends, length-neighbors t.ready)) in
              split (eqb r s)
              (λ p.
              let g : r ≡ s = eqb-true r s p in
              let y : eqb (owner i) s ≡ true = rw o p in
              let z : at (set w (tallies + r) (at w (tallies + r) + 1)) (tallies + s) ≡ at w (tallies + s) + 1 = rw (← g)
              (stored d.kept i a b r (at w (tallies + r) + 1) h) in
              rw f (omega (arith, d.counts s m, rw y at n)))
              (λ p.
              let g = eqb-false r s p in
              let y : eqb (owner i) s ≡ false = rw o p in
              let z : at (set w (tallies + r) (at w (tallies + r) + 1)) (tallies + s) ≡ at w (tallies + s) = get_or-set_other w (tallies + r)
              (tallies + s) (at w (tallies + r) + 1) 0 (λ x. g (omega arith)) in
              rw f (omega (arith, d.counts s m, rw y at n)));
        }

  pub tally-end : {w : List ℕ} → TallyTo w₀ w l tallies ranks v to → Tallied w l tallies ranks v × Kept tallies (tallies + ranks) w w₀
  tally-end {w} d =
      let below : l.owners ≤ tallies = omega (arith, t.ready.laid) in (
        λ r h.
            d.counts r h
            ∙ ap (λ (us : List ℕ). links_in us (owners_at w₀ l) r) (sym (row-part t.ready v vertex))
            ∙ rw (rows-kept t.ready d.kept (beneath t.ready below), owners-kept t.ready d.kept (omega arith)),
        d.kept,
      )

  -- ---- clearing

  pub clear-start : Tallied w₀ l tallies ranks v → ClearFrom w₀ w₀ l tallies ranks v from
  clear-start z = record {
    kept = kept_refl tallies (tallies + ranks) w₀;
    zeros = λ r h e. z r h ∙ ap (λ (us : List ℕ). links_in us (owners_at w₀ l) r) (row-part t.ready v vertex) ∙ e;
  }

  module _ {w : List ℕ} {i : ℕ} (d : ClearFrom w₀ w l tallies ranks v i) (a : from ≤ i) (b : i < to) (r : ℕ) (e : r ≡ at (owners_at w l) (at (neighbors_at w l) i)) where
    pub clear-turn : (w' : List ℕ) → w' ≡ set w (tallies + r) 0 → ClearFrom w₀ w' l tallies ranks v (i + 1)
    clear-turn w' f =
        let h = owner-in d.kept i a b r e in
        let o : owner i ≡ r = sym (owner-is d.kept i a b r e) in
        record {
          kept = rw f (kept_set tallies (tallies + ranks) w w₀ (tallies + r) 0 d.kept (omega arith) (omega arith));
          zeros = λ s m u.
              let n = links-cons (neighbors_at w₀ l) (owners_at w₀ l) i to s b (omega (arith, ends, length-neighbors t.ready)) in
              split (eqb r s)
              (λ p. let g : r ≡ s = eqb-true r s p in rw (f, ← g) (stored d.kept i a b r 0 h))
              (λ p.
              let g = eqb-false r s p in
              let y : eqb (owner i) s ≡ false = rw o p in
              rw f (get_or-set_other w (tallies + r) (tallies + s) 0 0 (λ x. g (omega arith)) ∙ d.zeros s m (omega (arith, rw y at n))));
        }

  pub clear-end : {w : List ℕ} → ClearFrom w₀ w l tallies ranks v to → Clear w tallies ranks × Kept tallies (tallies + ranks) w w₀
  clear-end d = (λ r h. d.zeros r h (links-none (neighbors_at w₀ l) (owners_at w₀ l) to r), d.kept)
