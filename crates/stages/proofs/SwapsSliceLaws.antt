-- Rule 7's numbers in the work slice: where they lie, and what stays while others change. Assumes nothing.
use Prim.Native.Nat.{ℕ, zero, suc, ◌+◌, ◌≤◌, ◌<◌}
use mathlib.Core.Path.{◌≡◌}
use mathlib.Core.Bool.{true, ◌&&◌}
use mathlib.Core.List.{List}
use native.Mathlib.Omega.{arith}
use lib.Dec.{eqb, ltb}
use borrow.Author.Tests.{lt-ltb}
use lib.ListN.{length}
use Rattle.links.specs.Lists.{at}
use Rattle.links.specs.Graph.{row, strictly_rising}
use Rattle.links.proofs.RowLaws.{length-row, row_below, rises-few}
use Rattle.stages.specs.Level.{offsets_at, neighbors_at, rows_at, weights_at, owners_at, Ready, balance_in}
use Rattle.stages.specs.Moves.{swap, gain}
use Rattle.stages.specs.Swaps.{keeps_balance, applies}
use Rattle.stages.specs.MovesCode.{Roomed}
use Rattle.stages.specs.SwapsCode.{Given, Marked}
use Rattle.stages.specs.declared.swaps.SwapRoom.{SwapRoom}
use Rattle.stages.proofs.LevelLaws.{ready_by, owner-place, count-vertices, length-owners, all-vertices, row_ends}

module _ {w : List ℕ} {s : SwapRoom} (g : Given w s) where
  -- the level, with all of the slice
  pub whole : Ready w s.level (length w)
  whole = ready_by (length w) g.ready g.ready.inside (omega arith)

  -- room for a number for each rank
  pub roomed : (a : ℕ) → s.used ≤ a → a + s.limits.ranks ≤ length w → Roomed w s.level a s.limits.ranks
  roomed a h k = record { ready = ready_by a g.ready h (omega arith); room = k; ranked = g.ranked }

  pub vertices-are : length (rows_at w s.level) ≡ s.level.vertices
  vertices-are = all-vertices g.ready

  module _ (v : ℕ) (h : v < s.level.vertices) where
    in_rows : v < length (rows_at w s.level)
    in_rows = rw vertices-are h

    pub row-sorted : strictly_rising (row (rows_at w s.level) v) ≡ true
    row-sorted = g.ready.lists.sound.rises v in_rows

    pub row-few : length (row (rows_at w s.level) v) ≤ 131072
    row-few =
        omega (
          arith,
          length-row (offsets_at w s.level) (neighbors_at w s.level) g.ready.lists v (omega (arith, count-vertices g.ready)),
          row_ends g.ready v h,
          g.ready.short,
        )

    pub row_under : (i : ℕ) → i < length (row (rows_at w s.level) v) → at (row (rows_at w s.level) v) i < length (owners_at w s.level)
    row_under i k =
        omega (
          arith,
          row_below (offsets_at w s.level) (neighbors_at w s.level) g.ready.lists v (omega (arith, count-vertices g.ready)) i k,
          count-vertices g.ready,
          length-owners g.ready,
        )

    -- a strictly rising row of numbers below n has at most n of them
    pub row-short : length (row (rows_at w s.level) v) ≤ 16384
    row-short =
        omega (arith, rises-few (row (rows_at w s.level) v) row-sorted s.level.vertices (λ i k. omega (arith, row_under i k, length-owners g.ready)), g.ready.few)

    pub owner-is : at (owners_at w s.level) v ≡ at w (s.level.owners + v)
    owner-is = owner-place g.ready v h

  -- the same of all rows
  pub rows_few : length (rows_at w s.level) ≤ 16384
  rows_few = omega (arith, vertices-are, g.ready.few)

  pub rows_short : (v : ℕ) → v < length (rows_at w s.level) → length (row (rows_at w s.level) v) ≤ 16384
  rows_short v h = row-short v (rw vertices-are at h)

-- the five tests of a swap, as the code makes them
pub applies-is
    : (w : List ℕ) (s : SwapRoom) (used : List ℕ)
    → Marked w s used
    → (u v : ℕ)
    → u < s.level.vertices
    → v < s.level.vertices
    → applies (balance_in s.limits) (rows_at w s.level) (weights_at w s.level) used (owners_at w s.level) u v
    ≡ (eqb (at w (s.used + u)) 0 && eqb (at w (s.used + v)) 0
    && ltb 0 (gain (rows_at w s.level) (owners_at w s.level) (swap u v))
    && keeps_balance (balance_in s.limits) (rows_at w s.level) (weights_at w s.level) (owners_at w s.level) (swap u v) (at (owners_at w s.level) u)
    && keeps_balance (balance_in s.limits) (rows_at w s.level) (weights_at w s.level) (owners_at w s.level) (swap u v) (at (owners_at w s.level) v))
unfolding applies
applies-is w s used m u v h k = rw (m u h, m v k)

pub gains : (g r : ℕ) → r ≡ g → (r ≡ 0 → ⊥) → ltb 0 g ≡ true
gains zero r e d = absurd (d e)
gains (suc g) r e d = lt-ltb 0 (suc g) (omega arith)
