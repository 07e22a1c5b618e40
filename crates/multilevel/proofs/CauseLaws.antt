-- Laws of the causes tested before the work: what each test that passes leaves, and the first that holds. Assumes nothing.
use Prim.Native.Nat.{ℕ, ◌≤◌}
use mathlib.Core.Path.{◌≡◌, sym, ◌∙◌}
use mathlib.Core.Bool.{Bool, false, ◌||◌}
use native.Mathlib.Omega.{arith}
use lib.ListN.{length}
use lib.Dec.{ltb, eqb}
use borrow.Author.Tests.{eqb-false, ltb-false}
use Rattle.links.specs.Graph.{vertex_count, bad_lists}
use Rattle.links.specs.Workloads.{bad_workloads}
use Rattle.links.specs.Options.{bad_options, bad_swaps, options_cause}
use Rattle.links.specs.declared.options.AbtmMultilevelOptions.{AbtmMultilevelOptions}
use Rattle.multilevel.specs.Causes.{Call, bad_counts, over_limits, work_need, Limited, first_of, too_short, early_cause}
use Rattle.links.proofs.ListLaws.{split, or_l, or_r}
use Rattle.links.proofs.CauseLaws.{cause-holds, cause-fails}

-- ---- what cause 1 and cause 3 leave

pub record GoodOptions (o : AbtmMultilevelOptions) : Type 0 where
  pub levels : 1 ≤ o.max_levels
  pub per-rank : 1 ≤ o.coarse_vertices_per_rank
  pub passes : 1 ≤ o.refinement_passes
  pub tolerance : o.imbalance_per_mille ≤ 500

some : (x : ℕ) → eqb x 0 ≡ false → 1 ≤ x
some x e = let d = eqb-false x 0 e in omega arith

pub good-options : (o : AbtmMultilevelOptions) → bad_options o ≡ false → GoodOptions o
unfolding bad_options
good-options o e =
    let b1 : Bool = eqb o.max_levels 0 in
    let b2 : Bool = eqb o.coarse_vertices_per_rank 0 in
    let b3 : Bool = eqb o.refinement_passes 0 in
    let b4 : Bool = ltb 500 o.imbalance_per_mille in
    let e3 : b1 || b2 || b3 ≡ false = or_l (b1 || b2 || b3) b4 e in
    let e2 : b1 || b2 ≡ false = or_l (b1 || b2) b3 e3 in
    record {
      levels = some o.max_levels (or_l b1 b2 e2);
      per-rank = some o.coarse_vertices_per_rank (or_r b1 b2 e2);
      passes = some o.refinement_passes (or_r (b1 || b2) b3 e3);
      tolerance = ltb-false 500 o.imbalance_per_mille (or_r (b1 || b2 || b3) b4 e);
    }

pub limited : (n m k levels : ℕ) → over_limits n m k levels ≡ false → Limited n m k levels
unfolding over_limits
limited n m k levels e =
    let b1 : Bool = ltb 16384 n in
    let b2 : Bool = ltb 131072 m in
    let b3 : Bool = ltb 256 k in
    let b4 : Bool = ltb 32 levels in
    let e3 : b1 || b2 || b3 ≡ false = or_l (b1 || b2 || b3) b4 e in
    let e2 : b1 || b2 ≡ false = or_l (b1 || b2) b3 e3 in
    record {
      few-vertices = ltb-false 16384 n (or_l b1 b2 e2);
      few-entries = ltb-false 131072 m (or_r b1 b2 e2);
      few-ranks = ltb-false 256 k (or_r (b1 || b2) b3 e3);
      few-levels = ltb-false 32 levels (or_r (b1 || b2 || b3) b4 e);
    }

-- ---- what the calls of links answer, as tests

pub options-fine : (o : AbtmMultilevelOptions) (r : ℕ) → r ≡ options_cause o → r ≡ 0 → (bad_options o ≡ false) × (bad_swaps o ≡ false)
unfolding options_cause
options-fine o r e f =
    split (bad_options o)
    (λ p. let z : ◌≡◌ {A = ℕ} 1 0 = rw p at (sym e ∙ f) in absurd (omega arith))
    (λ p. (p, cause-fails (bad_swaps o) 16 r (e ∙ rw p) f))

-- ---- the tests on counts, as they are made

module _ {n n₁ k k₁ : ℕ} (e : n₁ ≡ n) (f : k₁ ≡ k) {b t : Bool} where
  pub counts-as : b ≡ bad_counts n₁ k₁ → b ≡ t → bad_counts n k ≡ t
  counts-as p q = cc

  pub limits-as : (m levels : ℕ) → b ≡ over_limits n₁ m k₁ levels → b ≡ t → over_limits n m k levels ≡ t
  limits-as m levels p q = cc

  pub room_as
      : (m levels owners work : ℕ)
      → b ≡ (ltb owners n₁ || ltb work (work_need n₁ m k₁ levels))
      → b ≡ t
      → (ltb owners n || ltb work (work_need n m k levels)) ≡ t
  room_as m levels owners work p q = cc

-- ---- the first that holds

module _ (c : Call) where
  pub early-options : (r : ℕ) → r ≡ options_cause c.options → (r ≡ 0 → ⊥) → r ≡ early_cause c
  unfolding early_cause options_cause
  early-options r e f =
      split (bad_options c.options)
      (λ p. e ∙ rw p)
      (λ p. let q = cause-holds (bad_swaps c.options) 16 r (e ∙ rw p) f in e ∙ rw (p, q))

  pub early-is
      : (b2 b3 b4 b13 b5 : Bool)
      → (bad_options c.options ≡ false) × (bad_swaps c.options ≡ false)
      → bad_counts (vertex_count c.offsets) c.ranks ≡ b2
      → over_limits (vertex_count c.offsets) (length c.neighbors) c.ranks c.options.max_levels ≡ b3
      → bad_lists c.offsets c.neighbors ≡ b4
      → bad_workloads (vertex_count c.offsets) c.workloads ≡ b13
      → too_short c ≡ b5
      → first_of false false b2 b3 b4 b13 b5 ≡ early_cause c
  unfolding early_cause
  early-is b2 b3 b4 b13 b5 e1 e2 e3 e4 e13 e5 = rw (e1.0, e1.1, e2, e3, e4, e13, e5)

-- ---- the work that a division needs is small
