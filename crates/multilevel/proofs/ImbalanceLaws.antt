-- Cap and floor of a site whose workloads are all 1, and the imbalance with which its ranks may own all its vertices. Assumes nothing.
use Prim.Native.Nat.{ℕ, suc, ◌+◌, ◌-◌, ◌*◌, ◌/◌, ◌≤◌, ◌<◌}
use mathlib.Core.Path.{◌≡◌, refl}
use mathlib.Core.Logic.{◌↔◌}
use native.Mathlib.Nat.{le-div_iff_mul-le, div-lt_iff_lt-mul, mul-le-mul, suc-mul}
use native.Mathlib.Omega.{arith}
use lib.Dec.{ltb}
use borrow.Author.Tests.{ne_eqb, le-ltb, ltb-true, ltb-false}
use Rattle.links.specs.Loads.{saturating, share, load_cap, minimum_load}
use Rattle.links.proofs.ListLaws.{split}
use Rattle.multilevel.specs.Stuck.{TooTight, ceiling, least_imbalance}

-- ---- cap and floor

module _ (n k t : ℕ) (some-ranks : 1 ≤ k) (few-vertices : n ≤ 16384) (tolerance : t ≤ 500) where
  -- no product of a site's numbers saturates
  share-whole : (per_mille : ℕ) → per_mille ≤ 1500 → share n k t per_mille ≡ n * per_mille / (1000 * k)
  unfolding share
  share-whole per_mille h =
      let small : n * per_mille ≤ 16384 * 1500 = mul-le-mul {n₁ = n} {m₁ = per_mille} {n₂ = 16384} {m₂ = 1500} few-vertices h in
      let whole : saturating (n * per_mille) ≡ n * per_mille = omega arith in
      rw (le-ltb 500 t tolerance, ne_eqb k 0 (λ e. omega arith), whole)

  share-some : (per_mille : ℕ) → per_mille ≤ 1500 → 1000 * k ≤ n * per_mille → 1 ≤ share n k t per_mille
  share-some per_mille h j = rw (share-whole per_mille h) ((le-div_iff_mul-le {k = 1000 * k} (omega arith)).1 (omega arith))

  -- with a vertex to a rank each may own one
  pub cap-some : k ≤ n → 1 ≤ load_cap n k t
  unfolding load_cap
  cap-some h =
      let more = mul-le-mul {n₁ = n} {m₁ = 1000} {n₂ = n} {m₂ = 1000 + t} (omega arith) (omega arith) in
      share-some (1000 + t) (omega arith) (omega arith)

  -- with two, no move may take a rank's last
  pub floor-some : 2 * k ≤ n → 1 ≤ minimum_load n k t
  unfolding minimum_load
  floor-some h =
      let more = mul-le-mul {n₁ = n} {m₁ = 500} {n₂ = n} {m₂ = 1000 - t} (omega arith) (omega arith) in
      share-some (1000 - t) (omega arith) (omega arith)

-- ---- the least imbalance

-- below a quotient that is rounded up
ceiling-above : (a d x : ℕ) → 1 ≤ d → (x < ceiling a d) ↔ (x * d < a)
unfolding ceiling
ceiling-above a d x h =
    let whole = le-div_iff_mul-le {k = d} {x = suc x} {y = a + (d - 1)} (omega arith) in
    (λ l. omega (arith, whole.0 (omega arith), suc-mul x d), λ l. omega (arith, whole.1 (omega (arith, suc-mul x d))))

-- so many to a rank are enough
ceiling-enough : (n k : ℕ) → 1 ≤ k → n ≤ ceiling n k * k
ceiling-enough n k h =
    let c = ceiling n k in
    split (ltb (c * k) n) (λ p. absurd (omega (arith, (ceiling-above n k c h).1 (ltb-true (c * k) n p)))) (λ p. ltb-false (c * k) n p)

-- "k × cap < n" exactly when the imbalance is below the least
pub least-exact : (n k t : ℕ) → 1 ≤ k → 1 ≤ n → n ≤ 16384 → t ≤ 500 → TooTight n k t ↔ (t < least_imbalance n k)
unfolding least_imbalance load_cap
least-exact n k t some-ranks some-vertices few-vertices tolerance =
    let c = ceiling n k in
    let cap-is = share-whole n k t some-ranks few-vertices tolerance (1000 + t) (omega arith) in
    let below = ceiling-above n k (load_cap n k t) some-ranks in
    let product = div-lt_iff_lt-mul {k = 1000 * k} {x = n * (1000 + t)} {y = c} (omega arith) in
    let least = ceiling-above (1000 * (k * c - n)) n t some-vertices in
    let enough = ceiling-enough n k some-ranks in (
      λ h. least.1 (omega (arith, product.0 (omega (arith, cap-is, below.1 (omega arith))), enough)),
      λ h. omega (arith, below.0 (omega (arith, cap-is, product.1 (omega (arith, least.0 h, enough))))),
    )

-- the path of five in two ranks; thirteen in three; four in three, the most that an imbalance can be; nine in eight, which is beyond it
pub least-by-hand
    : (least_imbalance 5 2 ≡ 200) × (least_imbalance 13 3 ≡ 154) × (least_imbalance 4 3 ≡ 500) × (least_imbalance 9 8 ≡ 778) × (least_imbalance 12 3 ≡ 0)
unfolding least_imbalance ceiling
least-by-hand = (refl, refl, refl, refl, refl)
