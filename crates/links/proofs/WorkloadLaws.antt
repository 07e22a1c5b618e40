-- Cause 13: its number as a test, and what it leaves. Assumes nothing.
use Prim.Native.Nat.{ℕ, ◌*◌, ◌≤◌}
use mathlib.Core.Path.{◌≡◌, refl}
use mathlib.Core.Bool.{true, false, not, true≢false}
use mathlib.Core.List.{List, [], ◌∷◌}
use native.Mathlib.Omega.{arith}
use lib.ListN.{length}
use lib.Dec.{ltb, eqb}
use borrow.Author.Tests.{eqb-true, eqb-false, ltb-false, not-false}
use Rattle.links.specs.Lists.{any, sum, All}
use Rattle.links.specs.Workloads.{bad_workload, bad_workloads, workloads_cause}
use Rattle.links.proofs.ListLaws.{split, or_l, or_r}
use Rattle.links.proofs.CauseLaws.{cause-holds, cause-fails}

module _ (n : ℕ) (ws : List ℕ) (r : ℕ) (e : r ≡ workloads_cause n ws) where
  pub workloads-bad : (r ≡ 0 → ⊥) → bad_workloads n ws ≡ true
  unfolding workloads_cause
  workloads-bad f = cause-holds (bad_workloads n ws) 12 r e f

  pub workloads-fine : r ≡ 0 → bad_workloads n ws ≡ false
  unfolding workloads_cause
  workloads-fine f = cause-fails (bad_workloads n ws) 12 r e f

-- a workload that passes
in-range : (w : ℕ) → bad_workload w ≡ false → (1 ≤ w) × (w ≤ 10000)
unfolding bad_workload
in-range w e =
    let some = eqb-false w 0 (or_l (eqb w 0) (ltb 10000 w) e) in
    (omega arith, ltb-false 10000 w (or_r (eqb w 0) (ltb 10000 w) e))

-- n numbers of 1 at least, and their sum
pub record GoodWorkloads (n : ℕ) (ws : List ℕ) : Type 0 where
  pub sized : length ws ≡ n
  pub some : All (λ w. 1 ≤ w) ws
  pub light : sum ws ≤ 10000 * n

each-good : (ws : List ℕ) → any bad_workload ws ≡ false → GoodWorkloads (length ws) ws
each-good [] e = record { sized = refl; some = tt; light = omega arith }
each-good (w ∷ ws) e = split (bad_workload w)
    (λ p. absurd (true≢false (rw p at e)))
    (λ p.
    let one = in-range w p in
    let rest = each-good ws (rw p at e) in
    record { sized = refl; some = (one.0, rest.some); light = omega (arith, one.1, rest.light) })

pub good-workloads : (n : ℕ) (ws : List ℕ) → bad_workloads n ws ≡ false → GoodWorkloads n ws
unfolding bad_workloads
good-workloads n ws e =
    let sized : length ws ≡ n = eqb-true (length ws) n (not-false _ (or_l (not (eqb (length ws) n)) (any bad_workload ws) e)) in
    let each = each-good ws (or_r (not (eqb (length ws) n)) (any bad_workload ws) e) in
    record { sized = sized; some = each.some; light = omega (arith, each.light) }
