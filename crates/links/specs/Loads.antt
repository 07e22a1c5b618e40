-- Rule 1: loads. Assumes nothing.
use Rattle.std.specs.Prelude.{ℕ, ◌+◌, ◌-◌, ◌*◌, ◌/◌, min, ◌||◌, cond, ltb, eqb}

abbrev pub u64_max : ℕ
u64_max = 18446744073709551615

-- "the product saturates at 2^64 − 1"
abbrev pub saturating : ℕ → ℕ
saturating x = min x u64_max

-- "floor(total × (1000 + t) / (1000 × k)), floor with 1000 − t; the product saturates", of either number of per mille;
-- "called with t > 500 or k = 0, both return 2^64 − 1"
unfoldable pub share : ℕ → ℕ → ℕ → ℕ → ℕ
share total k t per_mille = cond (ltb 500 t || eqb k 0) u64_max (saturating (total * per_mille) / (1000 * k))

unfoldable pub load_cap : ℕ → ℕ → ℕ → ℕ
load_cap total k t = share total k t (1000 + t)

unfoldable pub minimum_load : ℕ → ℕ → ℕ → ℕ
minimum_load total k t = share total k t (1000 - t)

-- what a division is held to: its number of ranks, and the cap and the floor of a rank's load
pub record Balance : Type 0 where
  pub ranks : ℕ
  pub cap : ℕ
  pub floor : ℕ

unfoldable pub balance : ℕ → ℕ → ℕ → Balance
balance total k t = record { ranks = k; cap = load_cap total k t; floor = minimum_load total k t }
