-- Request P14, "when growth gets stuck, exactly": "before a tender I want to know from numbers alone whether growth will fail". The numbers, what the
-- claim asks of a call, and the claim; proofs/EightLaws.antt has the theorem that it holds of every call. Assumes nothing.
use Rattle.std.specs.Prelude.{ℕ, ◌+◌, ◌-◌, ◌*◌, ◌/◌, ◌≤◌, ◌<◌, ◌≡◌, ◌↔◌, ◌⊎◌, List, [], length, replicate}
use Rattle.links.specs.Loads.{load_cap}
use Rattle.links.specs.Graph.{vertex_count}
use Rattle.links.specs.Options.{stop_size}
use Rattle.links.specs.declared.options.AbtmMultilevelStats.{AbtmMultilevelStats}
use Rattle.multilevel.specs.Causes.{Call, early_cause}
use Rattle.multilevel.specs.Division.{refused, divided, division}
use Rattle.multilevel.specs.Demand3.{kept_steps}

-- ---- numbers: n vertices, k ranks, an imbalance of t per mille

-- "k × cap < n": together the ranks may own fewer vertices than there are
abbrev pub TooTight : ℕ → ℕ → ℕ → Type 0
TooTight n k t = k * load_cap n k t < n

-- a / d, rounded up
unfoldable pub ceiling : ℕ → ℕ → ℕ
ceiling a d = (a + (d - 1)) / d

-- the least imbalance per mille with which they may own them all
unfoldable pub least_imbalance : ℕ → ℕ → ℕ
least_imbalance n k = ceiling (1000 * (k * ceiling n k - n)) n

-- both of a call
abbrev pub Tight : Call → Type 0
Tight c = TooTight (vertex_count c.offsets) c.ranks c.options.imbalance_per_mille

abbrev pub least_of : Call → ℕ
least_of c = least_imbalance (vertex_count c.offsets) c.ranks

-- that no step is kept: no more vertices than "max(k, k × coarse_vertices_per_rank)", or no link
abbrev pub NoStep : Call → Type 0
NoStep c = (vertex_count c.offsets ≤ stop_size c.options c.ranks) ⊎ (length c.neighbors ≡ 0)

-- ---- the claim

-- "if all workloads are 1, no coarsening step is kept and tests 1 to 5 pass, with 13 and 17 in their places"
pub record Plain (c : Call) : Type 0 where
  pub ones : c.workloads ≡ replicate (vertex_count c.offsets) 1
  pub unkept : kept_steps c ≡ []
  pub passed : early_cause c ≡ 0

-- "then the division gives 8 exactly when k × cap < n"
abbrev pub StuckExactly : Call → Type 0
StuckExactly c = Plain c → ((division c).outcome ≡ refused 8) ↔ Tight c

-- a division that writes owners
abbrev pub Accepted : Call → Type 0
Accepted c = (owners : List ℕ) × (s : AbtmMultilevelStats) × ((division c).outcome ≡ divided owners s)
