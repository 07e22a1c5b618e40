-- Laws of a call: its division on the work that it needs, the rules that it goes by, and its finest level. Assumes nothing.
use Prim.Native.Nat.{ℕ, ◌+◌, ◌*◌}
use mathlib.Core.Path.{◌≡◌, refl, ap, ◌∙◌}
use mathlib.Core.Bool.{false}
use mathlib.Core.List.{List}
use native.Mathlib.Nat.{add-mul}
use native.Mathlib.Omega.{arith}
use lib.ListN.{length}
use lib.Dec.{ltb}
use borrow.Author.Tests.{eq-eqb, le-ltb}
use Rattle.links.specs.Loads.{balance}
use Rattle.links.specs.Graph.{vertex_count}
use Rattle.stages.specs.Level.{rows_at, weights_at, owners_at, balance_in}
use Rattle.std.specs.Prelude.{Result}
use Rattle.links.specs.declared.refusal.Refusal.{Refusal}
use Rattle.links.specs.declared.options.AbtmMultilevelStats.{AbtmMultilevelStats}
use Rattle.multilevel.specs.Causes.{Call, work_need, need_of, too_short, early_cause}
use Rattle.multilevel.specs.Division.{division}
use Rattle.multilevel.specs.Demand3.{site_rows, balance_of, kept_steps}
use Rattle.multilevel.specs.Room.{unit_of, SiteFits, SiteLaid}
use Rattle.multilevel.specs.Driver.{Told}
use Rattle.multilevel.specs.DriverCode.{Placed, LevelSolved, rules_for, site_level, Divisible}
use Rattle.multilevel.proofs.DivisionLaws.{tested}
use Rattle.multilevel.proofs.RoomLaws.{laid-at}
use Rattle.stages.proofs.LevelLaws.{laid_by}

-- ---- the same division on the work that it needs

-- the call with a work slice of this length
abbrev pub with_work : Call → ℕ → Call
with_work c size =
    record {
      offsets = c.offsets;
      neighbors = c.neighbors;
      workloads = c.workloads;
      ranks = c.ranks;
      options = c.options;
      owners_length = c.owners_length;
      work_length = size;
    }

module _ (c : Call) (z : early_cause c ≡ 0) where
  -- with exactly what it needs it passes too
  pub exact-passes : early_cause (with_work c (need_of c)) ≡ 0
  unfolding early_cause too_short
  exact-passes =
      let n = vertex_count c.offsets in
      let t = tested c z in
      let a : ltb c.owners_length n ≡ false = le-ltb c.owners_length n t.owners-fit in
      let b : ltb (need_of c) (need_of c) ≡ false = le-ltb (need_of c) (need_of c) (omega arith) in
      let d : ltb c.work_length (need_of c) ≡ false = le-ltb c.work_length (need_of c) t.work-fits in
      rw (a, b) (rw (a, d) at z)

  pub same-run : (division (with_work c (need_of c))).outcome ≡ (division c).outcome
  unfolding division
  same-run = rw (eq-eqb (early_cause c) 0 z, eq-eqb (early_cause (with_work c (need_of c))) 0 exact-passes)

-- ---- the finest level

module _ (c : Call) (w : List ℕ) (d : Divisible c w) where
  -- the balance of the rules is the division's
  pub same-balance : balance_in (rules_for c).limits ≡ balance_of c
  unfolding balance
  same-balance = refl

  -- the work slice holds the levels' rooms, five more, and the lists of candidates
  pub work-parts : length w ≡ (rules_for c).scratch + 5 * unit_of (vertex_count c.offsets) (length c.neighbors) + 24 * c.ranks * c.ranks
  unfolding work_need
  work-parts =
      let l = c.options.max_levels in
      let u = unit_of (vertex_count c.offsets) (length c.neighbors) in
      d.exact ∙ omega (arith, add-mul (l + 1) 5 u, ap (λ (x : ℕ). x * u) (six l))
    where
      six : (l : ℕ) → l + 6 ≡ l + 1 + 5
      six l = omega arith

  pub site-fits : SiteFits w (site_level c) c.offsets c.neighbors c.workloads
  site-fits =
      let t = tested c d.passed in
      record {
        laid = laid_by (length w) (laid-at (vertex_count c.offsets) (length c.neighbors) 0) (omega (arith, work-parts));
        offsets-sized = omega (arith, t.lists.some);
        neighbors-sized = refl;
        workloads-sized = t.workloads.sized;
      }

  module _ (w₁ : List ℕ) (s : SiteLaid w w₁ (site_level c) c.offsets c.neighbors c.workloads) where
    rows-laid : rows_at w₁ (site_level c) ≡ site_rows c
    rows-laid = rw (s.offsets-laid, s.neighbors-laid)

    pub weights-laid : weights_at w₁ (site_level c) ≡ c.workloads
    weights-laid = s.weights-laid

    pub site-placed : Placed w₁ (site_level c) (rules_for c) c.options.max_levels
    site-placed =
        let t = tested c d.passed in
        let u = unit_of (vertex_count c.offsets) (length c.neighbors) in
        record {
          ready =
              record {
                laid = laid-at (vertex_count c.offsets) (length c.neighbors) 0;
                inside = omega (arith, work-parts, s.frame.same_length);
                lists = rw (s.offsets-laid, s.neighbors-laid) t.lists;
                few = t.few-vertices;
                short = t.few-entries;
                light = rw s.weights-laid (omega (arith, t.workloads.light, t.few-vertices));
              };
          above = omega arith;
          room = omega (arith, work-parts, s.frame.same_length, t.enough-vertices);
          some-ranks = t.some-ranks;
          few-ranks = t.few-ranks;
        }

    -- what the finest level told is told of the division
    pub site-told
        : (w₂ : List ℕ) (a : Result AbtmMultilevelStats Refusal)
        → LevelSolved w₁ w₂ (site_level c) (rules_for c) c.options.max_levels a
        → Told (balance_of c) c.options.refinement_passes (site_rows c) c.workloads (kept_steps c) c.options.max_levels (owners_at w₂ (site_level c)) a
    site-told w₂ a k = rw (rows-laid, weights-laid, same-balance) at k.told
