-- The whole growth stage: rule 4's seeds are sown, and growth from there is what the stage tells. Assumes nothing.
use mathlib.Core.Path.{◌≡◌, refl, sym, ap, ap₂, ◌∙◌, subst}
use mathlib.Core.Bool.{Bool, true, false, true≢false, cond}
use mathlib.Core.List.{List, [], ◌∷◌, ◌++◌}
use Prim.Native.Nat.{ℕ, zero, suc, ◌+◌, ◌*◌, ◌≤◌, ◌<◌}
use native.Mathlib.Omega.{arith}
use lib.Dec.{eqb, ltb}
use lib.ListN.{length, get_or-append}
use lib.Seq.{get_or_at}
use borrow.Author.Tests.{le-ltb, lt-ltb, ltb-true, ltb-false}
use Rattle.links.specs.Lists.{at, All, elem}
use Rattle.links.specs.Parts.{part, Kept}
use Rattle.links.proofs.ListLaws.{split, all_append}
use Rattle.links.proofs.PartLaws.{kept_refl, kept_trans, kept-wide, kept-part-after}
use Rattle.links.proofs.RowLaws.{all-place}
use Rattle.stages.specs.Level.{Ready, rows_at, weights_at, owners_at}
use Rattle.stages.specs.Seeds.{next_seed, farthest_seeds}
use Rattle.stages.specs.SeedsCode.{Seedable, Seeded}
use Rattle.stages.specs.Growth.{Growth, weighted_multisource, grown, restart_count}
use Rattle.stages.specs.FrontierCode.{memory, rows_in, memory_in, GrowthLaid}
use Rattle.stages.specs.Coarsen.{by_degree}
use Rattle.stages.specs.Order.{Orderable, OrderedByDegree}
use Rattle.stages.specs.GrowthCode.{vacancy, grown_value, grown_answer, left_cause, Seeds, Sown, Multisource, growth_need, room_at, Growable, growth_at, grown_at, growth_in, too_heavy, too_few_groups, growth_cause, GrownTold}
use Rattle.stages.specs.declared.level.HierarchyLevel.{HierarchyLevel}
use Rattle.std.specs.Prelude.{Result, Err}
use Rattle.links.specs.Refusals.{number_of}
use Rattle.links.specs.declared.refusal.Refusal.{Refusal}
use Rattle.links.specs.declared.refusal.Refusal.TheVariants.{GroupAboveCap, FewerGroupsThanRanks}
use Rattle.stages.proofs.GrowthLaws.{length-seeds}
use Rattle.stages.proofs.LevelLaws.{all-vertices, rows-kept, weights-kept, ready-kept}
use Rattle.stages.proofs.SearchLaws.{in-get_or}
use Rattle.stages.proofs.SeedsLaws.{next-fresh}

-- ---- rule 4's seeds: as many as asked for, vertices, all different

abbrev Apart : ℕ → List ℕ → Type 0
Apart k xs = (c d : ℕ) → c < k → d < k → at xs c ≡ at xs d → c ≡ d

apart_snoc : (xs : List ℕ) (x k : ℕ) → length xs ≡ k → elem x xs ≡ false → Apart k xs → Apart (suc k) (xs ++ (x ∷ []))
apart_snoc xs x k n e a c d hc hd q = split (ltb c k)
    (λ p. split (ltb d k)
    (λ r. a c d (below c p) (below d r) (sym (old c (below c p)) ∙ q ∙ old d (below d r)))
    (λ r. absurd (never c (below c p) (sym (old c (below c p)) ∙ q ∙ new d hd r))))
    (λ p. split (ltb d k)
    (λ r. absurd (never d (below d r) (sym (old d (below d r)) ∙ sym q ∙ new c hc p)))
    (λ r. omega (arith, above c p, above d r)))
  where
    below : (i : ℕ) → ltb i k ≡ true → i < k
    below i p = ltb-true i k p

    above : (i : ℕ) → ltb i k ≡ false → k ≤ i
    above i p = ltb-false i k p

    old : (i : ℕ) → i < k → at (xs ++ (x ∷ [])) i ≡ at xs i
    old i h = get_or-append xs (x ∷ []) 0 i (rw n h)

    new : (i : ℕ) → i < suc k → ltb i k ≡ false → at (xs ++ (x ∷ [])) i ≡ x
    new i h p = get_or_at xs x [] 0 i (omega (arith, above i p))

    never : (i : ℕ) → i < k → at xs i ≡ x → ⊥
    never i h z = true≢false (sym (in-get_or xs i (rw n h)) ∙ ap (λ (y : ℕ). elem y xs) z ∙ e)

module _ (rows : List (List ℕ)) where
  seeds-below : (k : ℕ) → k ≤ length rows → All (λ v. v < length rows) (farthest_seeds rows k)
  unfolding farthest_seeds
  seeds-below zero h = tt
  seeds-below (suc k) h =
      all_append (λ v. v < length rows) (farthest_seeds rows k) (next_seed rows (farthest_seeds rows k) ∷ [])
      (seeds-below k (omega arith))
      ((next-fresh rows (farthest_seeds rows k) (omega (arith, length-seeds rows k))).0, tt)

  seeds-apart : (k : ℕ) → k ≤ length rows → Apart k (farthest_seeds rows k)
  unfolding farthest_seeds
  seeds-apart zero h = λ c d p q e. absurd (omega arith)
  seeds-apart (suc k) h =
      apart_snoc (farthest_seeds rows k) (next_seed rows (farthest_seeds rows k)) k (length-seeds rows k)
      (next-fresh rows (farthest_seeds rows k) (omega (arith, length-seeds rows k))).1
      (seeds-apart k (omega arith))

  -- they are so
  pub seeds-good : (k : ℕ) → k ≤ length rows → Seeds (length rows) k (farthest_seeds rows k)
  seeds-good k h = record {
    all = length-seeds rows k;
    inside = λ d q. all-place (λ v. v < length rows) (farthest_seeds rows k) d (seeds-below k h) (omega (arith, length-seeds rows k));
    apart = seeds-apart k h;
  }

-- ---- the answer

-- the numbers that growth gives
by_number : (x y z : Bool) (e : ℕ) → number_of (grown_answer (cond x 6 (cond y 7 (cond z 8 0))) e) ≡ cond x 6 (cond y 7 (cond z 8 0))
by_number true y z e = refl
by_number false true z e = refl
by_number false false true e = refl
by_number false false false e = refl

number-is : (w : List ℕ) (l : HierarchyLevel) (k cap e : ℕ) → number_of (grown_answer (growth_cause w l k cap) e) ≡ growth_cause w l k cap
unfolding growth_cause
number-is w l k cap e = by_number (too_heavy cap (weights_at w l)) (too_few_groups (rows_at w l) k) (vacancy (grown_at w l k cap)) e

value_of : (n e : ℕ) → grown_value (grown_answer n e) ≡ cond (eqb n 0) e 0
value_of n e = split (eqb n 0) (λ p. rw p) (λ p. rw p)

told
    : (w w' : List ℕ) (l : HierarchyLevel) (s k cap : ℕ) (r : Result ℕ Refusal)
    → r ≡ grown_answer (growth_cause w l k cap) (restart_count (growth_at w l k cap).turns)
    → (too_heavy cap (weights_at w l) ≡ false → too_few_groups (rows_at w l) k ≡ false → owners_at w' l ≡ grown_at w l k cap)
    → Kept l.owners (s + growth_need l.vertices k) w' w
    → GrownTold w w' l s k cap r
told w w' l s k cap r a o kept =
    let n = growth_cause w l k cap in
    let e = restart_count (growth_at w l k cap).turns in
    record {
      answer = a;
      number = ap number_of a ∙ number-is w l k cap e;
      value = ap grown_value a ∙ value_of n e;
      owners = o;
      kept = kept;
    }

module _ {w : List ℕ} {l : HierarchyLevel} {s k : ℕ} (P : Growable w l s k) where
  n-is : length (rows_at w l) ≡ l.vertices
  n-is = all-vertices P.level

  module _ (cap : ℕ) where
    cause-heavy : too_heavy cap (weights_at w l) ≡ true → growth_cause w l k cap ≡ 6
    unfolding growth_cause
    cause-heavy h = rw h

    cause-few : too_heavy cap (weights_at w l) ≡ false → too_few_groups (rows_at w l) k ≡ true → growth_cause w l k cap ≡ 7
    unfolding growth_cause
    cause-few h f = rw (h, f)

    cause-left : too_heavy cap (weights_at w l) ≡ false → too_few_groups (rows_at w l) k ≡ false → growth_cause w l k cap ≡ left_cause (grown_at w l k cap)
    unfolding growth_cause
    cause-left h f = rw (h, f)

    -- "group weight above cap"
    pub told-heavy : too_heavy cap (weights_at w l) ≡ true → GrownTold w w l s k cap (Err GroupAboveCap)
    told-heavy h =
        told w w l s k cap (Err GroupAboveCap)
        (sym (ap (λ (n : ℕ). grown_answer n (restart_count (growth_at w l k cap).turns)) (cause-heavy h)))
        (λ a b. absurd (true≢false (sym h ∙ a)))
        (kept_refl l.owners (s + growth_need l.vertices k) w)

    module _ (h : too_heavy cap (weights_at w l) ≡ false) where
      -- "fewer groups than k"
      pub told-few : l.vertices < k → GrownTold w w l s k cap (Err FewerGroupsThanRanks)
      told-few f =
          let t : too_few_groups (rows_at w l) k ≡ true = lt-ltb (length (rows_at w l)) k (omega (arith, n-is)) in
          told w w l s k cap (Err FewerGroupsThanRanks)
          (sym (ap (λ (n : ℕ). grown_answer n (restart_count (growth_at w l k cap).turns)) (cause-few h t)))
          (λ a b. absurd (true≢false (sym t ∙ b)))
          (kept_refl l.owners (s + growth_need l.vertices k) w)

  module _ (enough : k ≤ l.vertices) where
    pub seedable : Seedable w l s k
    seedable = record { level = P.level; enough = enough; room = omega (arith, P.room) }

    laid : (m : ℕ) → m ≡ length w → GrowthLaid (room_at l s k) m
    unfolding room_at
    laid m e =
        let L = P.level.laid in
        record {
          level = L;
          order-in = omega arith;
          seeds-in = omega arith;
          links-in = omega arith;
          loads-in = omega arith;
          heads-in = omega arith;
          tails-in = omega arith;
          places-in = omega arith;
          counts-in = omega (arith, P.room);
          enough = enough;
          few = P.level.few;
          few-ranks = P.few-ranks;
        }

    module _ {w₁ : List ℕ} (S : Seeded w w₁ l s k) where
      below : l.weights + l.vertices ≤ s
      below = let L = P.level.laid in omega arith

      ready : Ready w₁ l s
      ready = ready-kept P.level S.kept below

      pub orderable : Orderable w₁ l s
      orderable = record { level = ready; room = omega (arith, S.kept.same_length, P.room) }

    module _ {w₀ w₁ : List ℕ} (S₀ : Seeded w w₀ l s k) (O : OrderedByDegree w₀ w₁ l s) where
      below₁ : l.weights + l.vertices ≤ s
      below₁ = below S₀

      kept : Kept s (s + 2 * l.vertices + k) w₁ w
      kept =
          kept_trans s (s + 2 * l.vertices + k) w₁ w₀ w
          (kept-wide s (s + l.vertices) s (s + 2 * l.vertices + k) w₁ w₀ (omega arith) (omega arith) O.kept) S₀.kept

      ready₁ : Ready w₁ l s
      ready₁ = ready-kept P.level kept below₁

      chosen : part w₁ (s + 2 * l.vertices) (s + 2 * l.vertices + k) ≡ farthest_seeds (rows_at w l) k
      chosen = kept-part-after s (s + l.vertices) w₁ w₀ O.kept (s + 2 * l.vertices) (s + 2 * l.vertices + k) (omega arith) ∙ S₀.chosen

      rows₁ : rows_at w₁ l ≡ rows_at w l
      rows₁ = rows-kept P.level kept below₁

      pub sown : Sown (room_at l s k) w₁
      unfolding room_at rows_in
      sown = record {
        laid = laid (length w₁) kept.same_length;
        lists = ready₁.lists;
        light = ready₁.light;
        ordered = O.filled ∙ ap by_degree (rows-kept P.level S₀.kept below₁ ∙ sym rows₁);
        seeds =
            subst (Seeds l.vertices k) (sym chosen)
            (subst (λ (n : ℕ). Seeds n k (farthest_seeds (rows_at w l) k)) n-is (seeds-good (rows_at w l) k (omega (arith, n-is))));
      }

      -- the growth from the seeds that were sown is the one from rule 4's seeds
      growth-is : (cap : ℕ) → growth_in cap (room_at l s k) w₁ ≡ growth_at w l k cap
      unfolding room_at rows_in
      growth-is cap =
          ap₂ (λ (R : List (List ℕ)) (W : List ℕ). weighted_multisource cap R W (part w₁ (s + 2 * l.vertices) (s + 2 * l.vertices + k)))
          rows₁
          (weights-kept P.level kept below₁)
          ∙ ap (weighted_multisource cap (rows_at w l) (weights_at w l)) chosen

      pub told-grown
          : (cap : ℕ) {w₂ : List ℕ} {r : Result ℕ Refusal}
          → too_heavy cap (weights_at w l) ≡ false
          → Multisource (room_at l s k) cap w₁ w₂ r
          → GrownTold w w₂ l s k cap r
      unfolding room_at memory_in memory
      told-grown cap {w₂} {r} h M =
          let f : too_few_groups (rows_at w l) k ≡ false = le-ltb (length (rows_at w l)) k (omega (arith, n-is)) in
          let e = restart_count (growth_at w l k cap).turns in
          let o = M.outside in
          let L = P.level.laid in
          told w w₂ l s k cap r
          (M.answer ∙ ap (λ (g : Growth). grown_answer (left_cause (grown g g.turns)) (restart_count g.turns)) (growth-is cap) ∙ sym (ap (λ (n : ℕ). grown_answer n e) (cause-left cap h f)))
          (λ a b. M.owners-are ∙ ap (λ (g : Growth). grown g g.turns) (growth-is cap))
          (record {
            same_length = o.same_length ∙ kept.same_length;
            below = λ i p. o.below i p ∙ kept.below i (omega arith);
            beyond = λ i p. o.beyond i (omega arith) ∙ kept.beyond i (omega arith);
          })
