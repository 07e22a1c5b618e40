-- Rounds of a growth in the work slice. Assumes nothing.
use mathlib.Core.Path.{◌≡◌, refl, sym, ap, ap₂, ◌∙◌, subst}
use mathlib.Core.Bool.{Bool, true, false, not, cond, true≢false}
use mathlib.Core.List.{List, [], ◌∷◌, ◌++◌, append-nil}
use Prim.Native.Nat.{ℕ, suc, ◌+◌, ◌-◌, ◌*◌, ◌≤◌, ◌<◌}
use native.Mathlib.Omega.{arith}
use native.Mathlib.Numerals.{add-one}
use lib.Dec.{eqb, ltb}
use lib.ListN.{length}
use borrow.Author.Tests.{eqb-true, eqb-false, eq-eqb, ne_eqb, ltb-true, ltb-false}
use Rattle.links.specs.Lists.{unassigned, filter, any, foldl, range}
use Rattle.links.proofs.ListLaws.{split, count-append, count-length, any-counts, none-counts as none_left}
use Rattle.links.proofs.RangeLaws.{range_snoc}
use Rattle.stages.specs.Growth.{Growing, Turn, Round, Choice, passes, claims, restarts, is_pass, is_restart, after_turn, turn, round, rounds, restart_count}
use Rattle.stages.specs.FrontierCode.{rows_in, weights_in, memory_in, vacant_in, Outside, Stands, GrowthReady, kind_of, claims_by, restarts_by}
use Rattle.stages.specs.GrowthCode.{StandsIn, TurnMade, claim_count, vacancy, turns_of, Rounded, next_round, More, rounds_of, Leaves, grown_answer, left_cause, GrownTo}
use Rattle.stages.specs.declared.growth.GrowthRoom.{GrowthRoom}
use Rattle.stages.specs.declared.growth.TurnKind.{TurnKind}
use Rattle.stages.specs.declared.growth.TurnKind.TheVariants.{Pass, Claim, Restart}
use Rattle.std.specs.Prelude.{Result, Ok, Err}
use Rattle.links.specs.declared.refusal.Refusal.{Refusal}
use Rattle.links.specs.declared.refusal.Refusal.TheVariants.{GrowthStuck}
use Rattle.stages.proofs.StepLaws.{foldl-append}
use Rattle.stages.proofs.GrowthLaws.{round-owners}
use Rattle.stages.proofs.GrowthMemoryLaws.{outside_trans, outside_refl}
use Rattle.stages.proofs.GrowthSliceLaws.{rows_same, weights-same, rows_all}

abbrev is_claim : Turn → Bool
is_claim t = not (is_pass t.choice)

module _ (cap : ℕ) (rows : List (List ℕ)) (weights : List ℕ) where
  -- one rank more
  round-snoc
      : (s : Growing) (xs : List ℕ) (x : ℕ)
      → ((round cap rows weights s (xs ++ (x ∷ []))).turns ≡ (round cap rows weights s xs).turns ++ ((turn cap rows weights (round cap rows weights s xs).state x).turn ∷ []))
      × ((round cap rows weights s (xs ++ (x ∷ []))).state ≡ (turn cap rows weights (round cap rows weights s xs).state x).state)
  unfolding round
  round-snoc s [] x = (refl, refl)
  round-snoc s (y ∷ xs) x =
      let i = round-snoc (turn cap rows weights s y).state xs x in
      (ap (λ (ts : List Turn). (turn cap rows weights s y).turn ∷ ts) i.0, i.1)

  round-next
      : (s : Growing) (i : ℕ)
      → ((round cap rows weights s (range 0 (i + 1))).turns ≡ (round cap rows weights s (range 0 i)).turns ++ ((turn cap rows weights (round cap rows weights s (range 0 i)).state i).turn ∷ []))
      × ((round cap rows weights s (range 0 (i + 1))).state ≡ (turn cap rows weights (round cap rows weights s (range 0 i)).state i).state)
  round-next s i =
      let e : range 0 (i + 1) ≡ range 0 i ++ (i ∷ []) = ap (range 0) (add-one i) ∙ range_snoc 0 i i (omega arith) in
      let r = round-snoc s (range 0 i) i in
      (ap (λ (l : List ℕ). (round cap rows weights s l).turns) e ∙ r.0, ap (λ (l : List ℕ). (round cap rows weights s l).state) e ∙ r.1)

-- ---- counts

kind-claims : (t : Turn) → claims_by (kind_of t.choice) ≡ claim_count (t ∷ [])
unfolding claim_count
kind-claims t = go t.choice
  where
    go : (c : Choice) → claims_by (kind_of c) ≡ length (cond (not (is_pass c)) (t ∷ []) [])
    go passes = refl
    go (claims g) = refl
    go (restarts g) = refl

kind-restarts : (t : Turn) → restarts_by (kind_of t.choice) ≡ restart_count (t ∷ [])
unfolding restart_count
kind-restarts t = go t.choice
  where
    go : (c : Choice) → restarts_by (kind_of c) ≡ length (cond (is_restart c) (t ∷ []) [])
    go passes = refl
    go (claims g) = refl
    go (restarts g) = refl

claims-append : (xs ys : List Turn) → claim_count (xs ++ ys) ≡ claim_count xs + claim_count ys
unfolding claim_count
claims-append xs ys = count-append is_claim xs ys

restarts-append : (xs ys : List Turn) → restart_count (xs ++ ys) ≡ restart_count xs + restart_count ys
unfolding restart_count
restarts-append xs ys = count-append (λ t. is_restart t.choice) xs ys

-- a turn claims one group at most
kind-few : (x : TurnKind) → (claims_by x ≤ 1) × (restarts_by x ≤ 1)
kind-few Pass = (omega arith, omega arith)
kind-few Claim = (omega arith, omega arith)
kind-few Restart = (omega arith, omega arith)

-- ---- a round

pub round-start : {l : GrowthRoom} {w : List ℕ} (cap : ℕ) → GrowthReady l w → Rounded l cap w w 0 0 0
unfolding round claim_count restart_count
round-start {l} {w} cap d = record {
  outside = outside_refl l w;
  ready = d;
  claims-are = λ s t. refl;
  restarts-are = λ s t. refl;
  stands = λ s t. t;
  vacant = omega arith;
  few = (omega arith, omega arith);
}

module _ {l : GrowthRoom} {cap : ℕ} {w w' w₂ : List ℕ} {i c e : ℕ} {x : TurnKind} (d : GrowthReady l w) (b : Rounded l cap w w' i c e) (t : TurnMade l cap w' w₂ i x) where
  abbrev Was : Growing → Growing
  Was s = (turns_of cap l w i s).state

  rs : rows_in l w' ≡ rows_in l w
  rs = rows_same d.laid b.outside

  ws : weights_in l w' ≡ weights_in l w
  ws = weights-same d.laid b.outside

  abbrev Kind : List (List ℕ) → List ℕ → Type 0
  Kind R W = (s : Growing) → Stands cap R W l.ranks (memory_in l w') s → x ≡ kind_of (turn cap R W s i).turn.choice

  kind-now : Kind (rows_in l w) (weights_in l w)
  kind-now = subst (λ (R : List (List ℕ)). Kind R (weights_in l w)) rs (subst (λ (W : List ℕ). Kind (rows_in l w') W) ws t.kind)

  abbrev State : List (List ℕ) → List ℕ → Type 0
  State R W = (s : Growing) → Stands cap R W l.ranks (memory_in l w') s → Stands cap R W l.ranks (memory_in l w₂) (turn cap R W s i).state

  stands-now : State (rows_in l w) (weights_in l w)
  stands-now = subst (λ (R : List (List ℕ)). State R (weights_in l w)) rs (subst (λ (W : List ℕ). State (rows_in l w') W) ws t.stands)

  turn-now : Growing → Turn
  turn-now s = (turn cap (rows_in l w) (weights_in l w) (Was s) i).turn

  pub round-step : (c' e' : ℕ) → c' ≡ c + claims_by x → e' ≡ e + restarts_by x → Rounded l cap w w₂ (i + 1) c' e'
  unfolding turn-now
  round-step c' e' ec ee = record {
    outside = outside_trans b.outside t.outside;
    ready = t.ready;
    claims-are = λ s st.
        let k : claims_by x ≡ claim_count (turn-now s ∷ []) = ap claims_by (kind-now (Was s) (b.stands s st)) ∙ kind-claims (turn-now s) in
        ec
        ∙ ap₂ (λ (a z : ℕ). a + z) (b.claims-are s st) k
        ∙ sym (ap claim_count (round-next cap (rows_in l w) (weights_in l w) s i).0 ∙ claims-append (turns_of cap l w i s).turns (turn-now s ∷ []));
    restarts-are = λ s st.
        let k : restarts_by x ≡ restart_count (turn-now s ∷ []) = ap restarts_by (kind-now (Was s) (b.stands s st)) ∙ kind-restarts (turn-now s) in
        ee
        ∙ ap₂ (λ (a z : ℕ). a + z) (b.restarts-are s st) k
        ∙ sym (ap restart_count (round-next cap (rows_in l w) (weights_in l w) s i).0 ∙ restarts-append (turns_of cap l w i s).turns (turn-now s ∷ []));
    stands = λ s st. subst (StandsIn cap l w w₂) (sym (round-next cap (rows_in l w) (weights_in l w) s i).1) (stands-now (Was s) (b.stands s st));
    vacant = omega (arith, ec, b.vacant, t.vacant);
    few = (omega (arith, ec, b.few.0, (kind-few x).0), omega (arith, ee, b.few.1, (kind-few x).1));
  }

-- ---- is a group left that nobody owns?

module _ (owners : List ℕ) (left : ℕ) (e : left ≡ vacant_in owners) where
  pub some_left : (left ≡ 0 → ⊥) → vacancy owners ≡ true
  some_left z = split (vacancy owners)
      (λ p. p)
      (λ p. absurd (z (eqb-true left 0 (ap (λ (x : ℕ). eqb x 0) e ∙ none_left (eqb unassigned) owners ∙ ap not p))))

  pub none-vacant : left ≡ 0 → vacancy owners ≡ false
  none-vacant z = split (vacancy owners)
      (λ p. absurd (omega (arith, e, z, any-counts (eqb unassigned) owners p)))
      (λ p. p)

-- ---- a round, if a group is unowned

module _ (cap : ℕ) (rows : List (List ℕ)) (weights : List ℕ) (k : ℕ) (s : Growing) where
  next-yes : vacancy s.owners ≡ true → next_round cap rows weights k s ≡ round cap rows weights s (range 0 k)
  unfolding next_round
  next-yes e = rw e

  next-no : vacancy s.owners ≡ false → next_round cap rows weights k s ≡ record { turns = []; state = s }
  unfolding next_round
  next-no e = rw e

module _ (l : GrowthRoom) (cap : ℕ) (w : List ℕ) where
  yes : vacancy (memory_in l w).owners ≡ true → (s : Growing) → StandsIn cap l w w s → next_round cap (rows_in l w) (weights_in l w) l.ranks s ≡ turns_of cap l w l.ranks s
  yes v s st = next-yes cap (rows_in l w) (weights_in l w) l.ranks s (ap vacancy (sym st.owners-are) ∙ v)

  no : vacancy (memory_in l w).owners ≡ false → (s : Growing) → StandsIn cap l w w s → next_round cap (rows_in l w) (weights_in l w) l.ranks s ≡ record { turns = []; state = s }
  no v s st = next-no cap (rows_in l w) (weights_in l w) l.ranks s (ap vacancy (sym st.owners-are) ∙ v)

module _ {l : GrowthRoom} {cap : ℕ} {w : List ℕ} where
  pub more_yes : {w' : List ℕ} {c e : ℕ} → vacancy (memory_in l w).owners ≡ true → Rounded l cap w w' l.ranks c e → More l cap w w' c e
  more_yes {w'} v b = record {
    outside = b.outside;
    ready = b.ready;
    claims-are = λ s st. b.claims-are s st ∙ sym (ap (λ (x : Round). claim_count x.turns) (yes l cap w v s st));
    restarts-are = λ s st. b.restarts-are s st ∙ sym (ap (λ (x : Round). restart_count x.turns) (yes l cap w v s st));
    stands = λ s st. subst (λ (x : Round). StandsIn cap l w w' x.state) (sym (yes l cap w v s st)) (b.stands s st);
    vacant = b.vacant;
    few = b.few.1;
  }

  pub more_no : GrowthReady l w → vacancy (memory_in l w).owners ≡ false → More l cap w w 0 0
  unfolding claim_count restart_count
  more_no d v = record {
    outside = outside_refl l w;
    ready = d;
    claims-are = λ s st. sym (ap (λ (x : Round). claim_count x.turns) (no l cap w v s st));
    restarts-are = λ s st. sym (ap (λ (x : Round). restart_count x.turns) (no l cap w v s st));
    stands = λ s st. subst (λ (x : Round). StandsIn cap l w w x.state) (sym (no l cap w v s st)) st;
    vacant = omega arith;
    few = omega arith;
  }

-- ---- all rounds

none-counts : (p : Turn → Bool) (xs : List Turn) → any p xs ≡ false → length (filter p xs) ≡ 0
none-counts p [] e = refl
none-counts p (x ∷ xs) e = split (p x) (λ q. absurd (true≢false (rw q at e))) (λ q. rw q (none-counts p xs (rw q at e)))

module _ (cap : ℕ) (rows : List (List ℕ)) (weights : List ℕ) where
  next-owners : (k : ℕ) (s : Growing) → (next_round cap rows weights k s).state.owners ≡ foldl after_turn s.owners (next_round cap rows weights k s).turns
  next-owners k s =
      let P : Round → Type 0 = λ x. x.state.owners ≡ foldl after_turn s.owners x.turns in
      split (vacancy s.owners)
      (λ v. subst P (sym (next-yes cap rows weights k s v)) (round-owners cap rows weights s (range 0 k)))
      (λ v. subst P (sym (next-no cap rows weights k s v)) refl)

  -- what comes after the round that is made now
  abbrev onwards : ℕ → ℕ → Growing → List Turn
  onwards f k s = cond (any is_claim (next_round cap rows weights k s).turns) (rounds cap rows weights f k (next_round cap rows weights k s).state) []

  rounds-law : (f k : ℕ) (s : Growing) → rounds cap rows weights (suc f) k s ≡ (next_round cap rows weights k s).turns ++ onwards f k s
  unfolding rounds next_round
  rounds-law f k s = split (vacancy s.owners)
      (λ v. split (any is_claim (round cap rows weights s (range 0 k)).turns) (λ a. simp (v, a)) (λ a. simp (v, a, append-nil)))
      (λ v. simp v)

module _ {l : GrowthRoom} {cap : ℕ} {w w' w₂ : List ℕ} {f e c e' : ℕ} {s₀ : Growing} (d : GrowthReady l w) (o : Outside l w w') (b : Leaves l cap w w' (suc f) e s₀)
    (m : More l cap w' w₂ c e') where
  abbrev N : Round
  N = next_round cap (rows_in l w) (weights_in l w) l.ranks b.state

  abbrev Facts : List (List ℕ) → List ℕ → Type 0
  Facts R W =
      (s : Growing)
      → Stands cap R W l.ranks (memory_in l w') s
      → (c ≡ claim_count (next_round cap R W l.ranks s).turns)
      × (e' ≡ restart_count (next_round cap R W l.ranks s).turns)
      × Stands cap R W l.ranks (memory_in l w₂) (next_round cap R W l.ranks s).state

  facts : Facts (rows_in l w) (weights_in l w)
  facts =
      subst (λ (R : List (List ℕ)). Facts R (weights_in l w)) (rows_same d.laid o)
      (subst (λ (W : List ℕ). Facts (rows_in l w') W) (weights-same d.laid o) (λ s st. (m.claims-are s st, m.restarts-are s st, m.stands s st)))

  leaves-next
      : (f' : ℕ)
      → onwards cap (rows_in l w) (weights_in l w) f l.ranks b.state ≡ rounds_of cap l w f' N.state
      → Leaves l cap w w₂ f' (e + e') s₀
  leaves-next f' q =
      let R = rounds_of cap l w f' N.state in
      let law : rounds_of cap l w (suc f) b.state ≡ N.turns ++ R = rounds-law cap (rows_in l w) (weights_in l w) f l.ranks b.state ∙ ap (λ (x : List Turn). N.turns ++ x) q in
      let h = facts b.state b.stands in
      record {
        state = N.state;
        stands = h.2;
        restarts-are = omega (arith, h.1, b.restarts-are, ap restart_count law, restarts-append N.turns R);
        owners-are =
            ap (λ (x : List ℕ). foldl after_turn x R) (next-owners cap (rows_in l w) (weights_in l w) l.ranks b.state)
            ∙ sym (foldl-append after_turn N.turns R b.state.owners)
            ∙ sym (ap (foldl after_turn b.state.owners) law)
            ∙ b.owners-are;
      }

  leaves-more : (c ≡ 0 → ⊥) → Leaves l cap w w₂ f (e + e') s₀
  unfolding claim_count
  leaves-more z = leaves-next f (split (any is_claim N.turns)
      (λ a. rw a)
      (λ a. absurd (z ((facts b.state b.stands).0 ∙ none-counts is_claim N.turns a))))

  leaves-done : c ≡ 0 → Leaves l cap w w₂ 0 (e + e') s₀
  unfolding claim_count rounds
  leaves-done z = leaves-next 0 (split (any is_claim N.turns)
      (λ a. absurd (omega (arith, (facts b.state b.stands).0, any-counts is_claim N.turns a)))
      (λ a. rw a))

-- what the loop over rounds keeps
pub record GrownBy (l : GrowthRoom) (cap : ℕ) (w w' : List ℕ) (i e : ℕ) : Type 0 where
  pub inside : i ≤ l.level.vertices
  pub outside : Outside l w w'
  pub ready : GrowthReady l w'
  pub few : e ≤ i * 4294967296
  pub leaves : (s : Growing) → StandsIn cap l w w s → Leaves l cap w w' (l.level.vertices - i) e s

pub growth-start : {l : GrowthRoom} {w : List ℕ} (cap : ℕ) → GrowthReady l w → GrownBy l cap w w 0 0
growth-start {l} {w} cap d =
    let z : l.level.vertices - 0 ≡ l.level.vertices = omega arith in
    record {
      inside = omega arith;
      outside = outside_refl l w;
      ready = d;
      few = omega arith;
      leaves = λ s t. rw z (record { state = s; stands = t; restarts-are = omega arith; owners-are = refl });
    }

module _ {l : GrowthRoom} {cap : ℕ} {w w' w₂ : List ℕ} {i e c e' : ℕ} (d : GrowthReady l w) (g : GrownBy l cap w w' i e) (h : i < l.level.vertices)
    (m : More l cap w' w₂ c e') where
  old : (s : Growing) → StandsIn cap l w w s → Leaves l cap w w' (suc (l.level.vertices - (i + 1))) e s
  old s t =
      let z : l.level.vertices - i ≡ suc (l.level.vertices - (i + 1)) = omega arith in
      subst (λ (f : ℕ). Leaves l cap w w' f e s) z (g.leaves s t)

  by-then
      : (j : ℕ)
      → i < j
      → j ≤ l.level.vertices
      → ((s : Growing) → StandsIn cap l w w s → Leaves l cap w w₂ (l.level.vertices - j) (e + e') s)
      → GrownBy l cap w w₂ j (e + e')
  by-then j p q f = record {
    inside = q;
    outside = outside_trans g.outside m.outside;
    ready = m.ready;
    few = omega (arith, g.few, m.few, d.laid.enough, d.laid.few);
    leaves = f;
  }

  pub growth-step : (j : ℕ) → j ≡ cond (eqb c 0) l.level.vertices (i + 1) → GrownBy l cap w w₂ j (e + e')
  growth-step j q = split (eqb c 0)
      (λ z. let jn : j ≡ l.level.vertices = q ∙ rw z in
      let none : 0 ≡ l.level.vertices - j = omega arith in
      by-then j (omega arith) (omega arith)
      (λ s t. subst (λ (f : ℕ). Leaves l cap w w₂ f (e + e') s) none (leaves-done d g.outside (old s t) m (eqb-true c 0 z))))
      (λ z. let jn : j ≡ i + 1 = q ∙ rw z in
      by-then j (omega arith) (omega arith)
      (λ s t. subst (λ (x : ℕ). Leaves l cap w w₂ (l.level.vertices - x) (e + e') s) (sym jn) (leaves-more d g.outside (old s t) m (eqb-false c 0 z))))

pub growth-done
    : {l : GrowthRoom} {cap : ℕ} {w w' : List ℕ} {i e : ℕ} (r : Result ℕ Refusal)
    → GrownBy l cap w w' i e
    → l.level.vertices ≤ i
    → r ≡ grown_answer (left_cause (memory_in l w').owners) e
    → GrownTo l cap w w' r
unfolding rounds restart_count
growth-done {l} {cap} {w} {w'} {i} {e} r g h q = record {
  outside = g.outside;
  owners-are = λ s t. (end s t).stands.owners-are ∙ (end s t).owners-are;
  answer = λ s t.
      let z : e ≡ restart_count (rounds_of cap l w l.level.vertices s) = omega (arith, (end s t).restarts-are) in
      q ∙ ap (grown_answer (left_cause (memory_in l w').owners)) z;
}
  where
    end : (s : Growing) → StandsIn cap l w w s → Leaves l cap w w' 0 e s
    end s t = let z : l.level.vertices - i ≡ 0 = omega arith in subst (λ (f : ℕ). Leaves l cap w w' f e s) z (g.leaves s t)

-- what the loop keeps: some rounds were made, each with a claim, and so many groups are left
pub record Underway (l : GrowthRoom) (cap : ℕ) (w w' : List ℕ) (left e : ℕ) : Type 0 where
  pub made : ℕ
  pub enough : made + left ≤ l.level.vertices
  pub by : GrownBy l cap w w' made e
  pub left_is : left ≡ vacant_in (memory_in l w').owners

pub underway-start : {l : GrowthRoom} {w : List ℕ} (cap left : ℕ) → GrowthReady l w → left ≡ vacant_in (memory_in l w).owners → Underway l cap w w left 0
underway-start {l} {w} cap left d e = record {
  made = 0;
  enough = omega (arith, count-length (eqb unassigned) (memory_in l w).owners, d.good.owners-all, rows_all l w d.laid);
  by = growth-start cap d;
  left_is = e;
}

module _ {l : GrowthRoom} {cap : ℕ} {w w' : List ℕ} {left e : ℕ} (d : GrowthReady l w) (u : Underway l cap w w' left e) where
  -- every group is owned: the definition makes no further round
  pub underway-done : left ≡ 0 → GrownTo l cap w w' (Ok e)
  underway-done z =
      let v = none-vacant (memory_in l w').owners left u.left_is z in
      split (ltb u.made l.level.vertices)
      (λ p. let none = more_no {cap = cap} u.by.ready v in
      growth-done (Ok e) (growth-step d u.by (ltb-true u.made l.level.vertices p) none l.level.vertices refl) (omega arith) (rw v (ap (λ (x : ℕ). Ok x) (omega arith))))
      (λ p. growth-done (Ok e) u.by (ltb-false u.made l.level.vertices p) (rw v refl))

  module _ (some : 0 < left) {w₂ : List ℕ} {c e' : ℕ} (b : Rounded l cap w' w₂ l.ranks c e') where
    more : More l cap w' w₂ c e'
    more = more_yes (some_left (memory_in l w').owners left u.left_is (λ z. omega arith)) b

    pub underway-step : (c ≡ 0 → ⊥) → Underway l cap w w₂ (left - c) (e + e')
    underway-step z = record {
      made = u.made + 1;
      enough = omega (arith, u.enough);
      by = growth-step d u.by (omega (arith, u.enough)) more (u.made + 1) (rw (ne_eqb c 0 z));
      left_is = omega (arith, u.left_is, b.vacant);
    }

    -- a round without a claim
    pub underway-stuck : c ≡ 0 → GrownTo l cap w w₂ (Err GrowthStuck)
    underway-stuck z =
        let v = some_left (memory_in l w₂).owners left (omega (arith, u.left_is, b.vacant)) (λ y. omega arith) in
        growth-done (Err GrowthStuck) (growth-step d u.by (omega (arith, u.enough)) more l.level.vertices (rw (eq-eqb c 0 z))) (omega arith) (rw v)
