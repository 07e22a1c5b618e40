-- What the target of rule 6 is, and that it is found among the owners of a vertex's neighbors, in whatever order they are met: it passes the test
-- and beats every other that passes; there is at most one such. Assumes nothing.
use Prim.Native.Nat.{ℕ, zero, suc, ◌+◌, ◌-◌, ◌<◌}
use mathlib.Core.Path.{◌≡◌, refl, sym, ap, ◌∙◌, subst}
use mathlib.Core.Logic.{◌⊎◌, inl, inr, ⊎_elim}
use mathlib.Core.Bool.{Bool, true, false, ◌&&◌, cond, true≢false, false≢true}
use mathlib.Core.List.{List, [], ◌∷◌, map}
use mathlib.Core.Option.{Option, none, some}
use Rattle.std.specs.Prelude as code
use Rattle.std.specs.Prelude.{Some, None}
use native.Mathlib.Omega.{arith}
use lib.Dec.{ltb, eqb}
use borrow.Author.Tests.{eq-eqb, ne_eqb, eqb-true, eqb-false, ltb-true, ltb-false, le-ltb}
use Rattle.links.specs.Lists.{at, All, above, filter, foldl, best, range, elem}
use Rattle.links.specs.Loads.{Balance}
use Rattle.links.specs.Graph.{row, links_to, load}
use Rattle.links.proofs.ListLaws.{split, and_l, and_r, Above, is-above, not-above, above-next, above-trans, above-once, above-last, all_in, all_map, all-range, any_of, to-any, elem-map, elem-range}
use Rattle.links.proofs.BestLaws.{met, step, left, one_more, all-met}
use Rattle.stages.specs.declared.moves.Offer.{Offer}
use Rattle.stages.specs.Moves.{move, gain, may_join, preferred, target}
use Rattle.stages.specs.MovesCode.{offer_of, outbids, better_offer, offered, tempts, tempting}
use Rattle.stages.proofs.TallyLaws.{links-some}

nothing : {A : Type 0} (x : ℕ) → ◌≡◌ {A = Option ℕ} none (some x) → A
nothing x e = let z : ◌≡◌ {A = ℕ} 0 1 = cc in absurd (omega arith)

module _ (g h : ℕ → ℕ) where
  -- of two ranks with their gains and loads: "greatest gain", then "smaller load", then "lower crew number"
  abbrev pub Beats : ℕ → ℕ → Type 0
  Beats a b = Above (g a) (g b) (Above (h b) (h a) (a < b))

  -- the same as a test
  abbrev pub wins : ℕ → ℕ → Bool
  wins a b = above (g a) (g b) (above (h b) (h a) (ltb a b))

  wins-true : (a b : ℕ) → wins a b ≡ true → Beats a b
  wins-true a b e =
      above-next (g a) (g b)
      (λ p. above-next (h b) (h a) (ltb-true a b) (is-above (h b) (h a) (ltb a b) p))
      (is-above (g a) (g b) (above (h b) (h a) (ltb a b)) e)

  wins-false : (a b : ℕ) → wins a b ≡ false → (a ≡ b) ⊎ Beats b a
  wins-false a b e = split (eqb a b)
      (λ p. inl (eqb-true a b p))
      (λ p.
      let n = eqb-false a b p in
      inr (above-next (g b) (g a)
      (λ q. above-next (h a) (h b) (λ r. omega (arith, ltb-false a b r)) (not-above (h b) (h a) (ltb a b) q))
      (not-above (g a) (g b) (above (h b) (h a) (ltb a b)) e)))

  beats-trans : (a b c : ℕ) → Beats a b → Beats b c → Beats a c
  beats-trans a b c x y = above-trans (g a) (g b) (g c) (λ p q. above-trans (h c) (h b) (h a) (λ i k. omega arith) q p) x y

  beats-once : (a b : ℕ) → Beats a b → Beats b a → ⊥
  beats-once a b x y = above-once (g a) (g b) (λ p q. above-once (h b) (h a) (λ i k. omega arith) p q) x y

  -- what is chosen of those for which P holds
  pub record Top (P : ℕ → Type 0) (o : Option ℕ) : Type 0 where
    pub nobody : o ≡ none → (s : ℕ) → P s → ⊥
    pub passes : (r : ℕ) → o ≡ some r → P r
    pub beats : (r : ℕ) → o ≡ some r → (s : ℕ) → P s → (s ≡ r) ⊎ Beats r s

  pub top_unique : (P : ℕ → Type 0) (o o' : Option ℕ) → Top P o → Top P o' → o ≡ o'
  top_unique P none none a b = refl
  top_unique P none (some s) a b = absurd (a.nobody refl s (b.passes s refl))
  top_unique P (some r) none a b = absurd (b.nobody refl r (a.passes r refl))
  top_unique P (some r) (some s) a b =
      ⊎_elim
      (λ e. ap some (sym e))
      (λ x. ⊎_elim (λ e. ap some e) (λ y. absurd (beats-once r s x y)) (b.beats s refl r (a.passes r refl)))
      (a.beats r refl s (b.passes s refl))

  top-none : (P : ℕ → Type 0) → ((s : ℕ) → P s → ⊥) → Top P none
  top-none P f = record { nobody = λ e s h. f s h; passes = λ r e. nothing r e; beats = λ r e. nothing r e }

  some_is : {x y : ℕ} → ◌≡◌ {A = Option ℕ} (some x) (some y) → x ≡ y
  some_is e = cc

  module _ (ok : ℕ → Bool) where
    -- one more is met
    top-step
        : (P Q : ℕ → Type 0) (c : Option ℕ) (x : ℕ)
        → Top P c
        → ((s : ℕ) → P s → Q s)
        → (ok x ≡ true → Q x)
        → ((s : ℕ) → Q s → P s ⊎ ((s ≡ x) × (ok x ≡ true)))
        → Top Q (step wins ok c x)
    top-step P Q c x t in-Q x-Q of-Q = split (ok x) (λ p. rw p (meets c t p)) (λ p. rw p (stays p))
      where
        stays : ok x ≡ false → Top Q c
        stays p = record {
          nobody = λ e s q. ⊎_elim (λ h. t.nobody e s h) (λ h. true≢false (sym h.1 ∙ p)) (of-Q s q);
          passes = λ r e. in-Q r (t.passes r e);
          beats = λ r e s q. ⊎_elim (λ h. t.beats r e s h) (λ h. absurd (true≢false (sym h.1 ∙ p))) (of-Q s q);
        }

        takes : (r : ℕ) → Top P (some r) → ok x ≡ true → Beats x r → Top Q (some x)
        takes r t p b = record {
          nobody = λ e. nothing x (sym e);
          passes = λ y e. subst Q (some_is e) (x-Q p);
          beats = λ y e s q.
              let f : x ≡ y = some_is e in
              ⊎_elim
              (λ h. inr (⊎_elim (λ (i : s ≡ r). rw (← f, i) b) (λ i. rw (← f) (beats-trans x r s b i)) (t.beats r refl s h)))
              (λ h. inl (h.0 ∙ f))
              (of-Q s q);
        }

        keeps : (r : ℕ) → Top P (some r) → (x ≡ r) ⊎ Beats r x → Top Q (some r)
        keeps r t b = record {
          nobody = λ e. nothing r (sym e);
          passes = λ y e. in-Q y (t.passes y e);
          beats = λ y e s q.
              let f : r ≡ y = some_is e in
              ⊎_elim
              (λ h. t.beats y e s h)
              (λ h. ⊎_elim (λ i. inl (h.0 ∙ i ∙ f)) (λ i. inr (rw (← f, h.0) i)) b)
              (of-Q s q);
        }

        meets : (c : Option ℕ) → Top P c → ok x ≡ true → Top Q (met wins c x)
        meets none t p = record {
          nobody = λ e. nothing x (sym e);
          passes = λ y e. subst Q (some_is e) (x-Q p);
          beats = λ y e s q. ⊎_elim (λ h. absurd (t.nobody refl s h)) (λ h. inl (h.0 ∙ some_is e)) (of-Q s q);
        }
        meets (some r) t p = split (wins x r)
            (λ w. rw w (takes r t p (wins-true x r w)))
            (λ w. rw w (keeps r t (wins-false x r w)))

    -- the best of a range by gains and loads, where "the lower crew number" is by ranks that rise
    module _ (better : ℕ → ℕ → Bool) (agrees : (i j : ℕ) → i < j → ok i ≡ true → ok j ≡ true → better j i ≡ wins j i) where
      abbrev Below : ℕ → ℕ → Type 0
      Below i s = (s < i) × (ok s ≡ true)

      same_step : (i : ℕ) (c : Option ℕ) → Top (Below i) c → step better ok c i ≡ step wins ok c i
      same_step i none t = refl
      same_step i (some r) t = split (ok i)
          (λ p. let b = t.passes r refl in rw (p, agrees r i b.0 b.1 p))
          (λ p. rw p)

      go : (d k i : ℕ) (c : Option ℕ) → i + d ≡ k → Top (Below i) c → Top (Below k) (left better ok k i c)
      go zero k i c e t =
          let f : i ≡ k = omega arith in
          rw (all-met better ok k i c (omega arith)) (subst (λ (m : ℕ). Top (Below m) c) f t)
      go (suc d) k i c e t =
          rw (one_more better ok k i c (omega arith), same_step i c t)
          (go d k (i + 1) (step wins ok c i) (omega arith)
          (top-step (Below i) (Below (i + 1)) c i t
          (λ s h. (omega arith, h.1))
          (λ p. (omega arith, p))
          (λ s h. split (eqb s i)
          (λ q. inr (eqb-true s i q, rw (← (eqb-true s i q)) h.1))
          (λ q. let n = eqb-false s i q in inl (omega arith, h.1)))))

      pub top-best : (k : ℕ) → Top (Below k) (best better (filter ok (range 0 k)))
      top-best k =
          let e : k - 0 ≡ k = omega arith in
          rw e at (go k k 0 none (omega arith) (top-none (Below 0) (λ s h. let z : s < 0 = h.0 in omega arith)))

    -- the best of a list in any order, with repeats
    pub top-list
        : (xs : List ℕ) (P Q : ℕ → Type 0) (c : Option ℕ)
        → Top P c
        → ((s : ℕ) → P s → Q s)
        → ((s : ℕ) → elem s xs ≡ true → ok s ≡ true → Q s)
        → ((s : ℕ) → Q s → P s ⊎ ((elem s xs ≡ true) × (ok s ≡ true)))
        → Top Q (foldl (step wins ok) c xs)
    top-list [] P Q c t in-Q xs-Q of-Q = record {
      nobody = λ e s q. ⊎_elim (λ h. t.nobody e s h) (λ h. false≢true h.0) (of-Q s q);
      passes = λ r e. in-Q r (t.passes r e);
      beats = λ r e s q. ⊎_elim (λ h. t.beats r e s h) (λ h. absurd (false≢true h.0)) (of-Q s q);
    }
    top-list (x ∷ xs) P Q c t in-Q xs-Q of-Q =
        let P' : ℕ → Type 0 = λ s. P s ⊎ ((s ≡ x) × (ok x ≡ true)) in
        top-list xs P' Q (step wins ok c x)
        (top-step P P' c x t (λ s h. inl h) (λ p. inr (refl, p)) (λ s h. h))
        (λ s h. ⊎_elim (λ i. in-Q s i) (λ i. xs-Q s (rw (eq-eqb s x i.0)) (rw i.0 i.1)) h)
        (λ s h i. xs-Q s (split (eqb s x) (λ p. rw p) (λ p. rw p h)) i)
        (λ s q. ⊎_elim (λ h. inl (inl h))
        (λ h. split (eqb s x)
        (λ p. inl (inr (eqb-true s x p, rw (← (eqb-true s x p)) h.1)))
        (λ p. inr (rw p at h.0, h.1)))
        (of-Q s q))

-- ---- the code's choice: the best so far, if any, is some rank's own offer

module _ (g h : ℕ → ℕ) (ok : ℕ → Bool) where
  abbrev pub own_offer : ℕ → Offer
  own_offer r = record { gain = g r; load = h r; rank = r }

  module _ (off : ℕ → code.Option Offer) (is : (r : ℕ) → off r ≡ cond (ok r) (Some (own_offer r)) None) where
    abbrev Held : code.Option Offer → Type 0
    Held c = (o : Offer) → c ≡ Some o → o ≡ own_offer o.rank

    held-step : (c : code.Option Offer) (x : ℕ) → Held c → Held (better_offer c (off x))
    unfolding better_offer
    held-step c x k = split (ok x) (λ p. rw (is x, p) (go c k)) (λ p. rw (is x, p) (stay c k))
      where
        mine : Held (Some (own_offer x))
        mine o e = let f : own_offer x ≡ o = cc in rw (← f)

        pick : (b : Bool) (o : Offer) → Held (Some o) → Held (Some (cond b (own_offer x) o))
        pick true o k = mine
        pick false o k = k

        go : (c : code.Option Offer) → Held c → Held (better_offer c (Some (own_offer x)))
        go None k = mine
        go (Some o) k = pick (outbids (own_offer x) o) o k

        stay : (c : code.Option Offer) → Held c → Held (better_offer c None)
        stay None k = k
        stay (Some o) k = k

    offered-step : (c : code.Option Offer) (x : ℕ) → Held c → offered (better_offer c (off x)) ≡ step (wins g h) ok (offered c) x
    unfolding better_offer offered
    offered-step None x k = split (ok x) (λ p. rw (is x, p)) (λ p. rw (is x, p))
    offered-step (Some o) x k = split (ok x)
        (λ p.
        let e : o ≡ own_offer o.rank = k o refl in
        let i : o.gain ≡ g o.rank = ap (λ (z : Offer). z.gain) e in
        let d : o.load ≡ h o.rank = ap (λ (z : Offer). z.load) e in
        let test : outbids (own_offer x) o ≡ wins g h x o.rank = rw (i, d) in
        rw (is x, p, test) (pick (wins g h x o.rank)))
        (λ p. rw (is x, p))
      where
        pick : (b : Bool) → offered (Some (cond b (own_offer x) o)) ≡ some (cond b x o.rank)
        pick true = refl
        pick false = refl

    -- over a list
    pub offered-list
        : (xs : List ℕ) (c : code.Option Offer) → Held c → offered (foldl (λ b x. better_offer b (off x)) c xs) ≡ foldl (step (wins g h) ok) (offered c) xs
    offered-list [] c k = refl
    offered-list (x ∷ xs) c k =
        offered-list xs (better_offer c (off x)) (held-step c x k)
        ∙ ap (λ (c : Option ℕ). foldl (step (wins g h) ok) c xs) (offered-step c x k)

module _ (b : Balance) (rows : List (List ℕ)) (weights owners : List ℕ) (v : ℕ) where
  -- what rank r offers v
  abbrev pub offer_at : ℕ → code.Option Offer
  offer_at r = offer_of b.cap (at weights v) (load weights owners r) (links_to rows owners v r) (links_to rows owners v (at owners v)) r

  -- the best of what the listed ranks offer v
  abbrev pub best_offer : List ℕ → code.Option Offer
  best_offer rs = foldl (λ o r. better_offer o (offer_at r)) None rs

  abbrev passing : ℕ → Bool
  passing r = ltb 0 (gain rows owners (move v r)) && may_join b rows weights owners v r

  abbrev gains : ℕ → ℕ
  gains r = gain rows owners (move v r)

  abbrev loads : ℕ → ℕ
  loads r = load weights owners r

  opens : (r : ℕ) → offer_at r ≡ cond (passing r) (Some (own_offer gains loads passing r)) None
  unfolding offer_of may_join gain
  opens r = refl

  agrees : (i j : ℕ) → i < j → passing i ≡ true → passing j ≡ true → preferred b rows weights owners v j i ≡ wins gains loads j i
  unfolding preferred
  agrees i j h p q = rw (le-ltb j i (omega arith), above-last (load weights owners i) (load weights owners j))

  start : offered None ≡ none
  unfolding offered
  start = refl

  -- a rank without a neighbor of v gains nothing
  has-neighbor : (r : ℕ) → passing r ≡ true → elem r (map (at owners) (row rows v)) ≡ true
  unfolding gain
  has-neighbor r p =
      let l = ltb-true 0 (gain rows owners (move v r)) (and_l (ltb 0 (gain rows owners (move v r))) (may_join b rows weights owners v r) p) in
      links-some (row rows v) owners r (omega arith)

  -- the target is the best of ranks among which are all that pass
  target-among
      : (rs : List ℕ)
      → All (λ r. r < b.ranks) rs
      → ((r : ℕ) → r < b.ranks → passing r ≡ true → elem r rs ≡ true)
      → offered (best_offer rs) ≡ target b rows weights owners v
  unfolding target
  target-among rs low listed =
      let P : ℕ → Type 0 = λ s. (s < b.ranks) × (passing s ≡ true) in
      let nobody : ℕ → Type 0 = λ s. ⊥ in
      offered-list gains loads passing offer_at opens rs None (λ o e. cc)
      ∙ top_unique gains loads P (foldl (step (wins gains loads) passing) (offered None) rs)
      (best (preferred b rows weights owners v) (filter passing (range 0 b.ranks)))
      (rw start (top-list gains loads passing rs nobody P none (top-none gains loads nobody (λ s z. z))
      (λ s z. absurd z)
      (λ s e p. (all_in (λ r. r < b.ranks) rs s low e, p))
      (λ s q. inr (listed s q.0 q.1, q.1))))
      (top-best gains loads passing (preferred b rows weights owners v) agrees b.ranks)

  pub target-by-row : All (λ u. at owners u < b.ranks) (row rows v) → offered (best_offer (map (at owners) (row rows v))) ≡ target b rows weights owners v
  target-by-row a = target-among (map (at owners) (row rows v)) (all_map (λ r. r < b.ranks) (at owners) (row rows v) a) (λ r h p. has-neighbor r p)

  pub target-by-ranks : offered (best_offer (range 0 b.ranks)) ≡ target b rows weights owners v
  target-by-ranks =
      target-among (range 0 b.ranks) (all-range (λ r. r < b.ranks) 0 b.ranks (λ r l h. omega arith))
      (λ r h p. elem-range r 0 b.ranks (omega arith) (omega arith))

  -- a target is a rank
  pub target-rank : (r : ℕ) → target b rows weights owners v ≡ some r → r < b.ranks
  unfolding target
  target-rank r e = ((top-best gains loads passing (preferred b rows weights owners v) agrees b.ranks).passes r e).0

  -- one that passes tempts v: it is not v's own, which gains nothing, and owns a neighbor
  passing-tempts : (r : ℕ) → passing r ≡ true → tempts b.cap (at weights v) (load weights owners r) (at owners v) r ≡ true
  unfolding tempts may_join gain
  passing-tempts r p =
      let l = ltb-true 0 (gain rows owners (move v r)) (and_l (ltb 0 (gain rows owners (move v r))) (may_join b rows weights owners v r) p) in
      let j = and_r (ltb 0 (gain rows owners (move v r))) (may_join b rows weights owners v r) p in
      let other : r ≡ at owners v → ⊥ = λ e. let z : 0 < links_to rows owners v (at owners v) - links_to rows owners v (at owners v) = rw e at l in omega arith in
      rw (ne_eqb r (at owners v) other) j

  passing-tempting : (r : ℕ) → passing r ≡ true → tempting b rows weights owners v ≡ true
  unfolding tempting
  passing-tempting r p =
      let test : ℕ → Bool = λ u. tempts b.cap (at weights v) (load weights owners (at owners u)) (at owners v) (at owners u) in
      let u = any_of (λ u. eqb r (at owners u)) (row rows v) (sym (elem-map r (at owners) (row rows v)) ∙ has-neighbor r p) in
      let e : r ≡ at owners u.0 = eqb-true r (at owners u.0) u.2 in
      to-any test (row rows v) u.0 u.1 (rw (← e) (passing-tempts r p))

  target-passes : (r : ℕ) → target b rows weights owners v ≡ some r → passing r ≡ true
  unfolding target
  target-passes r e = ((top-best gains loads passing (preferred b rows weights owners v) agrees b.ranks).passes r e).1

  -- a vertex that no rank tempts has no target
  pub untempted : tempting b rows weights owners v ≡ false → target b rows weights owners v ≡ none
  untempted f = go (target b rows weights owners v) (λ r e. e)
    where
      go : (o : Option ℕ) → ((r : ℕ) → o ≡ some r → target b rows weights owners v ≡ some r) → o ≡ none
      go none h = refl
      go (some r) h = absurd (true≢false (sym (passing-tempting r (target-passes r (h r refl))) ∙ f))
