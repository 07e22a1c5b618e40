-- The search that lowers distances from a new seed: its start, its turns and its end. Assumes nothing.
use Prim.Native.Nat.{ℕ, zero, suc, ◌≤◌, ◌<◌}
use mathlib.Core.Path.{◌≡◌, refl, sym, ap, ◌∙◌, subst}
use mathlib.Core.Bool.{true, false, ◌||◌, false≢true}
use mathlib.Core.List.{List, [], ◌∷◌, ◌++◌}
use mathlib.Core.Logic.{◌⊎◌, inl, inr, ⊎_elim}
use native.Mathlib.Omega.{arith}
use lib.Dec.{eqb, ltb}
use lib.ListN.{length, get_or}
use borrow.Author.Tests.{eq-eqb, eqb-true, eqb-false, lt-ltb, le-ltb, ltb-true, ltb-false}
use Rattle.links.specs.Lists.{unassigned, elem}
use Rattle.links.specs.Graph.{row, degree}
use Rattle.links.proofs.ListLaws.{split, elem-append, elem-this}
use Rattle.stages.specs.Seeds.{Distance}
use Rattle.stages.specs.SeedsCode.{passing, Near, Nearer, Search, Searchable, Searching, Scanning}
use Rattle.stages.proofs.DistanceLaws.{passing-one, passing-zero, passing-room, below, mirror}

pub in-get_or : (xs : List ℕ) (i : ℕ) → i < length xs → elem (get_or xs i 0) xs ≡ true
in-get_or [] i h = absurd (omega arith)
in-get_or (x ∷ xs) zero h = rw (eq-eqb x x refl)
in-get_or (x ∷ xs) (suc i) h = split (eqb (get_or xs i 0) x) (λ p. rw p) (λ p. rw p (in-get_or xs i (omega arith)))

get_or-in : (P : ℕ → Type 0) (xs : List ℕ) (w : ℕ) → ((i : ℕ) → i < length xs → P (get_or xs i 0)) → elem w xs ≡ true → P w
get_or-in P [] w f e = absurd (false≢true e)
get_or-in P (x ∷ xs) w f e = split (eqb w x)
    (λ p. subst P (sym (eqb-true w x p)) (f 0 (omega arith)))
    (λ p. get_or-in P xs w (λ i h. f (suc i) (omega arith)) (rw p at e))

-- the seeds so far, and the new one
in-more : (v s : ℕ) (xs : List ℕ) → elem v (xs ++ (s ∷ [])) ≡ (elem v xs || elem v (s ∷ []))
in-more v s xs = elem-append v xs (s ∷ [])

in-old : (v s : ℕ) (xs : List ℕ) → elem v xs ≡ true → elem v (xs ++ (s ∷ [])) ≡ true
in-old v s xs e = rw (in-more v s xs, e)

in_either : (v s : ℕ) (xs : List ℕ) → elem v (xs ++ (s ∷ [])) ≡ true → (elem v xs ≡ true) ⊎ (v ≡ s)
in_either v s xs e = split (elem v xs)
    (λ p. inl p)
    (λ p. split (eqb v s) (λ q. inr (eqb-true v s q)) (λ q. absurd (false≢true (rw (in-more v s xs, p, q) at e))))

module _ (g : Search) (good : Searchable g) where
  -- the new seed is lowered to 0 and waits
  module _ (d q : ℕ → ℕ) (here : d g.new ≡ 0) (other : (v : ℕ) → v < length g.rows → (v ≡ g.new → ⊥) → d v ≡ g.start v) (head : q 0 ≡ g.new) where
    under-start : (v : ℕ) → v < length g.rows → d v ≤ g.start v
    under-start v h = split (eqb v g.new)
        (λ p. let e : d v ≡ 0 = ap d (eqb-true v g.new p) ∙ here in omega arith)
        (λ p. omega (arith, other v h (eqb-false v g.new p)))

    back_start : (v : ℕ) → v < length g.rows → 0 < d v → d v < unassigned → Nearer g.rows d v
    back_start v h l m =
        let x : v ≡ g.new → ⊥ = λ e. omega (arith, ap d e ∙ here) in
        let y = other v h x in
        let r = good.kept.nearer v h (omega arith) (omega arith) in
        (r.0, r.1, omega (arith, r.2, under-start r.0 (below g.rows good.sound v r.0 h r.1)))

    pub starts : Searching g d q 0 1
    starts =
        let n = length g.rows in
        let one : (i : ℕ) → i < 1 → q i ≡ g.new = λ i l. let z : i ≡ 0 = omega arith in ap q z ∙ head in
        record {
          under = under-start;
          at_new = here;
          seeds-only = λ v h e. split (eqb v g.new)
              (λ p. rw (eqb-true v g.new p) (elem-this g.new g.seeds))
              (λ p. in-old v g.new g.seeds (good.kept.seeds-only v h (omega (arith, other v h (eqb-false v g.new p)))));
          nearer = back_start;
          inside = λ i b. omega (arith, one i b, good.inside);
          lowered = λ i b. let e = one i b in let x : d (q i) ≡ 0 = ap d e ∙ here in let y : g.start (q i) ≡ g.start g.new = ap g.start e in omega (arith, good.fresh);
          once = λ i j a b e. omega arith;
          rises = λ i j b k. omega (arith, ap d (one i (omega arith)) ∙ here);
          front = λ a v h l. split (eqb v g.new)
              (λ p. omega (arith, ap d (eqb-true v g.new p) ∙ here))
              (λ p. absurd (omega (arith, other v h (eqb-false v g.new p))));
          counted =
              passing-one (λ v. false) (λ v. ltb (d v) (g.start v)) n g.new good.inside refl
              (lt-ltb (d g.new) (g.start g.new) (omega (arith, good.fresh)))
              (λ i l x. sym (le-ltb (d i) (g.start i) (omega (arith, other i l x))))
              ∙ ap suc (passing-zero (λ v. false) n (λ i l. refl));
          near = λ v h. split (eqb v g.new)
              (λ p. inl (0, omega arith, omega arith, head ∙ sym (eqb-true v g.new p)))
              (λ p. inr (λ w e.
              let k = below g.rows good.sound v w h e in
              omega (arith, under-start w k, other v h (eqb-false v g.new p), good.kept.near v h w e)));
        }

  -- at the end nothing waits
  pub ends : (d q : ℕ → ℕ) (h t : ℕ) → t ≤ h → Searching g d q h t → Distance g.rows (g.seeds ++ (g.new ∷ [])) d
  ends d q h t le R = record {
    most = λ v l. omega (arith, R.under v l, good.kept.most v l);
    at-seeds = λ v l e. ⊎_elim
        (λ p. omega (arith, R.under v l, good.kept.at-seeds v l p))
        (λ p. ap d p ∙ R.at_new)
        (in_either v g.new g.seeds e);
    seeds-only = R.seeds-only;
    near = λ v l. ⊎_elim (λ p. absurd (omega (arith, p.1, p.2))) (λ p. p) (R.near v l);
    nearer = R.nearer;
  }

  module _ (d q : ℕ → ℕ) (h t : ℕ) where
    pub first_one : Searching g d q h t → h < t → Scanning g d q h t (q h) 0
    first_one R l = record { run = R; more = l; this = refl; done = λ i k. absurd (omega arith) }

    module _ (u j : ℕ) (S : Scanning g d q h t u j) where
      pub u-in : u < length g.rows
      u-in = omega (arith, S.run.inside h S.more, S.this)

      -- the distance of what is scanned fits, and one more does
      pub u-low : d u < unassigned
      u-low =
          let e = S.this in
          let x = S.run.lowered h S.more in
          let y : d (q h) ≡ d u = ap d e in
          let z : g.start (q h) ≡ g.start u = ap g.start e in
          omega (arith, good.kept.most u u-in)

      -- all neighbors were met
      pub scanned : degree g.rows u ≤ j → Searching g d q (suc h) t
      scanned l =
          let R = S.run in
          let full : Near g.rows d u = λ w e. get_or-in (λ w. d w ≤ suc (d u)) (row g.rows u) w (λ i k. S.done i (omega arith)) e in
          record {
            under = R.under;
            at_new = R.at_new;
            seeds-only = R.seeds-only;
            nearer = R.nearer;
            inside = R.inside;
            lowered = R.lowered;
            once = R.once;
            rises = R.rises;
            front = λ a v k m. omega (arith, R.front S.more v k m, R.rises h (suc h) (omega arith) a);
            counted = R.counted;
            near = λ v k. ⊎_elim
                (λ p. split (eqb p.0 h)
                (λ x. let e : u ≡ v = sym S.this ∙ ap q (sym (eqb-true p.0 h x)) ∙ p.3 in inr (subst (λ (z : ℕ). Near g.rows d z) e full))
                (λ x. let z = eqb-false p.0 h x in inl (p.0, omega (arith, p.1), p.2, p.3)))
                (λ p. inr p) (R.near v k);
          }

      module _ (w : ℕ) (l : j < degree g.rows u) (is : get_or (row g.rows u) j 0 ≡ w) where
        w-row : elem w (row g.rows u) ≡ true
        w-row = rw is at (in-get_or (row g.rows u) j l)

        pub w-in : w < length g.rows
        w-in = below g.rows good.sound u w u-in w-row

        -- a neighbor that is near already
        pub passed : d w ≤ suc (d u) → Scanning g d q h t u (suc j)
        passed m = record {
          run = S.run;
          more = S.more;
          this = S.this;
          done = λ i k. split (eqb i j)
              (λ p. rw (eqb-true i j p, is) m)
              (λ p. let z = eqb-false i j p in S.done i (omega arith));
        }

        module _ (m : suc (d u) < d w) where
          -- it was not lowered before
          not_yet : ltb (d w) (g.start w) ≡ false
          not_yet = split (ltb (d w) (g.start w))
              (λ p. absurd (omega (arith, S.run.front S.more w w-in (ltb-true (d w) (g.start w) p), ap d S.this)))
              (λ p. p)

          -- so the queue has room
          pub room : t < length g.rows
          room = omega (arith, S.run.counted, passing-room (λ v. ltb (d v) (g.start v)) (length g.rows) w w-in not_yet)

          module _ (d' q' : ℕ → ℕ) (here : d' w ≡ suc (d u)) (other : (v : ℕ) → v < length g.rows → (v ≡ w → ⊥) → d' v ≡ d v)
              (tail : q' t ≡ w) (same : (i : ℕ) → i < t → q' i ≡ q i) where
            less : (v : ℕ) → v < length g.rows → d' v ≤ d v
            less v k = split (eqb v w)
                (λ p. let e = eqb-true v w p in let x : d' v ≡ d' w = ap d' e in let y : d v ≡ d w = ap d e in omega arith)
                (λ p. omega (arith, other v k (eqb-false v w p)))

            -- what entered before is another
            not-w : (i : ℕ) → i < t → q i ≡ w → ⊥
            not-w i b z = omega (arith, S.run.front S.more (q i) (S.run.inside i b) (S.run.lowered i b), ap d S.this, ap d z)

            waits : (i : ℕ) → i < t → d' (q' i) ≡ d (q i)
            waits i b = ap d' (same i b) ∙ other (q i) (S.run.inside i b) (not-w i b)

            u_same : d' u ≡ d u
            u_same = other u u-in (λ z. omega (arith, ap d z))

            -- by which one of the queue it is
            at_tail : {A : Type 0} (i : ℕ) → i < suc t → (i < t → d' (q' i) ≡ d (q i) → A) → (i ≡ t → d' (q' i) ≡ suc (d u) → A) → A
            at_tail i b x y = split (ltb i t)
                (λ p. let k = ltb-true i t p in x k (waits i k))
                (λ p. let k = ltb-false i t p in let e : i ≡ t = omega arith in y e (ap (λ (z : ℕ). d' (q' z)) e ∙ ap d' tail ∙ here))

            at_most : (i : ℕ) → i < t → d (q i) ≤ suc (d u)
            at_most i b = omega (arith, S.run.front S.more (q i) (S.run.inside i b) (S.run.lowered i b), ap d S.this)

            start-same : (i : ℕ) → i < t → g.start (q' i) ≡ g.start (q i)
            start-same i b = ap g.start (same i b)

            under' : (v : ℕ) → v < length g.rows → d' v ≤ g.start v
            under' v k = omega (arith, less v k, S.run.under v k)

            back' : (v : ℕ) → v < length g.rows → 0 < d' v → d' v < unassigned → Nearer g.rows d' v
            back' v k a b = split (eqb v w)
                (λ p. let e = eqb-true v w p in
                (u, subst (λ (z : ℕ). elem u (row g.rows z) ≡ true) (sym e) (mirror g.rows good.sound u w u-in w-row), omega (arith, u_same, here, ap d' e)))
                (λ p. let y = other v k (eqb-false v w p) in
                let r = S.run.nearer v k (omega arith) (omega arith) in
                (r.0, r.1, omega (arith, r.2, less r.0 (below g.rows good.sound v r.0 k r.1))))

            counted' : passing (λ v. ltb (d' v) (g.start v)) (length g.rows) ≡ suc t
            counted' =
                passing-one (λ v. ltb (d v) (g.start v)) (λ v. ltb (d' v) (g.start v)) (length g.rows) w w-in not_yet
                (lt-ltb (d' w) (g.start w) (omega (arith, here, ltb-false (d w) (g.start w) not_yet, S.run.under w w-in)))
                (λ i k z. ap (λ (x : ℕ). ltb x (g.start i)) (sym (other i k z)))
                ∙ ap suc S.run.counted

            near' : (v : ℕ) → v < length g.rows → ((i : ℕ) × (h ≤ i) × (i < suc t) × (q' i ≡ v)) ⊎ Near g.rows d' v
            near' v k = split (eqb v w)
                (λ p. inl (t, omega (arith, S.more), omega arith, tail ∙ sym (eqb-true v w p)))
                (λ p. ⊎_elim
                (λ r. inl (r.0, r.1, omega (arith, r.2), same r.0 r.2 ∙ r.3))
                (λ r. inr (λ x e. omega (arith, r x e, less x (below g.rows good.sound v x k e), other v k (eqb-false v w p))))
                (S.run.near v k))

            lowered' : (i : ℕ) → i < suc t → d' (q' i) < g.start (q' i)
            lowered' i b = at_tail i b
                (λ k e. omega (arith, S.run.lowered i k, start-same i k))
                (λ k e. let x : g.start (q' i) ≡ g.start w = ap (λ (z : ℕ). g.start (q' z)) k ∙ ap g.start tail in
                omega (arith, ltb-false (d w) (g.start w) not_yet, S.run.under w w-in))

            rises' : (i k : ℕ) → i ≤ k → k < suc t → d' (q' i) ≤ d' (q' k)
            rises' i k b c =
                at_tail k c
                (λ x e. omega (arith, waits i (omega arith), S.run.rises i k b x))
                (λ x e. at_tail i (omega arith) (λ y f. omega (arith, at_most i y)) (λ y f. omega arith))

            inside' : (i : ℕ) → i < suc t → q' i < length g.rows
            inside' i b = at_tail i b
                (λ k e. omega (arith, same i k, S.run.inside i k))
                (λ k e. omega (arith, ap q' k, tail, w-in))

            front' : h < suc t → (v : ℕ) → v < length g.rows → d' v < g.start v → d' v ≤ suc (d' (q' h))
            front' a v k b =
                let e : d' (q' h) ≡ d u = waits h S.more ∙ ap d S.this in
                split (eqb v w)
                (λ p. omega (arith, here, ap d' (eqb-true v w p)))
                (λ p. let y = other v k (eqb-false v w p) in omega (arith, S.run.front S.more v k (omega arith), ap d S.this))

            once' : (i k : ℕ) → i < k → k < suc t → q' i ≡ q' k → ⊥
            once' i k a b e = at_tail k b
                (λ x f. S.run.once i k a x (sym (same i (omega arith)) ∙ e ∙ same k x))
                (λ x f. not-w i (omega arith) (sym (same i (omega arith)) ∙ e ∙ ap q' x ∙ tail))

            done' : (i : ℕ) → i < suc j → d' (get_or (row g.rows u) i 0) ≤ suc (d' u)
            done' i k = split (eqb i j)
                (λ p. let e : get_or (row g.rows u) i 0 ≡ w = ap (λ (z : ℕ). get_or (row g.rows u) z 0) (eqb-true i j p) ∙ is in
                omega (arith, ap d' e, here, u_same))
                (λ p. let z = eqb-false i j p in
                let b : get_or (row g.rows u) i 0 < length g.rows =
                below g.rows good.sound u (get_or (row g.rows u) i 0) u-in (in-get_or (row g.rows u) i (omega arith)) in
                omega (arith, less (get_or (row g.rows u) i 0) b, S.done i (omega arith), u_same))

            -- a neighbor that is lowered
            pub lowers : Scanning g d' q' h (suc t) u (suc j)
            lowers = record {
              run = record {
                under = under';
                at_new = let x : g.new ≡ w → ⊥ = λ z. omega (arith, ap d z, S.run.at_new) in other g.new good.inside x ∙ S.run.at_new;
                seeds-only = λ v k e. split (eqb v w)
                    (λ p. absurd (omega (arith, ap d' (eqb-true v w p))))
                    (λ p. S.run.seeds-only v k (omega (arith, other v k (eqb-false v w p))));
                nearer = back';
                inside = inside';
                lowered = lowered';
                once = once';
                rises = rises';
                front = front';
                counted = counted';
                near = near';
              };
              more = omega (arith, S.more);
              this = same h S.more ∙ S.this;
              done = done';
            }
