-- `Distance` has one solution, and rule 4's distances are it. Assumes nothing.
use Prim.Native.Nat.{ℕ, zero, suc, ◌+◌, ◌≤◌, ◌<◌}
use mathlib.Core.Path.{◌≡◌, refl, sym, ap, ◌∙◌}
use mathlib.Core.Bool.{Bool, true, false, cond, ◌&&◌, false≢true, true≢false}
use mathlib.Core.List.{List, [], ◌∷◌, map}
use mathlib.Core.Logic.{◌⊎◌, inl, inr, ⊎_elim}
use native.Mathlib.Omega.{arith}
use lib.Dec.{eqb, ltb}
use lib.ListN.{length, length-map}
use lib.Seq.{ext_get_or}
use borrow.Author.Tests.{eq-eqb, ne_eqb, eqb-true, eqb-false, lt-ltb, le-ltb, ltb-true, ltb-false}
use Rattle.links.specs.Lists.{at, unassigned, any, elem, range}
use Rattle.links.specs.Graph.{row, vertices, Sound}
use Rattle.links.proofs.ListLaws.{split, tally, all_in, any_of, to-any, length-range}
use Rattle.stages.specs.Seeds.{spread, spread_from, distances, Distance}
use Rattle.stages.specs.SeedsCode.{passing, Near, Nearer}

-- ---- how many numbers below n pass a test

tally-le : (a b : Bool) → (a ≡ true → b ≡ true) → tally a ≤ tally b
tally-le true b f = rw (f refl) (omega arith)
tally-le false b f = omega arith

tally-one : (a : Bool) → tally a ≤ 1
tally-one true = omega arith
tally-one false = omega arith

pub passing-le : (p : ℕ → Bool) (n : ℕ) → passing p n ≤ n
unfolding passing
passing-le p zero = omega arith
passing-le p (suc n) = omega (arith, tally-one (p n), passing-le p n)

passing-mono : (p q : ℕ → Bool) (n : ℕ) → ((i : ℕ) → i < n → p i ≡ true → q i ≡ true) → passing p n ≤ passing q n
unfolding passing
passing-mono p q zero f = omega arith
passing-mono p q (suc n) f = omega (arith, tally-le (p n) (q n) (f n (omega arith)), passing-mono p q n (λ i h. f i (omega arith)))

passing-ext : (p q : ℕ → Bool) (n : ℕ) → ((i : ℕ) → i < n → p i ≡ q i) → passing p n ≡ passing q n
unfolding passing
passing-ext p q zero f = refl
passing-ext p q (suc n) f = rw (f n (omega arith), passing-ext p q n (λ i h. f i (omega arith)))

-- q passes w too, which p does not
passing-more
    : (p q : ℕ → Bool) (n w : ℕ)
    → w < n
    → p w ≡ false
    → q w ≡ true
    → ((i : ℕ) → i < n → (i ≡ w → ⊥) → p i ≡ true → q i ≡ true)
    → suc (passing p n) ≤ passing q n
unfolding passing
passing-more p q zero w h a b f = absurd (omega arith)
passing-more p q (suc n) w h a b f = split (eqb w n)
    (λ e. let e' : n ≡ w = sym (eqb-true w n e) in
    let x : p n ≡ false = ap p e' ∙ a in
    let y : q n ≡ true = ap q e' ∙ b in
    rw (x, y) (omega (arith, passing-mono p q n (λ i l. f i (omega arith) (λ z. omega arith)))))
    (λ e. let d = eqb-false w n e in
    omega (arith, tally-le (p n) (q n) (f n (omega arith) (λ z. d (sym z))), passing-more p q n w (omega arith) a b (λ i l. f i (omega arith))))

-- and passes nothing else more
pub passing-one : (p q : ℕ → Bool) (n w : ℕ) → w < n → p w ≡ false → q w ≡ true → ((i : ℕ) → i < n → (i ≡ w → ⊥) → p i ≡ q i) → passing q n ≡ suc (passing p n)
unfolding passing
passing-one p q zero w h a b f = absurd (omega arith)
passing-one p q (suc n) w h a b f = split (eqb w n)
    (λ e. let e' : n ≡ w = sym (eqb-true w n e) in
    let x : p n ≡ false = ap p e' ∙ a in
    let y : q n ≡ true = ap q e' ∙ b in
    rw (x, y) (omega (arith, passing-ext p q n (λ i l. f i (omega arith) (λ z. omega arith)))))
    (λ e. let d = eqb-false w n e in
    rw (f n (omega arith) (λ z. d (sym z)), passing-one p q n w (omega arith) a b (λ i l. f i (omega arith))) (omega arith))

pub passing-zero : (p : ℕ → Bool) (n : ℕ) → ((i : ℕ) → i < n → p i ≡ false) → passing p n ≡ 0
unfolding passing
passing-zero p zero f = refl
passing-zero p (suc n) f = rw (f n (omega arith), passing-zero p n (λ i h. f i (omega arith)))

-- something that does not pass leaves room
pub passing-room : (p : ℕ → Bool) (n w : ℕ) → w < n → p w ≡ false → passing p n < n
passing-room p n w h a = omega (arith, passing-more p (λ i. true) n w h a refl (λ i l d e. refl), passing-le (λ i. true) n)

-- a number that does not pass, where fewer than n do
pub passing-gap : (p : ℕ → Bool) (n : ℕ) → passing p n < n → (w : ℕ) × (w < n) × (p w ≡ false)
unfolding passing
passing-gap p zero h = absurd (omega arith)
passing-gap p (suc n) h = split (p n)
    (λ e. let k : passing p n < n = omega (arith, ap tally e) in let r = passing-gap p n k in (r.0, omega (arith, r.1), r.2))
    (λ e. (n, omega arith, e))

-- a list holds no more numbers than its length
pub passing-in : (xs : List ℕ) (n : ℕ) → passing (λ v. elem v xs) n ≤ length xs
unfolding passing
passing-in [] n = omega (arith, passing-zero (λ v. false) n (λ i h. refl))
passing-in (x ∷ xs) n = omega (arith, go n, passing-in xs n)
  where
    pick : (i : ℕ) → tally (elem i (x ∷ xs)) ≤ tally (eqb i x) + tally (elem i xs)
    pick i = split (eqb i x) (λ e. rw e (omega arith)) (λ e. rw e (omega arith))

    ones : (m : ℕ) → m ≤ x → passing (λ v. eqb v x) m ≡ 0
    ones m h = passing-zero (λ v. eqb v x) m (λ i l. ne_eqb i x (λ e. omega arith))

    once : (m : ℕ) → passing (λ v. eqb v x) m ≤ 1
    once zero = omega arith
    once (suc m) = split (eqb m x)
        (λ e. let h = eqb-true m x e in rw e (omega (arith, ones m (omega arith))))
        (λ e. rw e (omega (arith, once m)))

    both : (m : ℕ) → passing (λ v. elem v (x ∷ xs)) m ≤ passing (λ v. eqb v x) m + passing (λ v. elem v xs) m
    both zero = omega arith
    both (suc m) = omega (arith, pick m, both m)

    go : (m : ℕ) → passing (λ v. elem v (x ∷ xs)) m ≤ 1 + passing (λ v. elem v xs) m
    go m = omega (arith, both m, once m)

-- ---- distances

module _ (rows : List (List ℕ)) (sound : Sound rows) where
  -- a neighbor is a vertex
  pub below : (v u : ℕ) → v < length rows → elem u (row rows v) ≡ true → u < length rows
  below v u h e = all_in (λ u. u < length rows) (row rows v) u (sound.below v h) e

  pub mirror : (v u : ℕ) → v < length rows → elem u (row rows v) ≡ true → elem v (row rows u) ≡ true
  mirror v u h e = sound.symmetric u v (below v u h e) h ∙ e

  module _ (seeds : List ℕ) (d e : ℕ → ℕ) (D : Distance rows seeds d) (E : Distance rows seeds e) where
    step
        : (k v : ℕ)
        → ((u : ℕ) → u < length rows → e u ≤ k → e u < unassigned → d u ≤ e u)
        → v < length rows
        → e v ≤ suc k
        → e v < unassigned
        → Nearer rows e v
        → d v ≤ e v
    step k v ih h l f r =
        let w = below v r.0 h r.1 in
        let a = r.2 in
        let x : d r.0 ≤ e r.0 = ih r.0 w (omega arith) (omega arith) in
        omega (arith, D.near r.0 w v (mirror v r.0 h r.1))

    no-further : (k v : ℕ) → v < length rows → e v ≤ k → e v < unassigned → d v ≤ e v
    no-further zero v h l f =
        let z : e v ≡ 0 = omega arith in
        omega (arith, D.at-seeds v h (E.seeds-only v h z))
    no-further (suc k) v h l f = split (eqb (e v) 0)
        (λ p. let z = eqb-true (e v) 0 p in omega (arith, D.at-seeds v h (E.seeds-only v h z)))
        (λ p. let z = eqb-false (e v) 0 p in step k v (no-further k) h l f (E.nearer v h (omega arith) f))

    no_more : (v : ℕ) → v < length rows → d v ≤ e v
    no_more v h = split (ltb (e v) unassigned)
        (λ p. no-further (e v) v h (omega arith) (ltb-true (e v) unassigned p))
        (λ p. omega (arith, ltb-false (e v) unassigned p, D.most v h))

  pub unique : (seeds : List ℕ) (d e : ℕ → ℕ) → Distance rows seeds d → Distance rows seeds e → (v : ℕ) → v < length rows → d v ≡ e v
  unique seeds d e D E v h = omega (arith, no_more seeds d e D E v h, no_more seeds e d E D v h)

at_map : (f : ℕ → ℕ) (i n v : ℕ) → v < n → at (map f (range i n)) v ≡ f (i + v)
at_map f i zero v h = absurd (omega arith)
at_map f i (suc n) zero h = ap f (omega arith)
at_map f i (suc n) (suc v) h = at_map f (suc i) n v (omega arith) ∙ ap f (omega arith)

-- after f rounds: what is known of the distances up to f
record Upto (rows : List (List ℕ)) (seeds : List ℕ) (f : ℕ) (d : ℕ → ℕ) : Type 0 where
  most : (v : ℕ) → v < length rows → (d v ≡ unassigned) ⊎ (d v ≤ f)
  at-seeds : (v : ℕ) → v < length rows → elem v seeds ≡ true → d v ≡ 0
  seeds-only : (v : ℕ) → v < length rows → d v ≡ 0 → elem v seeds ≡ true
  near : (v : ℕ) → v < length rows → d v < f → Near rows d v
  nearer : (v : ℕ) → v < length rows → 0 < d v → d v < unassigned → Nearer rows d v
  many : (v : ℕ) → v < length rows → d v ≡ f → f < passing (λ u. ltb (d u) unassigned) (length rows)

-- a round
next_round : List (List ℕ) → ℕ → (ℕ → ℕ) → ℕ → ℕ
next_round rows f d v = cond (eqb (d v) unassigned && any (λ u. eqb (d u) f) (row rows v)) (suc f) (d v)

module _ (rows : List (List ℕ)) (sound : Sound rows) (seeds : List ℕ) (f : ℕ) (few : suc f < unassigned) (d d' : ℕ → ℕ)
    (is : (v : ℕ) → v < length rows → d' v ≡ next_round rows f d v) (U : Upto rows seeds f d) where
  old : (v : ℕ) → v < length rows → (d v ≡ unassigned → ⊥) → d' v ≡ d v
  unfolding next_round
  old v h k = rw (is v h, ne_eqb (d v) unassigned k)

  -- a vertex that gets its distance has a neighbor at f
  fresh : (v : ℕ) → v < length rows → d v ≡ unassigned → any (λ u. eqb (d u) f) (row rows v) ≡ true → d' v ≡ suc f
  unfolding next_round
  fresh v h k e = rw (is v h, eq-eqb (d v) unassigned k, e)

  left : (v : ℕ) → v < length rows → d v ≡ unassigned → any (λ u. eqb (d u) f) (row rows v) ≡ false → d' v ≡ unassigned
  unfolding next_round
  left v h k e = rw (is v h, eq-eqb (d v) unassigned k, e) k

  -- by what became of v
  cases : {A : Type 0} (v : ℕ) → v < length rows
      → ((d v ≡ unassigned → ⊥) → d v ≤ f → d' v ≡ d v → A)
      → (d v ≡ unassigned → d' v ≡ suc f → (u : ℕ) × (elem u (row rows v) ≡ true) × (d u ≡ f) → A)
      → (d v ≡ unassigned → d' v ≡ unassigned → A)
      → A
  cases v h x y z = split (eqb (d v) unassigned)
      (λ p. let k = eqb-true (d v) unassigned p in
      split (any (λ u. eqb (d u) f) (row rows v))
      (λ q. let r = any_of (λ u. eqb (d u) f) (row rows v) q in y k (fresh v h k q) (r.0, r.1, eqb-true (d r.0) f r.2))
      (λ q. z k (left v h k q)))
      (λ p. let k = eqb-false (d v) unassigned p in ⊎_elim (λ m. absurd (k m)) (λ m. x k m (old v h k)) (U.most v h))

  near_next : (v : ℕ) → v < length rows → d v ≤ f → Near rows d' v
  near_next v h l w e =
      let k = below rows sound v w h e in
      let s : d' v ≡ d v = old v h (λ z. omega arith) in
      cases w k
      (λ a b c. split (ltb (d v) f) (λ p. omega (arith, U.near v h (ltb-true (d v) f p) w e)) (λ p. omega (arith, ltb-false (d v) f p)))
      (λ a b c. split (ltb (d v) f) (λ p. absurd (omega (arith, ltb-true (d v) f p, U.near v h (ltb-true (d v) f p) w e))) (λ p. omega (arith, ltb-false (d v) f p)))
      (λ a b. split (ltb (d v) f)
      (λ p. absurd (omega (arith, ltb-true (d v) f p, U.near v h (ltb-true (d v) f p) w e)))
      (λ p. let q : d v ≡ f = omega (arith, ltb-false (d v) f p) in
      let t : any (λ u. eqb (d u) f) (row rows w) ≡ true = to-any (λ u. eqb (d u) f) (row rows w) v (mirror rows sound v w h e) (eq-eqb (d v) f q) in
      absurd (omega (arith, fresh w k a t))))

  many-next : (v : ℕ) → v < length rows → d' v ≡ suc f → suc f < passing (λ u. ltb (d' u) unassigned) (length rows)
  many-next v h e = cases v h
      (λ a b c. absurd (omega arith))
      (λ a b c.
      let x = U.many c.0 (below rows sound v c.0 h c.1) c.2 in
      let y = passing-more (λ u. ltb (d u) unassigned) (λ u. ltb (d' u) unassigned) (length rows) v h (le-ltb (d v) unassigned (omega arith)) (lt-ltb (d' v) unassigned (omega arith))
      (λ i l n p. let m = ltb-true (d i) unassigned p in rw (old i l (λ z. omega arith)) p) in
      omega arith)
      (λ a b. absurd (omega arith))

  round : Upto rows seeds (suc f) d'
  round = record {
    most = λ v h. cases v h (λ a b c. inr (omega arith)) (λ a b c. inr (omega arith)) (λ a b. inl b);
    at-seeds = λ v h e. let z = U.at-seeds v h e in omega (arith, old v h (λ k. omega arith));
    seeds-only = λ v h e. cases v h (λ a b c. U.seeds-only v h (omega arith)) (λ a b c. absurd (omega arith)) (λ a b. absurd (omega arith));
    near = λ v h l. cases v h (λ a b c. near_next v h b) (λ a b c. absurd (omega arith)) (λ a b. absurd (omega arith));
    nearer = λ v h l m. cases v h
        (λ a b c. let r = U.nearer v h (omega arith) (omega arith) in
        let x : d' r.0 ≡ d r.0 = old r.0 (below rows sound v r.0 h r.1) (λ z. omega (arith, r.2)) in
        (r.0, r.1, omega (arith, r.2)))
        (λ a b c. let x : d' c.0 ≡ d c.0 = old c.0 (below rows sound v c.0 h c.1) (λ z. omega (arith, c.2)) in (c.0, c.1, omega (arith, c.2)))
        (λ a b. absurd (omega arith));
    many = many-next;
  }

module _ (rows : List (List ℕ)) (sound : Sound rows) (seeds : List ℕ) (few : length rows < unassigned) where
  n : ℕ
  n = length rows

  -- f rounds more
  rounds : (f g : ℕ) (d : List ℕ) → f + g ≡ length rows → Upto rows seeds g (at d) → Upto rows seeds (length rows) (at (spread_from f rows g d))
  unfolding spread_from spread next_round
  rounds zero g d e U = let q : g ≡ length rows = omega arith in rw (← q) U
  rounds (suc f) g d e U =
      rounds f (suc g) (spread rows g d) (omega arith)
      (round rows sound seeds g (omega arith) (at d) (at (spread rows g d)) (λ v h. at_map (next_round rows g (at d)) 0 (length rows) v h ∙ ap (next_round rows g (at d)) (omega arith)) U)

  first : List ℕ
  first = map (λ v. cond (elem v seeds) 0 unassigned) (vertices rows)

  first-at : (v : ℕ) → v < length rows → at first v ≡ cond (elem v seeds) 0 unassigned
  unfolding first
  first-at v h = at_map (λ v. cond (elem v seeds) 0 unassigned) 0 (length rows) v h ∙ ap (λ (v : ℕ). cond (elem v seeds) 0 unassigned) (omega arith)

  first-case : {A : Type 0} (v : ℕ) → v < length rows → (elem v seeds ≡ true → at first v ≡ 0 → A) → (elem v seeds ≡ false → at first v ≡ unassigned → A) → A
  first-case v h x y = split (elem v seeds) (λ p. x p (rw (first-at v h, p))) (λ p. y p (rw (first-at v h, p)))

  at_first : Upto rows seeds 0 (at first)
  at_first = record {
    most = λ v h. first-case v h (λ p q. inr (omega arith)) (λ p q. inl q);
    at-seeds = λ v h e. first-case v h (λ p q. q) (λ p q. absurd (true≢false (sym e ∙ p)));
    seeds-only = λ v h e. first-case v h (λ p q. p) (λ p q. absurd (omega arith));
    near = λ v h l. absurd (omega arith);
    nearer = λ v h l m. first-case v h (λ p q. absurd (omega arith)) (λ p q. absurd (omega arith));
    many = λ v h e. let x = passing-more (λ u. false) (λ u. ltb (at first u) unassigned) (length rows) v h refl (lt-ltb (at first v) unassigned (omega arith)) (λ i l z p. absurd (false≢true p)) in omega arith;
  }

  -- rule 4's distances have the properties
  pub distances-hold : Distance rows seeds (at (distances rows seeds))
  unfolding distances first
  distances-hold =
      let U = rounds (length rows) 0 first (omega arith) at_first in
      let d : ℕ → ℕ = at (distances rows seeds) in
      record {
        most = λ v h. ⊎_elim (λ e. omega arith) (λ e. omega arith) (U.most v h);
        at-seeds = U.at-seeds;
        seeds-only = U.seeds-only;
        near = λ v h. ⊎_elim
            (λ e w i. let k = below rows sound v w h i in ⊎_elim (λ z. omega arith) (λ z. omega arith) (U.most w k))
            (λ e. split (eqb (d v) (length rows))
            (λ p. absurd (omega (arith, U.many v h (eqb-true (d v) (length rows) p), passing-le (λ u. ltb (d u) unassigned) (length rows))))
            (λ p. let q = eqb-false (d v) (length rows) p in U.near v h (omega arith))) (U.most v h);
        nearer = U.nearer;
      }

  spread-length : (f g : ℕ) (d : List ℕ) → length d ≡ length rows → length (spread_from f rows g d) ≡ length rows
  unfolding spread_from spread
  spread-length zero g d e = e
  spread-length (suc f) g d e = spread-length f (suc g) (spread rows g d) (length-map (vertices rows) _ ∙ length-range 0 (length rows))

  pub distances-length : length (distances rows seeds) ≡ length rows
  unfolding distances
  distances-length = spread-length (length rows) 0 _ (length-map (vertices rows) _ ∙ length-range 0 (length rows))

  -- whatever has the properties is rule 4's distances
  pub distances-are : (d : List ℕ) → length d ≡ length rows → Distance rows seeds (at d) → d ≡ distances rows seeds
  distances-are d e L =
      ext_get_or 0 d (distances rows seeds) (e ∙ sym distances-length)
      (λ i h. unique rows sound seeds (at d) (at (distances rows seeds)) L distances-hold i (rw e at h))
