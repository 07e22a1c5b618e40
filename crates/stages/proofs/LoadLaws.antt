-- Loads: what a change of one owner does to them, loads by group number, and that growth, moves and swaps keep them within the cap. Assumes nothing.
use Prim.Native.Nat.{ℕ, zero, suc, ◌+◌, ◌≤◌, ◌<◌}
use mathlib.Core.Path.{◌≡◌, refl, sym, ap, ◌∙◌}
use mathlib.Core.Logic.{◌≢◌}
use mathlib.Core.Bool.{Bool, true, false, cond}
use mathlib.Core.List.{List, [], ◌∷◌, ◌++◌, map}
use native.Mathlib.Omega.{arith}
use lib.ListN.{length, set, replicate, length-set, length-replicate, get_or-replicate}
use lib.Seq.{get_or-set_other}
use lib.Dec.{ltb, eqb}
use borrow.Author.Tests.{ne_eqb, eqb-true, ltb-false}
use Rattle.links.specs.Lists.{at, between, unassigned, any, foldl, sum, All}
use Rattle.links.specs.Loads.{Balance}
use Rattle.links.specs.Graph.{load, owned}
use Rattle.stages.specs.Growth.{Choice, passes, claims, restarts, Turn, after_choice, after_turn, seed_owners, weighted_multisource, grown}
use Rattle.stages.specs.Moves.{Step, move, swap, after}
use Rattle.stages.specs.Swaps.{in_balance, keeps_balance}
use Rattle.links.proofs.ListLaws.{split, eqb-sym, tally, count-cons, any_none}
use Rattle.stages.proofs.CutLaws.{swap-ranks}
use Rattle.stages.proofs.StepLaws.{Along, length-after, Swapped, Moved}
use Rattle.stages.proofs.LoadSetLaws.{load-swap}
use Rattle.stages.proofs.GrowthLaws.{Takes, Taking, turn-takes, growth-along}

-- ---- one owner changed

-- the load of a rank grows at most by that weight, and only where it is the new owner
pub load-set-le : (ws os : List ℕ) (v t r : ℕ) → load ws (set os v t) r ≤ load ws os r + cond (eqb t r) (at ws v) 0
unfolding load
load-set-le [] os v t r = omega arith
load-set-le (w ∷ ws) [] v t r = omega arith
load-set-le (w ∷ ws) (o ∷ os) zero t r = omega arith
load-set-le (w ∷ ws) (o ∷ os) (suc v) t r = omega (arith, load-set-le ws os v t r)

-- a vertex that has room where it goes leaves every load within the cap
pub within-set : (cap : ℕ) (ws os : List ℕ) (v t r : ℕ) → load ws os t + at ws v ≤ cap → load ws os r ≤ cap → load ws (set os v t) r ≤ cap
within-set cap ws os v t r room h =
    let l = load-set-le ws os v t r in
    split (eqb t r)
    (λ q. let e : load ws os t ≡ load ws os r = ap (load ws os) (eqb-true t r q) in omega (arith, simp q at l))
    (λ q. omega (arith, simp q at l))

-- nobody's
pub load-none : (ws : List ℕ) (n r : ℕ) → r ≢ unassigned → load ws (replicate n unassigned) r ≡ 0
unfolding load
load-none [] n r h = refl
load-none (w ∷ ws) zero r h = refl
load-none (w ∷ ws) (suc n) r h = rw (ne_eqb unassigned r (λ e. h (sym e)), load-none ws n r h)

-- where every weight is 1, the load is the number owned
pub load-owned : (os : List ℕ) (r : ℕ) → load (replicate (length os) 1) os r ≡ owned os r
unfolding load owned
load-owned [] r = refl
load-owned (o ∷ os) r = omega (arith, load-owned os r, count-cons (eqb r) o os, ap tally (eqb-sym o r))

-- one owner changed, counted
pub owned-set : (os : List ℕ) (v t r : ℕ) → v < length os → owned (set os v t) r + tally (eqb r (at os v)) ≡ owned os r + tally (eqb r t)
unfolding owned
owned-set [] v t r h = absurd (omega arith)
owned-set (o ∷ os) zero t r h = omega (arith, count-cons (eqb r) o os, count-cons (eqb r) t os)
owned-set (o ∷ os) (suc v) t r h =
    omega (arith, count-cons (eqb r) o os, count-cons (eqb r) o (set os v t), owned-set os v t r (omega arith))

-- ---- loads by group number

-- the weights of the vertices whose group passes
unfoldable pub load_by : (ℕ → Bool) → List ℕ → List ℕ → ℕ
load_by P [] gs = 0
load_by P (w ∷ ws) [] = 0
load_by P (w ∷ ws) (g ∷ gs) = cond (P g) w 0 + load_by P ws gs

-- the weights of the groups that pass, which are numbered from i on
unfoldable pub by_index : (ℕ → Bool) → ℕ → List ℕ → ℕ
by_index P i [] = 0
by_index P i (w ∷ ws) = cond (P i) w 0 + by_index P (suc i) ws

-- a load after a take-over, by groups
pub load-by : (ws gs o : List ℕ) (r : ℕ) → load ws (map (at o) gs) r ≡ load_by (λ g. eqb (at o g) r) ws gs
unfolding load load_by
load-by [] gs o r = refl
load-by (w ∷ ws) [] o r = refl
load-by (w ∷ ws) (g ∷ gs) o r = omega (arith, load-by ws gs o r)

-- tests that agree on every group
pub by-ext : (P Q : ℕ → Bool) (ws gs : List ℕ) → ((i : ℕ) → i < length gs → P (at gs i) ≡ Q (at gs i)) → load_by P ws gs ≡ load_by Q ws gs
unfolding load_by
by-ext P Q [] gs h = refl
by-ext P Q (w ∷ ws) [] h = refl
by-ext P Q (w ∷ ws) (g ∷ gs) h = rw (h 0 (omega arith), by-ext P Q ws gs (λ i k. h (suc i) (omega arith)))

-- all pass
pub by_all : (ws gs : List ℕ) → length ws ≤ length gs → load_by (λ g. true) ws gs ≡ sum ws
unfolding load_by
by_all [] gs h = refl
by_all (w ∷ ws) [] h = absurd (omega arith)
by_all (w ∷ ws) (g ∷ gs) h = omega (arith, by_all ws gs (omega arith))

-- nobody is in a group yet
pub by-none : (P : ℕ → Bool) → P unassigned ≡ false → (ws : List ℕ) (n : ℕ) → load_by P ws (replicate n unassigned) ≡ 0
unfolding load_by
by-none P f [] n = refl
by-none P f (w ∷ ws) zero = refl
by-none P f (w ∷ ws) (suc n) = rw (f, by-none P f ws n)

-- one group changed
pub by-set
    : (P : ℕ → Bool) (ws gs : List ℕ) (v t : ℕ)
    → v < length gs
    → v < length ws
    → load_by P ws (set gs v t) + cond (P (at gs v)) (at ws v) 0 ≡ load_by P ws gs + cond (P t) (at ws v) 0
unfolding load_by
by-set P [] gs v t h k = absurd (omega arith)
by-set P (w ∷ ws) [] v t h k = absurd (omega arith)
by-set P (w ∷ ws) (g ∷ gs) zero t h k = omega arith
by-set P (w ∷ ws) (g ∷ gs) (suc v) t h k = omega (arith, by-set P ws gs v t (omega arith) (omega arith))

-- one group more
pub index-snoc
    : (P : ℕ → Bool) (i : ℕ) (ws : List ℕ) (x g : ℕ) → g ≡ i + length ws → by_index P i (ws ++ (x ∷ [])) ≡ by_index P i ws + cond (P g) x 0
unfolding by_index
index-snoc P i [] x g e = let f : g ≡ i = omega arith in rw f (omega arith)
index-snoc P i (w ∷ ws) x g e = omega (arith, index-snoc P (suc i) ws x g (omega arith))

-- tests that agree on every number in range
pub index-ext
    : (P Q : ℕ → Bool) (i : ℕ) (ws : List ℕ)
    → ((g j : ℕ) → g ≡ i + j → j < length ws → P g ≡ Q g)
    → by_index P i ws ≡ by_index Q i ws
unfolding by_index
index-ext P Q i [] h = refl
index-ext P Q i (w ∷ ws) h =
    rw (h i 0 (omega arith) (omega arith), index-ext P Q (suc i) ws (λ g j e k. h g (suc j) (omega arith) (omega arith)))

-- all pass
pub index-all : (i : ℕ) (ws : List ℕ) → by_index (λ g. true) i ws ≡ sum ws
unfolding by_index
index-all i [] = refl
index-all i (w ∷ ws) = omega (arith, index-all (suc i) ws)

-- the groups that a rank owns
pub index-load
    : (P : ℕ → Bool) (i : ℕ) (ws os : List ℕ) (r : ℕ)
    → length os ≡ length ws
    → ((g j : ℕ) → g ≡ i + j → P g ≡ eqb (at os j) r)
    → by_index P i ws ≡ load ws os r
unfolding by_index load
index-load P i [] os r n h = refl
index-load P i (w ∷ ws) [] r n h = absurd (omega arith)
index-load P i (w ∷ ws) (o ∷ os) r n h =
    rw (h i 0 (omega arith), index-load P (suc i) ws os r (omega arith) (λ g j e. h g (suc j) (omega arith)))

-- ---- growth keeps every load within the cap

low-weights : (cap : ℕ) (ws : List ℕ) → any (ltb cap) ws ≡ false → (g : ℕ) → at ws g ≤ cap
low-weights cap ws e g = go ws (any_none (ltb cap) ws e) g
  where
    go : (vs : List ℕ) → All (λ w. ltb cap w ≡ false) vs → (g : ℕ) → at vs g ≤ cap
    go [] a g = omega arith
    go (v ∷ vs) a zero = ltb-false cap v a.0
    go (v ∷ vs) a (suc g) = go vs a.1 g

-- seeds of ranks from i on are nothing to a rank below i
seeds-low : (ws : List ℕ) (n : ℕ) (ss : List ℕ) (i r : ℕ) → r ≢ unassigned → r < i → load ws (seed_owners n ss i) r ≡ 0
unfolding seed_owners
seeds-low ws n [] i r h k = load-none ws n r h
seeds-low ws n (s ∷ ss) i r h k =
    let l = load-set-le ws (seed_owners n ss (suc i)) s i r in
    let f : eqb i r ≡ false = ne_eqb i r (λ e. omega arith) in
    omega (arith, simp f at l, seeds-low ws n ss (suc i) r h (omega arith))

-- growth's start: each rank has its seed at most
seeds-within
    : (cap : ℕ) (ws : List ℕ)
    → ((g : ℕ) → at ws g ≤ cap)
    → (n : ℕ) (ss : List ℕ) (i r : ℕ)
    → r ≢ unassigned
    → load ws (seed_owners n ss i) r ≤ cap
unfolding seed_owners
seeds-within cap ws low n [] i r h = omega (arith, load-none ws n r h)
seeds-within cap ws low n (s ∷ ss) i r h =
    let l = load-set-le ws (seed_owners n ss (suc i)) s i r in
    split (eqb i r)
    (λ q. omega (arith, simp q at l, low s, seeds-low ws n ss (suc i) r h (omega (arith, eqb-true i r q))))
    (λ q. omega (arith, simp q at l, seeds-within cap ws low n ss (suc i) r h))

module _ (cap : ℕ) (rows : List (List ℕ)) (weights : List ℕ) where
  turns-within
      : (r : ℕ) (ts : List Turn) (o : List ℕ)
      → Along (Taking cap weights) after_turn o ts
      → load weights o r ≤ cap
      → load weights (foldl after_turn o ts) r ≤ cap
  unfolding after_choice
  turns-within r [] o a h = h
  turns-within r (t ∷ ts) o a h = turns-within r ts (after_turn o t) a.1 (go t.choice a.0)
    where
      go : (c : Choice) → Takes cap weights o t.rank c → load weights (after_choice o t.rank c) r ≤ cap
      go passes k = h
      go (claims g) k = within-set cap weights o g t.rank r k.1 h
      go (restarts g) k = within-set cap weights o g t.rank r k.1 h

  -- where no group weighs more than the cap, no rank does after growth
  pub growth-within
      : (seeds : List ℕ)
      → any (ltb cap) weights ≡ false
      → (r : ℕ)
      → r ≢ unassigned
      → (let g = weighted_multisource cap rows weights seeds in load weights (grown g g.turns) r ≤ cap)
  unfolding weighted_multisource grown
  growth-within seeds e r h =
      turns-within r (weighted_multisource cap rows weights seeds).turns (seed_owners (length rows) seeds 0)
      (growth-along cap rows weights (Taking cap weights) (λ s q l. turn-takes cap rows weights s q) seeds)
      (seeds-within cap weights (low-weights cap weights e) (length rows) seeds 0 r h)

  -- ---- moves and swaps keep every load within the cap; swaps leave the numbers owned

  -- each move has room where it goes
  pub moves-within
      : (r : ℕ) (ss : List Step) (o : List ℕ)
      → Along (Moved cap rows weights) after o ss
      → load weights o r ≤ cap
      → load weights (foldl after o ss) r ≤ cap
  unfolding after
  moves-within r [] o a h = h
  moves-within r (move v t ∷ ss) o a h = moves-within r ss (after o (move v t)) a.1 (within-set cap weights o v t r a.0.2 h)
  moves-within r (swap u v ∷ ss) o a h = absurd a.0

  -- a swap leaves its two ranks within it, and the others as they were
  pub swaps-within
      : (r : ℕ) (ss : List Step) (o : List ℕ)
      → length o ≡ length rows
      → length weights ≡ length rows
      → Along (Swapped cap rows weights) after o ss
      → load weights o r ≤ cap
      → load weights (foldl after o ss) r ≤ cap
  swaps-within r [] o n m a h = h
  swaps-within r (move v t ∷ ss) o n m a h = absurd a.0
  swaps-within r (swap u v ∷ ss) o n m a h = swaps-within r ss (after o (swap u v)) (length-after o (swap u v) ∙ n) m a.1 here
    where
      here : load weights (after o (swap u v)) r ≤ cap
      here = split (eqb (at o u) r)
          (λ p. let e : at o u ≡ r = eqb-true (at o u) r p in rw e at a.0.3)
          (λ p. split (eqb (at o v) r)
          (λ q. let e : at o v ≡ r = eqb-true (at o v) r q in rw e at a.0.4)
          (λ q. let l = rw (p, q) at (load-swap weights o u v r (rw n a.0.0) (rw n a.0.1) (m ∙ sym n)) in omega (arith, l)))

swap-owned : (o : List ℕ) (u v r : ℕ) → u < length o → v < length o → at o u ≢ at o v → owned (after o (swap u v)) r ≡ owned o r
unfolding after
swap-owned o u v r h k f =
    let d : at (set o u (at o v)) v ≡ at o v = get_or-set_other o u v (at o v) 0 (λ e. f (sym (ap (at o) e))) in
    let b = rw d at (owned-set (set o u (at o v)) v (at o u) r (rw (length-set o u (at o v)) k)) in
    omega (arith, owned-set o u (at o v) r h, b)

-- two of two ranks change places
pub swaps-owned
    : (cap : ℕ) (rows : List (List ℕ)) (weights : List ℕ) (r : ℕ) (ss : List Step) (o : List ℕ)
    → length o ≡ length rows
    → Along (Swapped cap rows weights) after o ss
    → owned (foldl after o ss) r ≡ owned o r
swaps-owned cap rows weights r [] o n a = refl
swaps-owned cap rows weights r (move v t ∷ ss) o n a = absurd a.0
swaps-owned cap rows weights r (swap u v ∷ ss) o n a =
    swaps-owned cap rows weights r ss (after o (swap u v)) (length-after o (swap u v) ∙ n) a.1
    ∙ swap-owned o u v r (rw n a.0.0) (rw n a.0.1) (swap-ranks rows o u v a.0.2)

-- where all weigh 1 a swap leaves every load as it was: that it is in balance before is the whole test
pub ones_keep
    : (b : Balance) (rows : List (List ℕ)) (own : List ℕ) (u v r : ℕ)
    → u < length own
    → v < length own
    → (let ones : List ℕ = replicate (length own) 1 in keeps_balance b rows ones own (swap u v) r ≡ in_balance b rows ones own r)
unfolding keeps_balance in_balance
ones_keep b rows own u v r h k =
    let n = length own in
    let ones : List ℕ = replicate n 1 in
    let one-u : at ones u ≡ 1 = get_or-replicate n u 1 0 h in
    let one-v : at ones v ≡ 1 = get_or-replicate n v 1 0 k in
    let same : load ones (after own (swap u v)) r ≡ load ones own r =
    omega (arith, rw (one-u, one-v) at (load-swap ones own u v r h k (length-replicate n 1))) in
    rw same (split (between b.floor b.cap (load ones own r)) (λ p. rw p) (λ p. rw p))
