-- Ranks that own something: growth leaves each rank its seed, and moves leave no rank empty where the floor is 1 at least. Assumes nothing.
use Prim.Native.Nat.{ℕ, zero, suc, ◌+◌, ◌≤◌, ◌<◌}
use mathlib.Core.Path.{◌≡◌, refl, sym, ap, ◌∙◌}
use mathlib.Core.Logic.{◌≢◌}
use mathlib.Core.Bool.{true}
use mathlib.Core.List.{List, [], ◌∷◌}
use native.Mathlib.Omega.{arith}
use lib.ListN.{length, set, length-set}
use lib.Seq.{get_or-set_same, get_or-set_other}
use lib.Dec.{eqb}
use borrow.Author.Tests.{eqb-true}
use Rattle.links.specs.Lists.{at, unassigned, any, foldl, range}
use Rattle.links.specs.Loads.{Balance}
use Rattle.links.specs.Graph.{load, owned}
use Rattle.links.specs.Owners.{empty_rank, from_owners}
use Rattle.stages.specs.Seeds.{farthest_seeds}
use Rattle.stages.specs.Growth.{Choice, passes, claims, restarts, Turn, after_choice, after_turn, seed_owners, weighted_multisource, grown}
use Rattle.stages.specs.Moves.{Step, move, swap, after, refine_by_cut}
use Rattle.links.proofs.ListLaws.{split, eqb-sym, tally, count-cons, any_of, all_in, all-range}
use Rattle.links.proofs.RowLaws.{all-place}
use Rattle.stages.proofs.StepLaws.{Along, destination-of, moves-along}
use Rattle.stages.proofs.GrowthLaws.{Takes, Taking, turn-takes, growth-along, length-grown, length-seed_owners}
use Rattle.stages.proofs.GrowthStageLaws.{seeds-good}
use Rattle.stages.proofs.LoadSetLaws.{load-set, load-holds}
use Rattle.multilevel.proofs.CheckLaws.{checked}
use Rattle.multilevel.proofs.PairedLaws.{Weighty}

-- each of k ranks has a load
abbrev pub Peopled : ℕ → List ℕ → List ℕ → Type 0
Peopled k ws o = (r : ℕ) → r < k → 1 ≤ load ws o r

-- ---- the check finds no empty rank

load-empty : (ws os : List ℕ) (r : ℕ) → owned os r ≡ 0 → load ws os r ≡ 0
unfolding load owned
load-empty [] os r e = refl
load-empty (w ∷ ws) [] r e = refl
load-empty (w ∷ ws) (o ∷ os) r e = split (eqb o r)
    (λ p. absurd (omega (arith, count-cons (eqb r) o os, ap tally (eqb-sym r o ∙ p))))
    (λ p. rw p (omega (arith, load-empty ws os r (omega (arith, count-cons (eqb r) o os)))))

pub check-peopled : (k : ℕ) (ws o : List ℕ) → Peopled k ws o → from_owners k o ≢ 9
unfolding empty_rank
check-peopled k ws o p e =
    let empty : any (λ r. eqb (owned o r) 0) (range 0 k) ≡ true = (checked k o).1 e in
    let w = any_of (λ r. eqb (owned o r) 0) (range 0 k) empty in
    let low : w.0 < k = all_in (λ r. r < k) (range 0 k) w.0 (all-range (λ r. r < k) 0 k (λ x h j. omega arith)) w.1 in
    omega (arith, p w.0 low, load-empty ws o w.0 (eqb-true (owned o w.0) 0 w.2))

-- ---- growth leaves each rank its seed

-- a rank's seed is its own at the start, where it is no other's
seed-owner
    : (n : ℕ) (ss : List ℕ) (i r d : ℕ)
    → r ≡ i + d
    → d < length ss
    → at ss d < n
    → ((c : ℕ) → c < d → at ss c ≢ at ss d)
    → at (seed_owners n ss i) (at ss d) ≡ r
unfolding seed_owners
seed-owner n [] i r d e h k f = absurd (omega arith)
seed-owner n (s ∷ ss) i r zero e h k f =
    get_or-set_same (seed_owners n ss (suc i)) s i 0 (rw (length-seed_owners n ss (suc i)) k) ∙ (let z : i ≡ r = omega arith in z)
seed-owner n (s ∷ ss) i r (suc d) e h k f =
    get_or-set_other (seed_owners n ss (suc i)) s (at ss d) i 0 (λ z. f 0 (omega arith) (sym z))
    ∙ seed-owner n ss (suc i) r d (omega arith) (omega arith) k (λ c l. f (suc c) (omega arith))

-- a turn claims only unowned groups, so what is owned stays so
turns-keep
    : (cap : ℕ) (ws : List ℕ) (x : ℕ) (ts : List Turn) (o : List ℕ)
    → Along (Taking cap ws) after_turn o ts
    → at o x ≢ unassigned
    → at (foldl after_turn o ts) x ≡ at o x
unfolding after_choice
turns-keep cap ws x [] o a d = refl
turns-keep cap ws x (t ∷ ts) o a d =
    let same = go t.choice a.0 in
    turns-keep cap ws x ts (after_turn o t) a.1 (λ z. d (sym same ∙ z)) ∙ same
  where
    go : (c : Choice) → Takes cap ws o t.rank c → at (after_choice o t.rank c) x ≡ at o x
    go passes k = refl
    go (claims g) k = get_or-set_other o g x t.rank 0 (λ z. d (ap (at o) z ∙ k.0))
    go (restarts g) k = get_or-set_other o g x t.rank 0 (λ z. d (ap (at o) z ∙ k.0))

pub growth-peopled
    : (cap : ℕ) (rows : List (List ℕ)) (ws : List ℕ) (k : ℕ)
    → Weighty ws
    → length ws ≡ length rows
    → k ≤ length rows
    → k < unassigned
    → (let g = weighted_multisource cap rows ws (farthest_seeds rows k) in Peopled k ws (grown g g.turns))
unfolding weighted_multisource grown
growth-peopled cap rows ws k some-weight weighed enough few r h =
    let ss = farthest_seeds rows k in
    let g = weighted_multisource cap rows ws ss in
    let start = seed_owners (length rows) ss 0 in
    let o = grown g g.turns in
    let good = seeds-good rows k enough in
    let x = at ss r in
    let xn : x < length rows = good.inside r h in
    let first : at start x ≡ r =
    seed-owner (length rows) ss 0 r r (omega arith) (omega (arith, good.all)) xn
    (λ c l e. let z : c ≡ r = good.apart c r (omega arith) h e in omega arith) in
    let along = growth-along cap rows ws (Taking cap ws) (λ s q l. turn-takes cap rows ws s q) ss in
    let last : at o x ≡ r = turns-keep cap ws x g.turns start along (λ z. omega arith) ∙ first in
    let held : at ws x ≤ load ws o r = rw last at (load-holds ws o x (omega (arith, length-grown g g.turns))) in
    omega (arith, all-place (λ w. 1 ≤ w) ws x some-weight (omega arith))

-- ---- moves leave no rank empty where the floor is 1 at least

-- a vertex leaves only a rank that has the floor without it
abbrev Leaving : Balance → List (List ℕ) → List ℕ → List ℕ → Step → Type 0
Leaving b rows ws o (move v r) = (v < length rows) × (b.floor + at ws v ≤ load ws o (at o v))
Leaving b rows ws o (swap u v) = ⊥

module _ (b : Balance) (rows : List (List ℕ)) (ws : List ℕ) (weighed : length ws ≡ length rows) (floored : 1 ≤ b.floor) where
  leaves-peopled
      : (o : List ℕ) (v t : ℕ)
      → length o ≡ length rows
      → v < length rows
      → b.floor + at ws v ≤ load ws o (at o v)
      → Peopled b.ranks ws o
      → Peopled b.ranks ws (set o v t)
  leaves-peopled o v t n h leaves p r k =
      let l = load-set ws o v t r (omega arith) (omega arith) in
      split (eqb (at o v) r)
      (λ q. let e : load ws o (at o v) ≡ load ws o r = ap (load ws o) (eqb-true (at o v) r q) in omega (arith, simp q at l))
      (λ q. omega (arith, simp q at l, p r k))

  steps-peopled
      : (ss : List Step) (o : List ℕ)
      → length o ≡ length rows
      → Along (Leaving b rows ws) after o ss
      → Peopled b.ranks ws o
      → Peopled b.ranks ws (foldl after o ss)
  unfolding after
  steps-peopled [] o n a p = p
  steps-peopled (move v r ∷ ss) o n a p =
      steps-peopled ss (set o v r) (length-set o v r ∙ n) a.1 (leaves-peopled o v r n a.0.0 a.0.1 p)
  steps-peopled (swap u v ∷ ss) o n a p = absurd a.0

  pub moves-peopled
      : (refinement_passes : ℕ) (o : List ℕ)
      → length o ≡ length rows
      → Peopled b.ranks ws o
      → Peopled b.ranks ws (foldl after o (refine_by_cut b rows ws refinement_passes o).steps)
  moves-peopled refinement_passes o n p =
      steps-peopled (refine_by_cut b rows ws refinement_passes o).steps o n
      (moves-along b rows ws (Leaving b rows ws) (λ o v r h e. (h, (destination-of b rows ws o v r e).0)) refinement_passes o) p
