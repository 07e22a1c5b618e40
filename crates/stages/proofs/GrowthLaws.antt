-- Growth: at every turn a rank passes exactly when no unowned group fits, and as many rounds as groups are enough. Assumes nothing.
use Prim.Native.Nat.{ℕ, zero, suc, ◌+◌, ◌≤◌, ◌<◌}
use mathlib.Core.Path.{◌≡◌, refl, sym, ap, ap₂, ◌∙◌}
use mathlib.Core.Logic.{◌↔◌, ◌≢◌}
use mathlib.Core.Bool.{Bool, true, false, not, ◌&&◌, cond, true≢false}
use mathlib.Core.List.{List, [], ◌∷◌, ◌++◌, map, append_assoc}
use mathlib.Core.Option.{Option, none, some}
use native.Mathlib.Omega.{arith}
use lib.ListN.{length, get_or, set, length-append, length-replicate, length-set}
use lib.Dec.{leb, ltb, eqb}
use borrow.Author.Tests.{eq-eqb, ne_eqb, eqb-true, le-leb, leb-true}
use Rattle.links.specs.Lists.{at, unassigned, filter, any, foldl, best, range}
use Rattle.links.specs.Graph.{vertices, degree, load}
use Rattle.stages.specs.Seeds.{next_seed, farthest_seeds}
use Rattle.stages.specs.Growth.{Choice, passes, claims, restarts, Turn, is_pass, unowned, fits, after_choice, after_turn, Growing, Popped, pop, choice, restart, claimed, chosen, turn, round, rounds, seed_owners, seeded, Growth, weighted_multisource, grown}
use Rattle.links.proofs.ListLaws.{split, and_l, and_r, and_i, tally, count, count-cons, count-length, any-counts, to-all, filter_none, none-filter, best_none, best-kept}
use Rattle.stages.proofs.StepLaws.{Along, along-at, along-append, foldl-append}

-- ---- a turn

-- a group that is popped is free and fits
pub popped : (free fit : ℕ → Bool) (fs over : List ℕ) (g : ℕ) → (pop free fit fs over).claim ≡ some g → (free g ≡ true) × (fit g ≡ true)
unfolding pop
popped free fit [] over g e = let z : ◌≡◌ {A = ℕ} 0 1 = cc in absurd (omega arith)
popped free fit (f ∷ fs) over g e = split (free f)
    (λ p. split (fit f)
    (λ q. let z : some f ≡ some g = rw (p, q) at e in let same : f ≡ g = cc in (rw same at p, rw same at q))
    (λ q. popped free fit fs (over ++ (f ∷ [])) g (rw (p, q) at e)))
    (λ p. popped free fit fs over g (rw p at e))

-- an unowned group is one of those listed, since past the end is 0
pub unowned-in : (owners : List ℕ) (v : ℕ) → at owners v ≡ unassigned → v < length owners
unowned-in [] v e = absurd (omega arith)
unowned-in (o ∷ owners) zero e = omega arith
unowned-in (o ∷ owners) (suc v) e = omega (arith, unowned-in owners v e)

choice-passes : (a b : Option ℕ) → choice a b ≡ passes → (a ≡ none) × (b ≡ none)
choice-passes none none e = (refl, refl)
choice-passes none (some g) e = let z : ◌≡◌ {A = ℕ} 0 1 = cc in absurd (omega arith)
choice-passes (some g) b e = let z : ◌≡◌ {A = ℕ} 0 1 = cc in absurd (omega arith)

-- no unowned group fits
abbrev pub NoneFits : ℕ → List (List ℕ) → List ℕ → List ℕ → ℕ → Type 0
NoneFits cap rows weights owners r = (v : ℕ) → v < length rows → at owners v ≡ unassigned → ¬ (load weights owners r + at weights v ≤ cap)

-- a group that is unowned and fits, as a test
abbrev claimable : ℕ → List ℕ → List ℕ → ℕ → ℕ → Bool
claimable cap weights owners r g = unowned owners g && fits cap weights owners r g

-- the higher degree
abbrev higher : List (List ℕ) → ℕ → ℕ → Bool
higher rows g h = ltb (degree rows h) (degree rows g)

-- a restart's group is unowned and fits
restart-some
    : (cap : ℕ) (rows : List (List ℕ)) (weights owners : List ℕ) (r g : ℕ)
    → restart cap rows weights owners r ≡ some g
    → (unowned owners g ≡ true) × (fits cap weights owners r g ≡ true)
unfolding restart
restart-some cap rows weights owners r g e =
    let k = best-kept (higher rows) (claimable cap weights owners r) (vertices rows) g e in
    (and_l (unowned owners g) (fits cap weights owners r g) k, and_r (unowned owners g) (fits cap weights owners r g) k)

-- what a rank pops at its turn
abbrev pop_now : ℕ → List ℕ → Growing → ℕ → Popped
pop_now cap weights s r = pop (unowned s.owners) (fits cap weights s.owners r) (get_or s.frontiers r []) []

pop-some
    : (cap : ℕ) (weights : List ℕ) (s : Growing) (r g : ℕ)
    → (pop_now cap weights s r).claim ≡ some g
    → (unowned s.owners g ≡ true) × (fits cap weights s.owners r g ≡ true)
pop-some cap weights s r g e = popped (unowned s.owners) (fits cap weights s.owners r) (get_or s.frontiers r []) [] g e

-- a group that is claimed was unowned and fits
abbrev pub Takes : ℕ → List ℕ → List ℕ → ℕ → Choice → Type 0
Takes cap weights owners r passes = Unit {0}
Takes cap weights owners r (claims g) = (at owners g ≡ unassigned) × (load weights owners r + at weights g ≤ cap)
Takes cap weights owners r (restarts g) = (at owners g ≡ unassigned) × (load weights owners r + at weights g ≤ cap)

-- the same of a turn
abbrev pub Taking : ℕ → List ℕ → List ℕ → Turn → Type 0
Taking cap weights owners t = Takes cap weights owners t.rank t.choice

-- a turn claims only such a group
pub turn-takes
    : (cap : ℕ) (rows : List (List ℕ)) (weights : List ℕ) (s : Growing) (r : ℕ) → Taking cap weights s.owners (turn cap rows weights s r).turn
unfolding turn fits
turn-takes cap rows weights s r = go (pop_now cap weights s r).claim (restart cap rows weights s.owners r) refl refl
  where
    told
        : (g : ℕ)
        → (unowned s.owners g ≡ true) × (fits cap weights s.owners r g ≡ true)
        → (at s.owners g ≡ unassigned) × (load weights s.owners r + at weights g ≤ cap)
    told g h = (eqb-true (at s.owners g) unassigned h.0, leb-true (load weights s.owners r + at weights g) cap h.1)

    go
        : (x y : Option ℕ)
        → (pop_now cap weights s r).claim ≡ x
        → restart cap rows weights s.owners r ≡ y
        → Takes cap weights s.owners r (choice x y)
    go (some g) y e f = told g (pop-some cap weights s r g e)
    go none (some g) e f = told g (restart-some cap rows weights s.owners r g f)
    go none none e f = tt

module _ (cap : ℕ) (rows : List (List ℕ)) (weights : List ℕ) (s : Growing) (r : ℕ) (sized : length s.owners ≡ length rows) where
  none-claimable : NoneFits cap rows weights s.owners r → (v : ℕ) → claimable cap weights s.owners r v ≡ false
  unfolding fits
  none-claimable h v = go (unowned s.owners v) (leb (load weights s.owners r + at weights v) cap) refl refl
    where
      go : (x y : Bool) → unowned s.owners v ≡ x → leb (load weights s.owners r + at weights v) cap ≡ y → x && y ≡ false
      go true true e f =
          let o = eqb-true (at s.owners v) unassigned e in
          absurd (h v (omega (arith, unowned-in s.owners v o)) o (leb-true (load weights s.owners r + at weights v) cap f))
      go true false e f = refl
      go false y e f = refl

  passes_none : (turn cap rows weights s r).turn.choice ≡ passes → NoneFits cap rows weights s.owners r
  unfolding turn restart fits
  passes_none e v h o k =
      let test = claimable cap weights s.owners r in
      let no-restart = (choice-passes (pop_now cap weights s r).claim (restart cap rows weights s.owners r) e).1 in
      let kept = best_none (higher rows) (filter test (vertices rows)) no-restart in
      let shut = filter_none test 0 (length rows) kept v (omega arith) (omega arith) in
      let fit = and_i _ _ (eq-eqb (at s.owners v) unassigned o) (le-leb (load weights s.owners r + at weights v) cap k) in
      true≢false (sym fit ∙ shut)

  unclaimed : NoneFits cap rows weights s.owners r → (c : Option ℕ) → (pop_now cap weights s r).claim ≡ c → c ≡ none
  unclaimed h none e = refl
  unclaimed h (some g) e =
      let p = pop-some cap weights s r g e in
      absurd (true≢false (sym (and_i _ _ p.0 p.1) ∙ none-claimable h g))

  none_passes : NoneFits cap rows weights s.owners r → (turn cap rows weights s r).turn.choice ≡ passes
  unfolding turn restart
  none_passes h =
      let test = claimable cap weights s.owners r in
      let kept = none-filter test (vertices rows) (to-all _ (none-claimable h) (vertices rows)) in
      ap₂ choice (unclaimed h (pop_now cap weights s r).claim refl) (ap (best (higher rows)) kept)

  -- a rank passes exactly when no unowned group fits
  pub turn-fair : ((turn cap rows weights s r).turn.choice ≡ passes) ↔ NoneFits cap rows weights s.owners r
  turn-fair = (passes_none, none_passes)

-- ---- the owners that turns leave

-- a turn, and turns, leave as many owners as they meet
pub length-turn : (owners : List ℕ) (t : Turn) → length (after_turn owners t) ≡ length owners
unfolding after_choice
length-turn owners t = go t.choice
  where
    go : (c : Choice) → length (after_choice owners t.rank c) ≡ length owners
    go passes = refl
    go (claims g) = length-set owners g t.rank
    go (restarts g) = length-set owners g t.rank

pub length-turns : (ts : List Turn) (owners : List ℕ) → length (foldl after_turn owners ts) ≡ length owners
length-turns [] owners = refl
length-turns (t ∷ ts) owners = length-turns ts (after_turn owners t) ∙ length-turn owners t

-- a seed for each rank
pub length-seeds : (rows : List (List ℕ)) (k : ℕ) → length (farthest_seeds rows k) ≡ k
unfolding farthest_seeds
length-seeds rows zero = refl
length-seeds rows (suc k) = omega (arith, length-append (farthest_seeds rows k) (next_seed rows (farthest_seeds rows k) ∷ []), length-seeds rows k)

-- an owner, or none, for each group
pub length-seed_owners : (n : ℕ) (ss : List ℕ) (r : ℕ) → length (seed_owners n ss r) ≡ n
unfolding seed_owners
length-seed_owners n [] r = length-replicate n unassigned
length-seed_owners n (s ∷ ss) r = length-set (seed_owners n ss (suc r)) s r ∙ length-seed_owners n ss (suc r)

-- growth leaves an owner, or none, for each group
pub length-grown : (g : Growth) (ts : List Turn) → length (grown g ts) ≡ length g.rows
unfolding grown
length-grown g ts = length-turns ts (seed_owners (length g.rows) g.seeds 0) ∙ length-seed_owners (length g.rows) g.seeds 0

module _ (cap : ℕ) (rows : List (List ℕ)) (weights : List ℕ) where
  -- a turn, and a round, leave the owners that their choices say
  pub turn-owners : (s : Growing) (r : ℕ) → (turn cap rows weights s r).state.owners ≡ after_turn s.owners (turn cap rows weights s r).turn
  unfolding turn chosen claimed after_choice
  turn-owners s r = go (turn cap rows weights s r).turn.choice (pop_now cap weights s r).frontier
    where
      go : (c : Choice) (f : List ℕ) → (chosen cap rows weights s r f c).owners ≡ after_choice s.owners r c
      go passes f = refl
      go (claims g) f = refl
      go (restarts g) f = refl

  pub round-owners
      : (s : Growing) (rs : List ℕ) → (round cap rows weights s rs).state.owners ≡ foldl after_turn s.owners (round cap rows weights s rs).turns
  unfolding round
  round-owners s [] = refl
  round-owners s (r ∷ rs) =
      let t = turn cap rows weights s r in
      round-owners t.state rs ∙ ap (λ (o : List ℕ). foldl after_turn o (round cap rows weights t.state rs).turns) (turn-owners s r)

  -- ---- what holds at each turn of a growth

  -- P at each turn, from the owners that it meets: enough if it holds of `turn`
  module _
      (P : List ℕ → Turn → Type 0)
      (each : (s : Growing) (r : ℕ) → length s.owners ≡ length rows → P s.owners (turn cap rows weights s r).turn) where
    round-along : (s : Growing) (rs : List ℕ) → length s.owners ≡ length rows → Along P after_turn s.owners (round cap rows weights s rs).turns
    unfolding round
    round-along s [] h = tt
    round-along s (r ∷ rs) h =
        let t = turn cap rows weights s r in
        let e = turn-owners s r in
        let h' : length t.state.owners ≡ length rows = ap length e ∙ length-turn s.owners t.turn ∙ h in
        (each s r h, rw e at (round-along t.state rs h'))

    rounds-along : (f k : ℕ) (s : Growing) → length s.owners ≡ length rows → Along P after_turn s.owners (rounds cap rows weights f k s)
    unfolding rounds
    rounds-along zero k s h = tt
    rounds-along (suc f) k s h =
        let r = round cap rows weights s (range 0 k) in
        let e = round-owners s (range 0 k) in
        let now = round-along s (range 0 k) h in
        let later = rw e at (rounds-along f k r.state (ap length e ∙ length-turns r.turns s.owners ∙ h)) in
        split (any (eqb unassigned) s.owners)
        (λ p. split (any (λ t. not (is_pass t.choice)) r.turns)
        (λ q. rw (p, q) (along-append P after_turn r.turns (rounds cap rows weights f k r.state) s.owners now later))
        (λ q. rw (p, q) now))
        (λ p. rw p tt)

    -- so it holds at each turn of a growth
    pub growth-along : (seeds : List ℕ) → Along P after_turn (seed_owners (length rows) seeds 0) (weighted_multisource cap rows weights seeds).turns
    unfolding weighted_multisource seeded
    growth-along seeds = rounds-along (length rows) (length seeds) (seeded rows seeds) (length-seed_owners (length rows) seeds 0)

  -- every turn of a growth is fair
  pub growth-fair
      : (seeds : List ℕ) (before later : List Turn) (t : Turn)
      → (weighted_multisource cap rows weights seeds).turns ≡ before ++ t ∷ later
      → (t.choice ≡ passes) ↔ NoneFits cap rows weights (grown (weighted_multisource cap rows weights seeds) before) t.rank
  unfolding weighted_multisource grown turn
  growth-fair seeds before later t e =
      let Fair : List ℕ → Turn → Type 0 = λ o t. (t.choice ≡ passes) ↔ NoneFits cap rows weights o t.rank in
      along-at Fair after_turn before later _ _ t (growth-along Fair (turn-fair cap rows weights) seeds) e

-- ---- the last round

-- how many groups are unowned
abbrev pub vacant : List ℕ → ℕ
vacant owners = count (eqb unassigned) owners

-- an owner for an unowned group makes one vacant less
pub vacant-set : (owners : List ℕ) (g r : ℕ) → at owners g ≡ unassigned → r ≢ unassigned → suc (vacant (set owners g r)) ≡ vacant owners
vacant-set [] g r e n = absurd (omega arith)
vacant-set (o ∷ os) zero r e n = rw (ne_eqb unassigned r (λ x. n (sym x)), eq-eqb unassigned o (sym e))
vacant-set (o ∷ os) (suc g) r e n = omega (arith, count-cons (eqb unassigned) o (set os g r), count-cons (eqb unassigned) o os, vacant-set os g r e n)

abbrev is_claim : Turn → Bool
is_claim t = not (is_pass t.choice)

-- a round in which every rank passes
abbrev pub all_pass : List ℕ → List Turn
all_pass rs = map (λ r. record { rank = r; choice = passes }) rs

module _ (cap : ℕ) (rows : List (List ℕ)) (weights : List ℕ) where
  -- a turn that does not pass takes one of the vacant
  vacant-turn
      : (s : Growing) (r : ℕ)
      → r ≢ unassigned
      → (let t = (turn cap rows weights s r).turn in vacant (after_turn s.owners t) + tally (is_claim t) ≡ vacant s.owners)
  unfolding turn after_choice
  vacant-turn s r n = go (turn cap rows weights s r).turn.choice (turn-takes cap rows weights s r)
    where
      go : (c : Choice) → Takes cap weights s.owners r c → vacant (after_choice s.owners r c) + tally (not (is_pass c)) ≡ vacant s.owners
      go passes a = omega arith
      go (claims g) a = omega (arith, vacant-set s.owners g r a.0 n)
      go (restarts g) a = omega (arith, vacant-set s.owners g r a.0 n)

  -- each claim of a round takes one of the vacant
  vacant-round
      : (s : Growing) (i k : ℕ)
      → i + k < unassigned
      → (let ts = (round cap rows weights s (range i k)).turns in vacant (foldl after_turn s.owners ts) + count is_claim ts ≡ vacant s.owners)
  unfolding round
  vacant-round s i zero h = omega arith
  vacant-round s i (suc k) h =
      let t = turn cap rows weights s i in
      let ts = (round cap rows weights t.state (range (suc i) k)).turns in
      let ih = rw (turn-owners cap rows weights s i) at (vacant-round t.state (suc i) k (omega arith)) in
      omega (arith, count-cons is_claim t.turn ts, vacant-turn s i (λ x. omega arith), ih)

  quiet-round
      : (s : Growing) (rs : List ℕ) → any is_claim (round cap rows weights s rs).turns ≡ false → (round cap rows weights s rs).turns ≡ all_pass rs
  unfolding round turn
  quiet-round s [] e = refl
  quiet-round s (r ∷ rs) e = go (turn cap rows weights s r).turn.choice refl e (quiet-round (turn cap rows weights s r).state rs)
    where
      ts : List Turn
      ts = (round cap rows weights (turn cap rows weights s r).state rs).turns

      go
          : (c : Choice)
          → (turn cap rows weights s r).turn.choice ≡ c
          → cond (not (is_pass c)) true (any is_claim ts) ≡ false
          → (any is_claim ts ≡ false → ts ≡ all_pass rs)
          → ◌≡◌ {A = List Turn} (record { rank = r; choice = (turn cap rows weights s r).turn.choice } ∷ ts) (all_pass (r ∷ rs))
      go passes f x rec = rw (f, rec x)
      go (claims g) f x rec = absurd (true≢false x)
      go (restarts g) f x rec = absurd (true≢false x)

  -- with as many rounds as there are vacant groups, one is left vacant only after a round in which every rank passed
  pub last-round
      : (f k : ℕ) (s : Growing)
      → k < unassigned
      → vacant s.owners ≤ f
      → any (eqb unassigned) (foldl after_turn s.owners (rounds cap rows weights f k s)) ≡ true
      → (before : List Turn) × (rounds cap rows weights f k s ≡ before ++ all_pass (range 0 k))
  unfolding rounds
  last-round zero k s n h e = absurd (omega (arith, any-counts (eqb unassigned) s.owners e))
  last-round (suc f) k s n h e =
      let r = round cap rows weights s (range 0 k) in
      let o = round-owners cap rows weights s (range 0 k) in
      let fewer : any is_claim ts ≡ true → vacant r.state.owners ≤ f =
      λ g. rw o (omega (arith, vacant-round s 0 k (omega arith), any-counts is_claim r.turns g, h)) in
      go (λ g x. last-round f k r.state n (fewer g) (rw o x)) (any (eqb unassigned) s.owners) (any is_claim r.turns) refl refl e
    where
      ts : List Turn
      ts = (round cap rows weights s (range 0 k)).turns

      us : List Turn
      us = rounds cap rows weights f k (round cap rows weights s (range 0 k)).state

      go
          : (any is_claim ts ≡ true
          → any (eqb unassigned) (foldl after_turn (foldl after_turn s.owners ts) us) ≡ true
          → (before : List Turn) × (us ≡ before ++ all_pass (range 0 k)))
          → (x y : Bool)
          → any (eqb unassigned) s.owners ≡ x
          → any is_claim ts ≡ y
          → any (eqb unassigned) (foldl after_turn s.owners (cond x (cond y (ts ++ us) ts) [])) ≡ true
          → (before : List Turn) × (cond x (cond y (ts ++ us) ts) [] ≡ before ++ all_pass (range 0 k))
      go rec true true p q z =
          let w = rec q (rw foldl-append at z) in
          (ts ++ w.0, ap (λ (l : List Turn). ts ++ l) w.1 ∙ sym (append_assoc ts w.0 (all_pass (range 0 k))))
      go rec true false p q z = ([], quiet-round s (range 0 k) q)
      go rec false y p q z = absurd (true≢false (sym z ∙ p))

  -- growth leaves a group unowned only after a round in which every rank passed
  pub growth-last
      : (k : ℕ)
      → k < unassigned
      → (let g = weighted_multisource cap rows weights (farthest_seeds rows k) in
      any (eqb unassigned) (grown g g.turns) ≡ true → (before : List Turn) × (g.turns ≡ before ++ all_pass (range 0 k)))
  unfolding weighted_multisource grown seeded
  growth-last k n e =
      let ss = farthest_seeds rows k in
      let l = length-seeds rows k in
      let s = seeded rows ss in
      let v : vacant s.owners ≤ length rows = omega (arith, count-length (eqb unassigned) s.owners, length-seed_owners (length rows) ss 0) in
      let w = last-round (length rows) (length ss) s (rw l n) v e in
      (w.0, w.1 ∙ ap (λ (j : ℕ). w.0 ++ all_pass (range 0 j)) l)
