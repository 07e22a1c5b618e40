-- Laws of the division, level by level, as the driver meets it. Assumes nothing.
use Prim.Native.Nat.{ℕ, suc, ◌+◌, ◌≤◌, ◌<◌}
use mathlib.Core.Path.{◌≡◌, refl, sym, ap, ◌∙◌}
use mathlib.Core.Bool.{cond}
use mathlib.Core.List.{List, [], ◌∷◌, ◌++◌, map}
use native.Mathlib.Nat.{zero-add, min-eq_left}
use native.Mathlib.Omega.{arith}
use lib.ListN.{length, length-append}
use lib.Dec.{eqb}
use borrow.Author.Tests.{lt-ltb, le-ltb, le-leb, lt-leb, eq-eqb, ne_eqb, eqb-false}
use Rattle.links.specs.Lists.{foldl, sum}
use Rattle.links.specs.Loads.{Balance, u64_max, saturating}
use Rattle.links.specs.Options.{zero_stats, added_pairs, added_moves, grown_stats, measured_stats}
use Rattle.links.specs.Graph.{cut_entries, volume}
use Rattle.links.specs.Owners.{from_owners}
use Rattle.links.proofs.ListLaws.{split}
use Rattle.stages.specs.Coarsen.{Coarse, coarsen_once}
use Rattle.stages.specs.Growth.{restart_count}
use Rattle.stages.specs.Moves.{after, refine_by_cut, repeat}
use Rattle.stages.specs.Swaps.{refine_fine_pair_swaps}
use Rattle.stages.specs.declared.swaps.Swapping.{Swapping}
use Rattle.multilevel.specs.Division.{Level, Trace, coarsenings, refine, grow, solve, take_over, stats_of, no_swapping}
use Rattle.multilevel.specs.Driver.{solved, moves_from, moved_from, finest_swaps, step_count, stats_so_far}

-- ---- when coarsening goes on

module _ (stop : ℕ) (rows : List (List ℕ)) (ws : List ℕ) where
  pub coarsen-last : coarsenings 0 stop rows ws ≡ []
  unfolding coarsenings
  coarsen-last = refl

  module _ (l : ℕ) where
    pub coarsen-small : length rows ≤ stop → coarsenings (suc l) stop rows ws ≡ []
    unfolding coarsenings
    coarsen-small h = rw (le-leb (length rows) stop h)

    pub coarsen-same : stop < length rows → length rows ≤ length (coarsen_once rows ws).rows → coarsenings (suc l) stop rows ws ≡ []
    unfolding coarsenings
    coarsen-same h k = rw (lt-leb (length rows) stop h, le-ltb (length (coarsen_once rows ws).rows) (length rows) k)

    pub coarsen-more
        : stop < length rows
        → length (coarsen_once rows ws).rows < length rows
        → coarsenings (suc l) stop rows ws ≡ coarsen_once rows ws ∷ coarsenings l stop (coarsen_once rows ws).rows (coarsen_once rows ws).weights
    unfolding coarsenings
    coarsen-more h k = rw (lt-leb (length rows) stop h, lt-ltb (length (coarsen_once rows ws).rows) (length rows) k)

-- ---- a level's moves, before any swap

pub count-append : (xs ys : List Level) → step_count (xs ++ ys) ≡ step_count xs + step_count ys
unfolding step_count
count-append [] ys = omega arith
count-append (x ∷ xs) ys = omega (arith, count-append xs ys)

pub count_none : step_count [] ≡ 0
unfolding step_count
count_none = refl

count-one : (l : Level) → step_count (l ∷ []) ≡ length l.moves + length l.swaps
unfolding step_count
count-one l = omega (arith, length-append l.moves l.swaps)

-- with no pass there is no swap
none-swapped : (b : Balance) (rows : List (List ℕ)) (ws owners : List ℕ) → (refine_fine_pair_swaps b rows ws 0 0 owners).steps ≡ []
unfolding refine_fine_pair_swaps repeat
none-swapped b rows ws owners = refl

module _ (b : Balance) (passes : ℕ) (rows : List (List ℕ)) (ws group : List ℕ) (t : Trace) where
  pub refine-refusal : (sw : Swapping) → (refine b passes sw rows ws group t).refusal ≡ from_owners b.ranks (moved_from b passes rows ws t.owners)
  unfolding refine moved_from moves_from
  refine-refusal sw = refl

  pub refine-growth : (sw : Swapping) → (refine b passes sw rows ws group t).growth ≡ t.growth
  unfolding refine
  refine-growth sw = refl

  module _ (z : from_owners b.ranks (moved_from b passes rows ws t.owners) ≡ 0) where
    -- what a level leaves, with its swaps
    swapped-owners
        : (sw : Swapping)
        → (refine b passes sw rows ws group t).owners
        ≡ foldl after (moved_from b passes rows ws t.owners) (refine_fine_pair_swaps b rows ws sw.list_length sw.passes (moved_from b passes rows ws t.owners)).steps
    unfolding refine moved_from moves_from
    swapped-owners sw = rw (eq-eqb (from_owners b.ranks (foldl after t.owners (refine_by_cut b rows ws passes t.owners).steps)) 0 z)

    swapped-count
        : (sw : Swapping)
        → step_count (refine b passes sw rows ws group t).levels
        ≡ step_count t.levels + (length (moves_from b passes rows ws t.owners) + length (refine_fine_pair_swaps b rows ws sw.list_length sw.passes (moved_from b passes rows ws t.owners)).steps)
    unfolding refine moved_from moves_from
    swapped-count sw =
        rw (eq-eqb (from_owners b.ranks (foldl after t.owners (refine_by_cut b rows ws passes t.owners).steps)) 0 z)
        (count-append t.levels (level ∷ []) ∙ ap (λ (n : ℕ). step_count t.levels + n) (count-one level))
      where
        level : Level
        level =
            record {
              rows = rows;
              weights = ws;
              group = group;
              start = t.owners;
              moves = (refine_by_cut b rows ws passes t.owners).steps;
              settled = (refine_by_cut b rows ws passes t.owners).settled;
              swaps = (refine_fine_pair_swaps b rows ws sw.list_length sw.passes (foldl after t.owners (refine_by_cut b rows ws passes t.owners).steps)).steps;
            }

    pub refine-owners : (refine b passes no_swapping rows ws group t).owners ≡ moved_from b passes rows ws t.owners
    refine-owners = swapped-owners no_swapping ∙ ap (foldl after (moved_from b passes rows ws t.owners)) (none-swapped b rows ws (moved_from b passes rows ws t.owners))

    pub refine-count : step_count (refine b passes no_swapping rows ws group t).levels ≡ step_count t.levels + length (moves_from b passes rows ws t.owners)
    refine-count =
        swapped-count no_swapping
        ∙ omega (arith, ap length (none-swapped b rows ws (moved_from b passes rows ws t.owners)))

-- ---- a level and those coarser than it

module _ (b : Balance) (passes : ℕ) (rows : List (List ℕ)) (ws : List ℕ) where
  -- what the coarsest level does with its growth, and a finer one with what it took over
  pub onward : List ℕ → Trace → Trace → Trace
  onward group t s = cond (eqb t.refusal 0) (refine b passes no_swapping rows ws group s) t

  pub solved-coarsest : solved b passes rows ws [] ≡ onward [] (grow b passes rows ws) (grow b passes rows ws)
  unfolding solved solve onward
  solved-coarsest = refl

  pub solved-finer
      : (c : Coarse) (cs : List Coarse)
      → solved b passes rows ws (c ∷ cs)
      ≡ onward c.group (solved b passes c.rows c.weights cs) (take_over c.group (solved b passes c.rows c.weights cs))
  unfolding solved solve onward
  solved-finer c cs = refl

  -- a refusal so far stays
  pub onward-refused : (group : List ℕ) (t s : Trace) → (t.refusal ≡ 0 → ⊥) → onward group t s ≡ t
  unfolding onward
  onward-refused group t s d = rw (ne_eqb t.refusal 0 d)

  pub onward-moves : (group : List ℕ) (t s : Trace) → t.refusal ≡ 0 → onward group t s ≡ refine b passes no_swapping rows ws group s
  unfolding onward
  onward-moves group t s e = rw (eq-eqb t.refusal 0 e)

  -- ---- the finest level's swaps come last

  module _ (sw : Swapping) where
    swapping : List ℕ → Trace → Trace → Trace
    swapping group t s = cond (eqb t.refusal 0) (refine b passes sw rows ws group s) t

    -- with its swaps a level has the same refusal and growth; if it is not refused, its owners are those after the swaps, and the swaps count
    pub record Swapped (t t₀ : Trace) : Type 0 where
      pub refusal_is : t.refusal ≡ t₀.refusal
      pub growth-is : t.growth ≡ t₀.growth
      pub owners-are : t₀.refusal ≡ 0 → t.owners ≡ foldl after t₀.owners (finest_swaps b sw rows ws t₀)
      pub count-is : t₀.refusal ≡ 0 → step_count t.levels ≡ step_count t₀.levels + length (finest_swaps b sw rows ws t₀)

    swapped : (group : List ℕ) (t s : Trace) → Swapped (swapping group t s) (onward group t s)
    unfolding swapping onward finest_swaps
    swapped group t s = split (eqb t.refusal 0)
        (λ p.
        let same = refine-refusal b passes rows ws group s no_swapping in
        let zero_of : (refine b passes no_swapping rows ws group s).refusal ≡ 0 → from_owners b.ranks (moved_from b passes rows ws s.owners) ≡ 0 = λ z. sym same ∙ z in
        rw p
        (record {
          refusal_is = refine-refusal b passes rows ws group s sw ∙ sym same;
          growth-is = refine-growth b passes rows ws group s sw ∙ sym (refine-growth b passes rows ws group s no_swapping);
          owners-are = λ z.
              swapped-owners b passes rows ws group s (zero_of z) sw
              ∙ ap (λ (o : List ℕ). foldl after o (refine_fine_pair_swaps b rows ws sw.list_length sw.passes o).steps) (sym (refine-owners b passes rows ws group s (zero_of z)));
          count-is = λ z.
              let o = refine-owners b passes rows ws group s (zero_of z) in
              let e : length (refine_fine_pair_swaps b rows ws sw.list_length sw.passes (moved_from b passes rows ws s.owners)).steps ≡ length (refine_fine_pair_swaps b rows ws sw.list_length sw.passes (refine b passes no_swapping rows ws group s).owners).steps =
              ap (λ (x : List ℕ). length (refine_fine_pair_swaps b rows ws sw.list_length sw.passes x).steps) (sym o) in
              omega (arith, swapped-count b passes rows ws group s (zero_of z) sw, refine-count b passes rows ws group s (zero_of z));
        }))
        (λ p. rw p
        (record {
          refusal_is = refl;
          growth-is = refl;
          owners-are = λ z. absurd (eqb-false t.refusal 0 p z);
          count-is = λ z. absurd (eqb-false t.refusal 0 p z);
        }))

    pub solve-swapped : (cs : List Coarse) → Swapped (solve b passes sw rows ws cs) (solved b passes rows ws cs)
    unfolding solved solve swapping onward
    solve-swapped [] = swapped [] (grow b passes rows ws) (grow b passes rows ws)
    solve-swapped (c ∷ cs) = swapped c.group (solve b passes no_swapping c.rows c.weights cs) (take_over c.group (solve b passes no_swapping c.rows c.weights cs))

-- ---- stats

sat-small : (x : ℕ) → x ≤ u64_max → saturating x ≡ x
sat-small x h = min-eq_left h

pub stats-coarsest
    : (rows : List (List ℕ)) (t : Trace) (restarts m : ℕ)
    → restarts ≡ restart_count t.growth.turns
    → m ≡ step_count t.levels
    → m ≤ u64_max
    → stats_so_far rows [] t ≡ added_moves (grown_stats zero_stats (length rows) restarts) m
unfolding stats_so_far added_moves grown_stats zero_stats
stats-coarsest rows t restarts m e q h = rw (e, zero-add m, sat-small m h, q)

pub stats-finer
    : (rows : List (List ℕ)) (c : Coarse) (cs : List Coarse) (t t' : Trace) (m : ℕ)
    → t'.growth ≡ t.growth
    → step_count t'.levels ≡ step_count t.levels + m
    → length cs + 1 ≤ u64_max
    → sum (map (λ c. c.pairs) cs) + c.pairs ≤ u64_max
    → sum (map (λ c. c.singletons) cs) + c.singletons ≤ u64_max
    → step_count t.levels + m ≤ u64_max
    → stats_so_far rows (c ∷ cs) t' ≡ added_moves (added_pairs (stats_so_far c.rows cs t) c.pairs c.singletons) m
unfolding stats_so_far added_moves added_pairs
stats-finer rows c cs t t' m e q h₁ h₂ h₃ h₄ =
    let p : c.pairs + sum (map (λ c. c.pairs) cs) ≡ sum (map (λ c. c.pairs) cs) + c.pairs = omega arith in
    let s : c.singletons + sum (map (λ c. c.singletons) cs) ≡ sum (map (λ c. c.singletons) cs) + c.singletons = omega arith in
    let l : suc (length cs) ≡ length cs + 1 = omega arith in
    rw (sat-small (length cs + 1) h₁, sat-small (sum (map (λ c. c.pairs) cs) + c.pairs) h₂, sat-small (sum (map (λ c. c.singletons) cs) + c.singletons) h₃, sat-small (step_count t.levels + m) h₄, e, q, p, s, l)

pub stats-swapped
    : (rows : List (List ℕ)) (cs : List Coarse) (t t₀ : Trace) (m : ℕ)
    → t.growth ≡ t₀.growth
    → step_count t.levels ≡ step_count t₀.levels + m
    → step_count t₀.levels + m ≤ u64_max
    → stats_so_far rows cs t ≡ added_moves (stats_so_far rows cs t₀) m
unfolding stats_so_far added_moves
stats-swapped rows cs t t₀ m e q h = rw (sat-small (step_count t₀.levels + m) h, e, q)

pub stats-done
    : (rows : List (List ℕ)) (k : ℕ) (cs : List Coarse) (t : Trace)
    → stats_of rows k cs t ≡ measured_stats (stats_so_far rows cs t) (cut_entries rows t.owners) (volume rows t.owners k)
unfolding stats_so_far stats_of measured_stats step_count
stats-done rows k cs t = refl
