-- A whole division: what its tests leave, what holds of its growth and its levels, and how they hang together. Assumes nothing.
use Prim.Native.Nat.{ℕ, zero, suc, ◌≤◌, ◌<◌}
use mathlib.Core.Path.{◌≡◌, refl, sym, ap, ◌∙◌, subst}
use mathlib.Core.Logic.{◌≢◌, ◌⊎◌, inl, inr}
use mathlib.Core.Bool.{Bool, true, false, ◌||◌, cond, false≢true}
use mathlib.Core.List.{List, [], ◌∷◌, ◌++◌, map, append_assoc, append-nil, head-eq_of_cons-eq, nil≢cons, tail-eq_of_cons-eq, map-append}
use native.Mathlib.Omega.{arith}
use lib.ListN.{length, length-map}
use lib.Dec.{leb, ltb, eqb}
use borrow.Author.Tests.{eqb-true, eqb-false, ltb-true, ltb-false}
use Rattle.links.specs.Lists.{at, unassigned, any, foldl, range, elem, All}
use Rattle.links.specs.Loads.{Balance}
use Rattle.links.specs.Graph.{vertex_count, bad_lists, Sound, SoundLists, load, owned}
use Rattle.links.specs.Workloads.{bad_workloads}
use Rattle.links.specs.Owners.{empty_rank, from_owners}
use Rattle.links.specs.Options.{bad_options, bad_swaps}
use Rattle.stages.specs.Coarsen.{Coarse, coarsen_once}
use Rattle.stages.specs.Seeds.{farthest_seeds}
use Rattle.stages.specs.Growth.{Turn, Growth, weighted_multisource, grown}
use Rattle.stages.specs.Moves.{Step, after, repeat, refine_by_cut}
use Rattle.stages.specs.Swaps.{refine_fine_pair_swaps}
use Rattle.stages.specs.declared.swaps.Swapping.{Swapping}
use Rattle.multilevel.specs.Causes.{Call, bad_counts, over_limits, first_of, need_of, too_short, early_cause}
use Rattle.multilevel.specs.Division.{Level, Trace, no_growth, stopped, coarsenings, take_over, no_swapping, refine, grow, solve}
use Rattle.multilevel.specs.Demand3.{Lists, lists_of, ladder, growth_on, moved, ended, FairTurn, FairLevel, Early, Emptied}
use Rattle.links.proofs.ListLaws.{split, or_l, or_r, all_append, all_in, elem-range, any_none}
use Rattle.links.proofs.OwnerLaws.{assigned}
use Rattle.links.proofs.SoundLaws.{sound-lists}
use Rattle.links.proofs.WorkloadLaws.{GoodWorkloads, good-workloads}
use Rattle.links.proofs.OptionLaws.{GoodListLength, good-swaps}
use Rattle.stages.proofs.StepLaws.{Along, foldl-append, length-steps, Swapped, moves-made, swaps-made}
use Rattle.stages.proofs.GrowthLaws.{length-seeds, length-grown, growth-fair, all_pass, growth-last}
use Rattle.stages.proofs.LoadLaws.{growth-within, moves-within}
use Rattle.stages.proofs.GroupingLaws.{coarse-sound, coarse-weighed, coarse-sized, coarse-load}
use Rattle.multilevel.proofs.CauseLaws.{good-options, limited}
use Rattle.stages.proofs.RankLaws.{grown-ranked}
use Rattle.multilevel.proofs.LevelLaws.{level-fair}
use Rattle.multilevel.proofs.CheckLaws.{moves-ranked, taken-all, check_numbers, checked, unchecked, check-empty}

-- ---- what the causes tested before the work leave

pub record Tested (c : Call) : Type 0 where
  pub lists : SoundLists c.offsets c.neighbors
  pub few-vertices : vertex_count c.offsets ≤ 16384
  pub few-entries : length c.neighbors ≤ 131072
  pub some-ranks : 1 ≤ c.ranks
  pub few-ranks : c.ranks ≤ 256
  pub enough-vertices : c.ranks ≤ vertex_count c.offsets
  pub some-levels : 1 ≤ c.options.max_levels
  pub few-levels : c.options.max_levels ≤ 32
  pub some-per-rank : 1 ≤ c.options.coarse_vertices_per_rank
  pub some-passes : 1 ≤ c.options.refinement_passes
  pub tolerance : c.options.imbalance_per_mille ≤ 500
  pub listed : GoodListLength c.options.swap_list_length
  pub owners-fit : vertex_count c.offsets ≤ c.owners_length
  pub work-fits : need_of c ≤ c.work_length
  pub workloads : GoodWorkloads (vertex_count c.offsets) c.workloads

first-none
    : (x q y z w u v : Bool)
    → ◌≡◌ {A = ℕ} (first_of x q y z w u v) 0
    → (x ≡ false) × (q ≡ false) × (y ≡ false) × (z ≡ false) × (w ≡ false) × (u ≡ false) × (v ≡ false)
first-none true q y z w u v e = absurd (omega arith)
first-none false true y z w u v e = absurd (omega arith)
first-none false false true z w u v e = absurd (omega arith)
first-none false false false true w u v e = absurd (omega arith)
first-none false false false false true u v e = absurd (omega arith)
first-none false false false false false true v e = absurd (omega arith)
first-none false false false false false false true e = absurd (omega arith)
first-none false false false false false false false e = (refl, refl, refl, refl, refl, refl, refl)

first-early : (x q y z w u v : Bool) → first_of x q y z w u v ≢ 0 → Early (first_of x q y z w u v)
first-early true q y z w u v d = refl
first-early false true y z w u v d = refl
first-early false false true z w u v d = refl
first-early false false false true w u v d = refl
first-early false false false false true u v d = refl
first-early false false false false false true v d = refl
first-early false false false false false false true d = refl
first-early false false false false false false false d = absurd (d refl)

-- a call with no early cause has passed them all
pub tested : (c : Call) → early_cause c ≡ 0 → Tested c
unfolding early_cause bad_counts too_short
tested c e =
    let o = c.options in
    let n = vertex_count c.offsets in
    let m = length c.neighbors in
    let k = c.ranks in
    let f = first-none (bad_options o) (bad_swaps o) (bad_counts n k) (over_limits n m k o.max_levels) (bad_lists c.offsets c.neighbors) (bad_workloads n c.workloads) (too_short c) e in
    let good = good-options o f.0 in
    let within = limited n m k o.max_levels f.3 in
    let kne : k ≢ 0 = eqb-false k 0 (or_r (eqb n 0) (eqb k 0) (or_l (eqb n 0 || eqb k 0) (ltb n k) f.2)) in
    record {
      lists = sound-lists c.offsets c.neighbors f.4;
      few-vertices = within.few-vertices;
      few-entries = within.few-entries;
      some-ranks = omega arith;
      few-ranks = within.few-ranks;
      enough-vertices = ltb-false n k (or_r (eqb n 0 || eqb k 0) (ltb n k) f.2);
      some-levels = good.levels;
      few-levels = within.few-levels;
      some-per-rank = good.per-rank;
      some-passes = good.passes;
      tolerance = good.tolerance;
      listed = good-swaps o f.1;
      owners-fit = ltb-false c.owners_length n (or_l (ltb c.owners_length n) (ltb c.work_length (need_of c)) f.6);
      work-fits = ltb-false c.work_length (need_of c) (or_r (ltb c.owners_length n) (ltb c.work_length (need_of c)) f.6);
      workloads = good-workloads n c.workloads f.5;
    }

-- an early cause has an early number
pub early-number : (c : Call) → early_cause c ≢ 0 → Early (early_cause c)
unfolding early_cause
early-number c d =
    let n = vertex_count c.offsets in
    first-early
    (bad_options c.options)
    (bad_swaps c.options)
    (bad_counts n c.ranks)
    (over_limits n (length c.neighbors) c.ranks c.options.max_levels)
    (bad_lists c.offsets c.neighbors)
    (bad_workloads n c.workloads)
    (too_short c)
    d

-- which is none of 0, 8 and 9
pub early-some : (number : ℕ) → Early number → number ≢ 0
early-some number a e = false≢true (subst Early e a)

pub early-8 : (number : ℕ) → Early number → number ≢ 8
early-8 number a e = false≢true (subst Early e a)

-- ---- the from_owners check

-- owners that pass the check leave no rank empty
pub none-empty : (k : ℕ) (owners : List ℕ) → from_owners k owners ≡ 0 → (r : ℕ) → r < k → 1 ≤ owned owners r
unfolding from_owners empty_rank
none-empty k owners e r h =
    let is_empty : ℕ → Bool = λ r. eqb (owned owners r) 0 in
    let f = (checked k owners).2 e in
    let z = all_in (λ r. is_empty r ≡ false) (range 0 k) r (any_none is_empty (range 0 k) f) (elem-range r 0 k (omega arith) (omega arith)) in
    let d : owned owners r ≢ 0 = eqb-false (owned owners r) 0 z in
    omega arith

-- a level's check gives none of growth's numbers
pub refine-unchecked
    : (b : Balance) (passes : ℕ) (swapping : Swapping) (rows : List (List ℕ)) (ws group : List ℕ) (t : Trace) (number : ℕ)
    → elem number check_numbers ≡ false
    → (refine b passes swapping rows ws group t).refusal ≢ number
unfolding refine
refine-unchecked b passes swapping rows ws group t =
    unchecked b.ranks (foldl after t.owners (refine_by_cut b rows ws passes t.owners).steps)

-- ---- the coarsening steps kept

-- a step kept: what GroupingLaws says of it
pub record Coarser (rows : List (List ℕ)) (ws : List ℕ) (c : Coarse) : Type 0 where
  pub sound : Sound c.rows
  pub sized : length c.group ≡ length rows
  pub fewer : length c.rows < length rows
  pub loads : (o : List ℕ) (r : ℕ) → length o ≡ length c.rows → load ws (map (at o) c.group) r ≡ load c.weights o r

-- the steps kept, each from the lists of the one before
abbrev pub Chain : List (List ℕ) → List ℕ → List Coarse → Type 0
Chain rows ws [] = Unit {0}
Chain rows ws (c ∷ cs) = Coarser rows ws c × Chain c.rows c.weights cs

-- every step that `coarsenings` keeps is such
pub chained
    : (l stop : ℕ) (rows : List (List ℕ)) (ws : List ℕ)
    → Sound rows
    → length rows < unassigned
    → length ws ≡ length rows
    → Chain rows ws (coarsenings l stop rows ws)
unfolding coarsenings
chained zero stop rows ws s n w = tt
chained (suc l) stop rows ws s n w =
    let c = coarsen_once rows ws in
    let sound = coarse-sound rows s ws n w in
    split (leb (length rows) stop)
    (λ p. rw p tt)
    (λ p. split (ltb (length c.rows) (length rows))
    (λ q.
    let less = ltb-true (length c.rows) (length rows) q in
    let coarser : Coarser rows ws c = record { sound = sound; sized = coarse-sized rows s ws n w; fewer = less; loads = coarse-load rows s ws n w } in
    rw (p, q) (coarser, chained l stop c.rows c.weights sound (omega arith) (coarse-weighed rows ws)))
    (λ q. rw (p, q) tt))

-- ---- growth on the coarsest lists

module _ (b : Balance) where
  -- every turn of it is fair
  pub growth_on-fair
      : (cs : List Coarse) (rows : List (List ℕ)) (ws : List ℕ) (before later : List Turn) (t : Turn)
      → (growth_on b rows ws cs).turns ≡ before ++ t ∷ later
      → FairTurn b.cap (growth_on b rows ws cs) (grown (growth_on b rows ws cs) before) t
  growth_on-fair [] rows ws before later t e =
      record { passing = unfold weighted_multisource in growth-fair b.cap rows ws (farthest_seeds rows b.ranks) before later t e }
  growth_on-fair (c ∷ cs) rows ws before later t e = growth_on-fair cs c.rows c.weights before later t e

  -- it leaves a group unowned only after a round in which every rank passed
  pub growth_on-last
      : (cs : List Coarse) (rows : List (List ℕ)) (ws : List ℕ)
      → b.ranks < unassigned
      → (let g = growth_on b rows ws cs in
      any (eqb unassigned) (grown g g.turns) ≡ true → (before : List Turn) × (g.turns ≡ before ++ all_pass (range 0 b.ranks)))
  growth_on-last [] rows ws n e = growth-last b.cap rows ws b.ranks n e
  growth_on-last (c ∷ cs) rows ws n e = growth_on-last cs c.rows c.weights n e

-- ---- how the levels hang together

-- the coarsest level starts from growth's owners
abbrev First : Growth → List Level → Type 0
First g [] = Unit {0}
First g (l ∷ ls) = l.start ≡ grown g g.turns

-- a finer one from the owners that its groups ended with
abbrev Linked : List Level → Type 0
Linked [] = Unit {0}
Linked (l ∷ []) = Unit {0}
Linked (l ∷ m ∷ ls) = (m.start ≡ map (at (ended l)) m.group) × Linked (m ∷ ls)

-- read at the first level, and at two that follow each other
pub first-at : (g : Growth) (ls : List Level) → First g ls → (l : Level) (finer : List Level) → ls ≡ l ∷ finer → l.start ≡ grown g g.turns
first-at g [] f l finer e = absurd (nil≢cons e)
first-at g (k ∷ ks) f l finer e = rw (← head-eq_of_cons-eq e) f

first-snoc : (g : Growth) (xs : List Level) (l m : Level) → First g (xs ++ l ∷ []) → First g ((xs ++ l ∷ []) ++ m ∷ [])
first-snoc g [] l m f = f
first-snoc g (x ∷ xs) l m f = f

linked-tail : (l : Level) (ls : List Level) → Linked (l ∷ ls) → Linked ls
linked-tail l [] a = tt
linked-tail l (m ∷ ls) a = a.1

pub linked-at
    : (ls coarser finer : List Level) (l m : Level) → Linked ls → ls ≡ coarser ++ l ∷ m ∷ finer → m.start ≡ map (at (ended l)) m.group
linked-at [] [] finer l m a e = absurd (nil≢cons e)
linked-at [] (k ∷ coarser) finer l m a e = absurd (nil≢cons e)
linked-at (x ∷ []) [] finer l m a e = absurd (nil≢cons (tail-eq_of_cons-eq e))
linked-at (x ∷ y ∷ ys) [] finer l m a e =
    let p : x ≡ l = head-eq_of_cons-eq e in
    let q : y ≡ m = head-eq_of_cons-eq (tail-eq_of_cons-eq e) in
    rw (← p, ← q) a.0
linked-at (x ∷ xs) (k ∷ coarser) finer l m a e = linked-at xs coarser finer l m (linked-tail x xs a) (tail-eq_of_cons-eq e)

linked-snoc
    : (xs : List Level) (l m : Level) → Linked (xs ++ l ∷ []) → m.start ≡ map (at (ended l)) m.group → Linked ((xs ++ l ∷ []) ++ m ∷ [])
linked-snoc [] l m a e = (e, tt)
linked-snoc (x ∷ []) l m a e = (a.0, (e, tt))
linked-snoc (x ∷ y ∷ xs) l m a e = (a.0, linked-snoc (y ∷ xs) l m a.1 e)

-- ---- a division on its way

-- what a refusal after growth is
abbrev pub Late : ℕ → ℕ → List Level → Type 0
Late k number levels = ((number ≡ 8) × (levels ≡ [])) ⊎ ((number ≡ 9) × Emptied k levels)

-- it grew on g's lists, or it was refused before any growth
pub data Grew (k : ℕ) (g : Growth) (t : Trace) : Type 0 where
  grew : t.growth ≡ g → (t.refusal ≢ 0 → Late k t.refusal t.levels) → Grew k g t
  not_yet : t.growth ≡ no_growth → t.levels ≡ [] → Early t.refusal → Grew k g t

grew-on : (k : ℕ) (g : Growth) (t : Trace) → Grew k g t → t.refusal ≡ 0 → t.growth ≡ g
grew-on k g t (grew e late) z = e
grew-on k g t (not_yet e l early) z = absurd (early-some t.refusal early z)

-- a level without swaps
abbrev Unswapped : Level → Type 0
Unswapped l = l.swaps ≡ []

module _ (b : Balance) (swapping : Swapping) where
  -- the swaps of a level that these finer ones follow, with so many passes; none where the division was refused
  abbrev pub due : Bool → List Level → Level → List Step
  due true [] l = (refine_fine_pair_swaps b l.rows l.weights swapping.list_length swapping.passes (moved l)).steps
  due true (m ∷ finer) l = []
  due false finer l = []

  abbrev pub Due : Bool → List Level → Type 0
  Due x [] = Unit {0}
  Due x (l ∷ ls) = (l.swaps ≡ due x ls l) × Due x ls

  -- read at a level
  pub due-at : (x : Bool) (ls coarser finer : List Level) (l : Level) → Due x ls → ls ≡ coarser ++ l ∷ finer → l.swaps ≡ due x finer l
  due-at x [] [] finer l d e = absurd (nil≢cons e)
  due-at x [] (y ∷ ys) finer l d e = absurd (nil≢cons e)
  due-at x (m ∷ ms) [] finer l d e =
      let p : m ≡ l = head-eq_of_cons-eq e in
      let q : ms ≡ finer = tail-eq_of_cons-eq e in
      rw (← p, ← q) d.0
  due-at x (m ∷ ms) (y ∷ ys) finer l d e = due-at x ms ys finer l d.1 (tail-eq_of_cons-eq e)

  -- of levels without swaps, and of one more that has its own
  due-none : (ls : List Level) → All Unswapped ls → Due false ls
  due-none [] a = tt
  due-none (l ∷ ls) a = (a.0, due-none ls a.1)

  due-snoc : (x : Bool) (ls : List Level) (l : Level) → All Unswapped ls → l.swaps ≡ due x [] l → Due x (ls ++ l ∷ [])
  due-snoc x [] l a e = (e, tt)
  due-snoc x (m ∷ ms) l a e = (inner x ms, due-snoc x ms l a.1 e)
    where
      inner : (x : Bool) (ms : List Level) → m.swaps ≡ due x (ms ++ l ∷ []) m
      inner true [] = a.0
      inner true (n ∷ ns) = a.0
      inner false ms = a.0

module _ (b : Balance) where
  -- it has come through the level of these lists, and was not refused: its levels, the last of them, and where its owners stand
  pub record Done (swapping : Swapping) (rows : List (List ℕ)) (ws : List ℕ) (cs : List Coarse) (t : Trace) : Type 0 where
    pub coarser : List Level
    pub last : Level
    pub levels-are : t.levels ≡ coarser ++ last ∷ []
    pub whole : map lists_of t.levels ≡ ladder rows ws cs
    pub rows_are : last.rows ≡ rows
    pub owners-are : t.owners ≡ ended last
    pub sized : length (moved last) ≡ length rows
    pub swapped : Along (Swapped b.cap rows ws) after (moved last) last.swaps
    pub within : (r : ℕ) → r < b.ranks → load ws (moved last) r ≤ b.cap
    pub checked : from_owners b.ranks (moved last) ≡ 0
    pub enough : b.ranks ≤ length rows
    pub still : swapping.passes ≡ 0 → t.owners ≡ moved last

  -- what holds of it, refused or not
  pub record Solved (passes : ℕ) (swapping : Swapping) (rows : List (List ℕ)) (ws : List ℕ) (cs : List Coarse) (t : Trace) : Type 0 where
    pub growth : Grew b.ranks (growth_on b rows ws cs) t
    pub unclaimed : t.refusal ≡ 8 → any (eqb unassigned) (grown t.growth t.growth.turns) ≡ true
    pub fair : All (FairLevel b passes) t.levels
    pub swaps-due : Due b swapping (eqb t.refusal 0) t.levels
    pub unswapped : swapping.passes ≡ 0 → All Unswapped t.levels
    pub first : First t.growth t.levels
    pub linked : Linked t.levels
    pub rest : List Lists
    pub climbed : map lists_of t.levels ++ rest ≡ ladder rows ws cs
    pub done : t.refusal ≡ 0 → Done swapping rows ws cs t

  -- a level's swaps, made if the check found no refusal
  module _ (rows : List (List ℕ)) (ws : List ℕ) (swapping : Swapping) (o : List ℕ) where
    swaps : Bool → List Step
    swaps x = cond x (refine_fine_pair_swaps b rows ws swapping.list_length swapping.passes o).steps []

    swaps-along : (x : Bool) → Along (Swapped b.cap rows ws) after o (swaps x)
    unfolding swaps
    swaps-along true = swaps-made b rows ws swapping.list_length swapping.passes o
    swaps-along false = tt

    no-swaps : (x : Bool) → swapping.passes ≡ 0 → swaps x ≡ []
    unfolding swaps refine_fine_pair_swaps repeat
    no-swaps true e = rw e
    no-swaps false e = refl

    swaps-are : (x : Bool) (l : Level) → l.rows ≡ rows → l.weights ≡ ws → moved l ≡ o → swaps x ≡ due b swapping x [] l
    unfolding swaps
    swaps-are true l er ew eo = rw (er, ew, ← eo)
    swaps-are false l er ew eo = refl

  -- the level that a refinement adds: it has rule 6's moves from its start, and then rule 7's swaps
  module _ (passes : ℕ) (swapping : Swapping) (rows : List (List ℕ)) (ws group : List ℕ) (t : Trace) where
    abbrev made-level : Level
    made-level =
        let m = refine_by_cut b rows ws passes t.owners in
        let mo = foldl after t.owners m.steps in
        let sw = swaps rows ws swapping mo (eqb (from_owners b.ranks mo) 0) in
        record { rows = rows; weights = ws; group = group; start = t.owners; moves = m.steps; settled = m.settled; swaps = sw }

    level-added : (refine b passes swapping rows ws group t).levels ≡ t.levels ++ made-level ∷ []
    unfolding refine swaps
    level-added = refl

  -- it enters the level of these lists, below which lie those of `lower`
  record Enters (passes : ℕ) (rows : List (List ℕ)) (ws group : List ℕ) (cs : List Coarse) (lower : List Lists) (t : Trace) : Type 0 where
    grows : t.growth ≡ growth_on b rows ws cs
    fair : All (FairLevel b passes) t.levels
    unswapped : All Unswapped t.levels
    joins : (l : Level) → l.start ≡ t.owners → l.group ≡ group → First t.growth (t.levels ++ l ∷ []) × Linked (t.levels ++ l ∷ [])
    climbed : map lists_of t.levels ≡ lower
    top : ladder rows ws cs ≡ lower ++ record { rows = rows; weights = ws; group = group } ∷ []
    sized : length t.owners ≡ length rows
    within : (r : ℕ) → r < b.ranks → load ws t.owners r ≤ b.cap
    enough : b.ranks ≤ length rows
    few : length rows ≤ 16384
    ranked : All (λ x. x < b.ranks) t.owners

  module _ (passes : ℕ) (some-ranks : 1 ≤ b.ranks) (few-ranks : b.ranks ≤ 256) where
    refine-solved
        : (swapping : Swapping) (rows : List (List ℕ)) (ws group : List ℕ) (cs : List Coarse) (lower : List Lists) (t : Trace)
        → Sound rows
        → Enters passes rows ws group cs lower t
        → Solved passes swapping rows ws cs (refine b passes swapping rows ws group t)
    unfolding refine swaps
    refine-solved swapping rows ws group cs lower t s i =
        let m = refine_by_cut b rows ws passes t.owners in
        let mo = foldl after t.owners m.steps in
        let x = eqb (from_owners b.ranks mo) 0 in
        let sw = swaps rows ws swapping mo x in
        let l = made-level passes swapping rows ws group t in
        let j = i.joins l refl refl in
        let made = moves-made b rows ws passes t.owners in
        let along = swaps-along rows ws swapping mo x in
        let fair = level-fair b passes l s i.sized refl refl along in
        let size : length mo ≡ length rows = length-steps m.steps t.owners ∙ i.sized in
        let ranked = moves-ranked b rows ws passes t.owners some-ranks i.ranked in
        let empty = check-empty b.ranks mo some-ranks few-ranks (omega (arith, i.enough)) (omega (arith, i.few)) ranked in
        let whole : map lists_of (t.levels ++ l ∷ []) ≡ ladder rows ws cs = map-append lists_of t.levels (l ∷ []) ∙ rw (i.climbed, i.top) in
        record {
          growth = grew i.grows (λ d. let w = empty d in inr (w.0, (t.levels, l, w.1.0, refl, w.1.1, w.1.2)));
          unclaimed = λ e. absurd (unchecked b.ranks mo 8 refl e);
          fair = all_append (FairLevel b passes) t.levels (l ∷ []) i.fair (fair, tt);
          swaps-due = due-snoc b swapping x t.levels l i.unswapped (swaps-are rows ws swapping mo x l refl refl refl);
          unswapped = λ e. all_append Unswapped t.levels (l ∷ []) i.unswapped (no-swaps rows ws swapping mo x e, tt);
          first = j.0;
          linked = j.1;
          rest = [];
          climbed = append-nil _ ∙ whole;
          done = λ e. record {
            coarser = t.levels;
            last = l;
            levels-are = level-added passes swapping rows ws group t;
            whole = whole;
            rows_are = refl;
            owners-are = sym (foldl-append after m.steps sw t.owners);
            sized = size;
            swapped = along;
            within = λ r h. moves-within b.cap rows ws r m.steps t.owners made (i.within r h);
            checked = e;
            enough = i.enough;
            still = λ z. ap (foldl after mo) (no-swaps rows ws swapping mo x z);
          };
        }

    -- growth, refused or not
    record Grown (rows : List (List ℕ)) (ws : List ℕ) (t : Trace) : Type 0 where
      growth : Grew b.ranks (growth_on b rows ws []) t
      none_yet : t.levels ≡ []
      unclaimed : t.refusal ≡ 8 → any (eqb unassigned) (grown t.growth t.growth.turns) ≡ true
      starts : t.refusal ≡ 0 → t.owners ≡ grown t.growth t.growth.turns
      sized : t.refusal ≡ 0 → length t.owners ≡ length rows
      within : t.refusal ≡ 0 → (r : ℕ) → r < b.ranks → load ws t.owners r ≤ b.cap
      enough : t.refusal ≡ 0 → b.ranks ≤ length rows
      ranked : t.refusal ≡ 0 → All (λ x. x < b.ranks) t.owners

    grow-grown : (rows : List (List ℕ)) (ws : List ℕ) → Grown rows ws (grow b passes rows ws)
    unfolding grow
    grow-grown rows ws = go (any (ltb b.cap) ws) (ltb (length rows) b.ranks) refl refl
      where
        g : Growth
        g = growth_on b rows ws []

        run : Trace
        run = record { growth = g; levels = []; refusal = cond (any (eqb unassigned) (grown g g.turns)) 8 0; owners = grown g g.turns }

        is8 : (x : Bool) → ◌≡◌ {A = ℕ} (cond x 8 0) 8 → x ≡ true
        is8 true e = refl
        is8 false e = absurd (omega arith)

        is0 : (x : Bool) → ◌≡◌ {A = ℕ} (cond x 8 0) 0 → x ≡ false
        is0 true e = absurd (omega arith)
        is0 false e = refl

        only8 : (x : Bool) → ◌≢◌ {A = ℕ} (cond x 8 0) 0 → ◌≡◌ {A = ℕ} (cond x 8 0) 8
        only8 true d = refl
        only8 false d = absurd (d refl)

        none : (number : ℕ) → Early number → Grown rows ws (stopped number)
        none number early =
            let some : number ≢ 0 = early-some number early in
            record {
              growth = not_yet refl refl early;
              none_yet = refl;
              unclaimed = λ e. absurd (early-8 number early e);
              starts = λ e. absurd (some e);
              sized = λ e. absurd (some e);
              within = λ e. absurd (some e);
              enough = λ e. absurd (some e);
              ranked = λ e. absurd (some e);
            }

        go
            : (x y : Bool)
            → any (ltb b.cap) ws ≡ x
            → ltb (length rows) b.ranks ≡ y
            → Grown rows ws (cond x (stopped 6) (cond y (stopped 7) run))
        go true y p q = none 6 refl
        go false true p q = none 7 refl
        go false false p q = record {
          growth = grew refl (λ d. inl (only8 (any (eqb unassigned) (grown g g.turns)) d, refl));
          none_yet = refl;
          unclaimed = is8 (any (eqb unassigned) (grown g g.turns));
          starts = λ e. refl;
          sized = λ e. unfold weighted_multisource in length-grown g g.turns;
          within = λ e r h. growth-within b.cap rows ws (farthest_seeds rows b.ranks) p r (λ q. omega arith);
          enough = λ e. ltb-false (length rows) b.ranks q;
          ranked = λ e.
              subst (λ (k : ℕ). All (λ x. x < k) (grown g g.turns)) (length-seeds rows b.ranks)
              (grown-ranked b.cap rows ws (farthest_seeds rows b.ranks) (is0 (any (eqb unassigned) (grown g g.turns)) e));
        }

    coarsest-solved
        : (swapping : Swapping) (rows : List (List ℕ)) (ws : List ℕ)
        → Sound rows
        → length rows ≤ 16384
        → (let t = grow b passes rows ws in Solved passes swapping rows ws [] (cond (eqb t.refusal 0) (refine b passes swapping rows ws [] t) t))
    coarsest-solved swapping rows ws s few =
        let t = grow b passes rows ws in
        let g = grow-grown rows ws in
        split (eqb t.refusal 0)
        (λ q.
        let z = eqb-true t.refusal 0 q in
        rw q (refine-solved swapping rows ws [] [] [] t s (record {
          grows = grew-on b.ranks (growth_on b rows ws []) t g.growth z;
          fair = rw g.none_yet tt;
          unswapped = rw g.none_yet tt;
          joins = λ l e f. rw g.none_yet (e ∙ g.starts z, tt);
          climbed = rw g.none_yet;
          top = refl;
          sized = g.sized z;
          within = g.within z;
          enough = g.enough z;
          few = few;
          ranked = g.ranked z;
        })))
        (λ q. rw q (record {
          growth = g.growth;
          unclaimed = g.unclaimed;
          fair = rw g.none_yet tt;
          swaps-due = rw g.none_yet tt;
          unswapped = λ e. rw g.none_yet tt;
          first = rw g.none_yet tt;
          linked = rw g.none_yet tt;
          rest = ladder rows ws [];
          climbed = rw g.none_yet;
          done = λ e. absurd (eqb-false t.refusal 0 q e);
        }))

    finer-solved
        : (c : Coarse) (cs : List Coarse) (swapping : Swapping) (rows : List (List ℕ)) (ws : List ℕ)
        → Sound rows
        → length rows ≤ 16384
        → Coarser rows ws c
        → (t : Trace)
        → Solved passes no_swapping c.rows c.weights cs t
        → Solved passes swapping rows ws (c ∷ cs) (cond (eqb t.refusal 0) (refine b passes swapping rows ws c.group (take_over c.group t)) t)
    finer-solved c cs swapping rows ws s few co t ih =
        let top : Lists = record { rows = rows; weights = ws; group = c.group } in
        split (eqb t.refusal 0)
        (λ q.
        let z = eqb-true t.refusal 0 q in
        let d = ih.done z in
        let still = d.still refl in
        let size : length t.owners ≡ length c.rows = ap length still ∙ d.sized in
        rw q (refine-solved swapping rows ws c.group (c ∷ cs) (ladder c.rows c.weights cs) (take_over c.group t) s (record {
          grows = grew-on b.ranks (growth_on b c.rows c.weights cs) t ih.growth z;
          fair = ih.fair;
          unswapped = ih.unswapped refl;
          joins = λ l e f.
              rw d.levels-are (
                first-snoc t.growth d.coarser d.last l (rw d.levels-are at ih.first),
                linked-snoc d.coarser d.last l (rw d.levels-are at ih.linked) (e ∙ rw (f, d.owners-are) refl),
              );
          climbed = d.whole;
          top = refl;
          sized = length-map c.group (at t.owners) ∙ co.sized;
          within = λ r h.
              omega (arith, co.loads t.owners r size, subst (λ (o : List ℕ). load c.weights o r ≤ b.cap) (sym still) (d.within r h));
          enough = omega (arith, d.enough, co.fewer);
          few = few;
          ranked = taken-all b.ranks t.owners c.group some-ranks (rw still (assigned b.ranks (moved d.last) d.checked).ranked);
        })))
        (λ q. rw q (record {
          growth = ih.growth;
          unclaimed = ih.unclaimed;
          fair = ih.fair;
          swaps-due = rw q (due-none b swapping t.levels (ih.unswapped refl));
          unswapped = λ e. ih.unswapped refl;
          first = ih.first;
          linked = ih.linked;
          rest = ih.rest ++ top ∷ [];
          climbed = sym (append_assoc (map lists_of t.levels) ih.rest (top ∷ [])) ∙ ap (λ (l : List Lists). l ++ top ∷ []) ih.climbed;
          done = λ e. absurd (eqb-false t.refusal 0 q e);
        }))

    -- by induction on the coarsening steps kept
    pub solve-solved
        : (cs : List Coarse) (swapping : Swapping) (rows : List (List ℕ)) (ws : List ℕ)
        → Sound rows
        → length rows ≤ 16384
        → Chain rows ws cs
        → Solved passes swapping rows ws cs (solve b passes swapping rows ws cs)
    unfolding solve
    solve-solved [] swapping rows ws s few ch = coarsest-solved swapping rows ws s few
    solve-solved (c ∷ cs) swapping rows ws s few ch =
        let t = solve b passes no_swapping c.rows c.weights cs in
        finer-solved c cs swapping rows ws s few ch.0 t
        (solve-solved cs no_swapping c.rows c.weights ch.0.sound (omega (arith, ch.0.fewer)) ch.1)
