-- Demand 3 of every call. Assumes nothing.
use Prim.Native.Nat.{ℕ, ◌+◌, ◌*◌, ◌/◌, ◌≤◌, ◌<◌}
use mathlib.Core.Path.{◌≡◌, refl, sym, ap, ◌∙◌, subst}
use mathlib.Core.Logic.{◌⊎◌, inl, inr}
use mathlib.Core.Bool.{Bool, true, false, cond}
use mathlib.Core.List.{List, [], ◌∷◌, ◌++◌, nil≢cons}
use native.Mathlib.Nat.{div-mul-le_self, le-div_iff_mul-le}
use native.Mathlib.Omega.{arith}
use lib.ListN.{length, replicate}
use lib.Dec.{ltb, eqb}
use borrow.Author.Tests.{ne_eqb, eqb-true, eqb-false, le-ltb}
use Rattle.links.specs.Lists.{unassigned, any, foldl, range, sum, All}
use Rattle.links.specs.Loads.{saturating, share, load_cap, Balance, balance}
use Rattle.links.specs.Graph.{vertex_count, load, owned}
use Rattle.links.specs.Options.{stop_size}
use Rattle.links.specs.declared.options.AbtmMultilevelStats.{AbtmMultilevelStats}
use Rattle.stages.specs.Coarsen.{Coarse}
use Rattle.stages.specs.Growth.{Turn, Growth, grown}
use Rattle.stages.specs.Moves.{after}
use Rattle.stages.specs.declared.swaps.Swapping.{Swapping}
use Rattle.multilevel.specs.Causes.{Call, early_cause}
use Rattle.multilevel.specs.Division.{Outcome, refused, divided, Level, Run, Trace, no_growth, swapping_of, solve, steps_of, stats_of, abtm_multilevel_partition, division}
use Rattle.multilevel.specs.Demand3.{site_rows, balance_of, passes_of, kept_steps, ladder, growth_on, swaps_due, moved, FairTurn, FairLevel, FairShares, Early, WithGrowth, WithoutGrowth, Demand3}
use Rattle.links.proofs.ListLaws.{split, all-at, sum_ones}
use Rattle.links.proofs.RowLaws.{length-rows}
use Rattle.links.proofs.OwnerLaws.{assigned}
use Rattle.stages.proofs.StepLaws.{foldl-append, length-steps}
use Rattle.stages.proofs.GrowthLaws.{all_pass}
use Rattle.stages.proofs.LoadLaws.{load-owned, swaps-within, swaps-owned}
use Rattle.multilevel.proofs.CheckLaws.{swaps-ranked}
use Rattle.multilevel.proofs.DivisionLaws.{Tested, tested, early-number, early-some, early-8, none-empty, chained, growth_on-fair, growth_on-last, first-at, linked-at, Late, Grew, grew, not_yet, due, due-at, Done, Solved, solve-solved}

-- ---- shares

div_mono : (x y d : ℕ) → 0 < d → x ≤ y → x / d ≤ y / d
div_mono x y d h k = (le-div_iff_mul-le h).1 (omega (arith, div-mul-le_self x d))

cap-share : (total k t : ℕ) → 1 ≤ k → t ≤ 500 → (balance total k t).cap ≤ total * (1000 + t) / (1000 * k)
unfolding balance load_cap share
cap-share total k t h j =
    let a : ltb 500 t ≡ false = le-ltb 500 t j in
    let b : eqb k 0 ≡ false = ne_eqb k 0 (λ e. omega arith) in
    let product = total * (1000 + t) in
    rw (a, b) (div_mono (saturating product) product (1000 * k) (omega arith) (omega arith))

module _ (b : Balance) (rows : List (List ℕ)) (ws : List ℕ) (swapping : Swapping) (cs : List Coarse) (t : Trace) (d : Done b swapping rows ws cs t) where
  owners-end : t.owners ≡ foldl after (moved d.last) d.last.swaps
  owners-end = let l = d.last in d.owners-are ∙ foldl-append after l.moves l.swaps l.start

  -- swaps leave the numbers owned as the moves left them
  same-owned : (r : ℕ) → owned t.owners r ≡ owned (moved d.last) r
  same-owned r = ap (λ (o : List ℕ). owned o r) owners-end ∙ swaps-owned b.cap rows ws r d.last.swaps (moved d.last) d.sized d.swapped

  within_cap : length ws ≡ length rows → (r : ℕ) → r < b.ranks → load ws t.owners r ≤ b.cap
  within_cap n r h =
      rw owners-end (swaps-within b.cap rows ws r d.last.swaps (moved d.last) d.sized n d.swapped (d.within r h))

  size-owners : length t.owners ≡ length rows
  size-owners =
      let l = d.last in
      ap length d.owners-are ∙ length-steps (steps_of l) l.start ∙ sym (length-steps l.moves l.start) ∙ d.sized

  ranked-owners : 1 ≤ b.ranks → All (λ r. r < b.ranks) t.owners
  ranked-owners some-ranks =
      let l = d.last in
      rw (d.owners-are ∙ foldl-append after l.moves l.swaps l.start)
      (swaps-ranked b.cap rows ws b.ranks some-ranks l.swaps (moved l) d.swapped (assigned b.ranks (moved l) d.checked).ranked)

-- ---- a call

abbrev pub trace : Call → Trace
trace c =
    let rows = site_rows c in
    solve (balance_of c) (passes_of c) (swapping_of c.options) rows c.workloads (kept_steps c)

abbrev Ended : Call → Trace → Type 0
Ended c t = Solved (balance_of c) (passes_of c) (swapping_of c.options) (site_rows c) c.workloads (kept_steps c) t

few-ranks : (c : Call) → Tested c → (balance_of c).ranks < unassigned
unfolding balance
few-ranks c g = omega (arith, g.few-ranks)

solved : (c : Call) → Tested c → Ended c (trace c)
unfolding balance
solved c g =
    let rows = site_rows c in
    let few : length rows ≤ 16384 = omega (arith, length-rows c.offsets c.neighbors, g.few-vertices) in
    let weighed : length c.workloads ≡ length rows = g.workloads.sized ∙ sym (length-rows c.offsets c.neighbors) in
    let chain = chained c.options.max_levels (stop_size c.options c.ranks) rows c.workloads g.lists.sound (omega arith) weighed in
    solve-solved (balance_of c) (passes_of c) g.some-ranks g.few-ranks (kept_steps c) (swapping_of c.options) rows c.workloads
    g.lists.sound few chain

divided-of
    : (x : Bool) (o owners : List ℕ) (s stats : AbtmMultilevelStats) (n : ℕ)
    → cond x (divided o stats) (refused n) ≡ divided owners s
    → (x ≡ true) × (owners ≡ o) × (s ≡ stats)
divided-of true o owners s stats n e = (refl, cc, cc)
divided-of false o owners s stats n e = let z : ◌≡◌ {A = ℕ} 0 1 = cc in absurd (omega arith)

refused-of
    : (x : Bool) (o : List ℕ) (s : AbtmMultilevelStats) (n m : ℕ) → cond x (divided o s) (refused n) ≡ refused m → (x ≡ false) × (n ≡ m)
refused-of true o s n m e = let z : ◌≡◌ {A = ℕ} 0 1 = cc in absurd (omega arith)
refused-of false o s n m e = (refl, cc)

due-is
    : (c : Call) (x : Bool) (o : List ℕ) (s : AbtmMultilevelStats) (n : ℕ) (finer : List Level) (l : Level)
    → due (balance_of c) (swapping_of c.options) x finer l ≡ swaps_due c (cond x (divided o s) (refused n)) finer l
due-is c true o s n [] l = refl
due-is c true o s n (m ∷ finer) l = refl
due-is c false o s n finer l = refl

-- how a trace ends
abbrev ends : Call → Trace → Outcome
ends c t = cond (eqb t.refusal 0) (divided t.owners (stats_of (site_rows c) c.ranks (kept_steps c) t)) (refused t.refusal)

shares_of
    : (c : Call)
    → Tested c
    → (t : Trace)
    → Ended c t
    → (owners : List ℕ) (s : AbtmMultilevelStats)
    → ends c t ≡ divided owners s
    → FairShares c t.levels owners s
unfolding balance stats_of
shares_of c g t sol owners s e =
    let rows = site_rows c in
    let k = c.ranks in
    let n = length-rows c.offsets c.neighbors in
    let per = c.options.imbalance_per_mille in
    let sw = swapping_of c.options in
    let a = divided-of (eqb t.refusal 0) t.owners owners s (stats_of rows k (kept_steps c) t) t.refusal e in
    let d = sol.done (eqb-true t.refusal 0 a.0) in
    let weighed : length c.workloads ≡ length rows = g.workloads.sized ∙ sym n in
    let share : (balance_of c).cap ≤ sum c.workloads * (1000 + per) / (1000 * k) = cap-share (sum c.workloads) k per g.some-ranks g.tolerance in
    let most : (r : ℕ) → r < k → load c.workloads t.owners r ≤ sum c.workloads * (1000 + per) / (1000 * k) =
    λ r h. omega (arith, within_cap (balance_of c) rows c.workloads sw (kept_steps c) t d weighed r h, share) in
    let size : length t.owners ≡ vertex_count c.offsets = size-owners (balance_of c) rows c.workloads sw (kept_steps c) t d ∙ n in
    rw (a.1, a.2) (record {
      size = size;
      ranked = ranked-owners (balance_of c) rows c.workloads sw (kept_steps c) t d g.some-ranks;
      least = λ r h. omega (arith, same-owned (balance_of c) rows c.workloads sw (kept_steps c) t d r, none-empty k (moved d.last) d.checked r h);
      most = most;
      ones = λ all-1 r h.
          let counted : load (replicate (vertex_count c.offsets) 1) t.owners r ≡ owned t.owners r = rw size at (load-owned t.owners r) in
          rw (all-1, counted, sum_ones (vertex_count c.offsets)) at (most r h);
      whole = d.whole;
      finest = (d.coarser, d.last, d.levels-are, d.rows_are, d.owners-are);
      moves = refl;
    })

-- ---- growth

-- every turn of a growth is fair
abbrev FairGrowth : ℕ → Growth → Type 0
FairGrowth cap g = (before later : List Turn) (t : Turn) → g.turns ≡ before ++ t ∷ later → FairTurn cap g (grown g before) t

-- it ended with a round in which every rank passed
abbrev LastRound : ℕ → Growth → Type 0
LastRound k g = (before : List Turn) × (g.turns ≡ before ++ all_pass (range 0 k))

no-turns : (cap : ℕ) → FairGrowth cap no_growth
no-turns cap [] later t e = absurd (nil≢cons e)
no-turns cap (x ∷ before) later t e = absurd (nil≢cons e)

module _ (b : Balance) (rows : List (List ℕ)) (ws : List ℕ) (cs : List Coarse) (t : Trace) where
  fair-turns : Grew b.ranks (growth_on b rows ws cs) t → FairGrowth b.cap t.growth
  fair-turns (grew e late) = subst (FairGrowth b.cap) (sym e) (growth_on-fair b cs rows ws)
  fair-turns (not_yet e l early) = subst (FairGrowth b.cap) (sym e) (no-turns b.cap)

  last-turns
      : b.ranks < unassigned
      → Grew b.ranks (growth_on b rows ws cs) t
      → t.refusal ≡ 8
      → any (eqb unassigned) (grown t.growth t.growth.turns) ≡ true
      → LastRound b.ranks t.growth
  last-turns n (grew e late) z u =
      let Vacant : Growth → Type 0 = λ g. any (eqb unassigned) (grown g g.turns) ≡ true in
      subst (LastRound b.ranks) (sym e) (growth_on-last b cs rows ws n (subst Vacant e u))
  last-turns n (not_yet e l early) z u = absurd (early-8 t.refusal early z)

-- ---- a division whose call passed the tests, and one whose call did not

abbrev run_of : Call → Trace → Run
run_of c t = record { growth = t.growth; levels = t.levels; outcome = ends c t }

-- whether it came to growth, and what its refusal is then
growth-told
    : (c : Call) (t : Trace)
    → Grew c.ranks (growth_on (balance_of c) (site_rows c) c.workloads (kept_steps c)) t
    → WithGrowth c (run_of c t) ⊎ WithoutGrowth (run_of c t)
growth-told c t (grew e late) =
    inl (record {
      growth = e;
      refusal = λ number q.
          let z = refused-of (eqb t.refusal 0) t.owners (stats_of (site_rows c) c.ranks (kept_steps c) t) t.refusal number q in
          subst (λ (x : ℕ). Late c.ranks x t.levels) z.1 (late (eqb-false t.refusal 0 z.0));
    })
growth-told c t (not_yet e l early) =
    inr (record {
      number = t.refusal;
      early = early;
      refusal = rw (ne_eqb t.refusal 0 (early-some t.refusal early));
      growth = e;
      levels = l;
    })

worked : (c : Call) → Tested c → (t : Trace) → Ended c t → Demand3 c (run_of c t)
unfolding balance
worked c g t sol =
    let b = balance_of c in
    let rows = site_rows c in
    let ws : List ℕ = c.workloads in
    let cs = kept_steps c in
    record {
      shares = shares_of c g t sol;
      growth = growth-told c t sol.growth;
      turns = fair-turns b rows ws cs t sol.growth;
      last_round = λ e.
          let z = (refused-of (eqb t.refusal 0) t.owners (stats_of rows c.ranks cs t) t.refusal 8 e).1 in
          last-turns b rows ws cs t (few-ranks c g) sol.growth z (sol.unclaimed z);
      ladders = (sol.rest, sol.climbed);
      levels = λ coarser finer l e. all-at (FairLevel b (passes_of c)) t.levels coarser finer l sol.fair e;
      swaps = λ coarser finer l e.
          due-at b (swapping_of c.options) (eqb t.refusal 0) t.levels coarser finer l sol.swaps-due e
          ∙ due-is c (eqb t.refusal 0) t.owners (stats_of rows c.ranks cs t) t.refusal finer l;
      coarsest = λ l finer e. first-at t.growth t.levels sol.first l finer e;
      takeover = λ coarser finer l m e. linked-at t.levels coarser finer l m sol.linked e;
    }

no-levels : (xs : List Level) (l : Level) (ys : List Level) → [] ≡ xs ++ l ∷ ys → ⊥
no-levels [] l ys e = nil≢cons e
no-levels (x ∷ xs) l ys e = nil≢cons e

untouched : (c : Call) (number : ℕ) → Early number → Demand3 c (record { growth = no_growth; levels = []; outcome = refused number })
untouched c number early =
    record {
      shares = λ owners s e. let z : ◌≡◌ {A = ℕ} 0 1 = cc in absurd (omega arith);
      growth = inr (record { number = number; early = early; refusal = refl; growth = refl; levels = refl });
      turns = no-turns (balance_of c).cap;
      last_round = λ e. let z : number ≡ 8 = cc in absurd (early-8 number early z);
      ladders = (ladder (site_rows c) c.workloads (kept_steps c), refl);
      levels = λ coarser finer l e. absurd (no-levels coarser l finer e);
      swaps = λ coarser finer l e. absurd (no-levels coarser l finer e);
      coarsest = λ l finer e. absurd (nil≢cons e);
      takeover = λ coarser finer l m e. absurd (no-levels coarser l (m ∷ finer) e);
    }

-- ---- demand 3

pub demand3 : (c : Call) → Demand3 c (division c)
unfolding division abtm_multilevel_partition
demand3 c = split (eqb (early_cause c) 0)
    (λ q. let g = tested c (eqb-true (early_cause c) 0 q) in rw q (worked c g (trace c) (solved c g)))
    (λ q. rw q (untouched c (early_cause c) (early-number c (eqb-false (early_cause c) 0 q))))

-- ---- how a call ends

-- a call that is accepted has passed the tests, and its owners and stats are its trace's
pub divided-by
    : (c : Call) (owners : List ℕ) (s : AbtmMultilevelStats)
    → (division c).outcome ≡ divided owners s
    → (early_cause c ≡ 0) × (owners ≡ (trace c).owners) × (s ≡ stats_of (site_rows c) c.ranks (kept_steps c) (trace c))
unfolding division abtm_multilevel_partition
divided-by c owners s e = split (eqb (early_cause c) 0)
    (λ q.
    let t = trace c in
    let stats = stats_of (site_rows c) c.ranks (kept_steps c) t in
    let d = divided-of (eqb t.refusal 0) t.owners owners s stats t.refusal (rw q at e) in
    (eqb-true (early_cause c) 0 q, d.1, d.2))
    (λ q. let z : refused (early_cause c) ≡ divided owners s = rw q at e in let y : ◌≡◌ {A = ℕ} 0 1 = cc in absurd (omega arith))

-- a call's refusal is its early cause, or else its trace's
pub refused-by
    : (c : Call) (number : ℕ)
    → (division c).outcome ≡ refused number
    → (early_cause c ≡ number) ⊎ ((early_cause c ≡ 0) × ((trace c).refusal ≡ number))
unfolding division abtm_multilevel_partition
refused-by c number e = split (eqb (early_cause c) 0)
    (λ q.
    let t = trace c in
    let stats = stats_of (site_rows c) c.ranks (kept_steps c) t in
    inr (eqb-true (early_cause c) 0 q, (refused-of (eqb t.refusal 0) t.owners stats t.refusal number (rw q at e)).1))
    (λ q. let z : refused (early_cause c) ≡ refused number = rw q at e in inl (cc))
