-- Laws of what a level tells, as the driver comes to it: refused so far, after growth and moves, after a take-over and moves. Assumes nothing.
use Prim.Native.Nat.{ℕ, zero, suc, ◌+◌, ◌*◌, ◌≤◌, ◌<◌}
use mathlib.Core.Path.{◌≡◌, sym, ap, ◌∙◌, refl}
use mathlib.Core.Bool.{false, cond}
use mathlib.Core.List.{List, [], ◌∷◌, map}
use native.Mathlib.Nat.{zero-add}
use native.Mathlib.Omega.{arith}
use lib.ListN.{length}
use lib.Dec.{ltb, eqb}
use borrow.Author.Tests.{eqb-true, eqb-false}
use Rattle.links.specs.Lists.{at, unassigned, any, All}
use Rattle.links.specs.Loads.{Balance}
use Rattle.links.specs.Owners.{from_owners}
use Rattle.links.specs.Options.{zero_stats, added_pairs, added_moves, grown_stats}
use Rattle.links.specs.declared.options.AbtmMultilevelStats.{AbtmMultilevelStats}
use Rattle.links.proofs.ListLaws.{split}
use Rattle.links.proofs.OwnerLaws.{assigned}
use Rattle.stages.specs.Coarsen.{Coarse}
use Rattle.stages.specs.Seeds.{farthest_seeds}
use Rattle.stages.specs.Growth.{Growth, weighted_multisource, grown, restart_count}
use Rattle.std.specs.Prelude.{Result, Ok, Err}
use Rattle.links.specs.Refusals.{refusal_number}
use Rattle.links.specs.declared.refusal.Refusal.{Refusal}
use Rattle.links.proofs.RefusalLaws.{refusal-some}
use Rattle.multilevel.specs.Division.{Trace, refine, grow, take_over, no_swapping}
use Rattle.multilevel.specs.Driver.{solved, moves_from, moved_from, step_count, stats_so_far, AnswerFor, Told}
use Rattle.multilevel.proofs.DriverLaws.{refine-refusal, refine-growth, refine-owners, refine-count, onward, solved-coarsest, solved-finer, onward-refused, onward-moves, stats-coarsest, stats-finer, count_none}

-- ---- growth

-- the growth of rules 4 and 5, and the owners that it ends with
abbrev pub growth_from : Balance → List (List ℕ) → List ℕ → Growth
growth_from b rows ws = weighted_multisource b.cap rows ws (farthest_seeds rows b.ranks)

abbrev pub grown_from : Balance → List (List ℕ) → List ℕ → List ℕ
grown_from b rows ws = grown (growth_from b rows ws) (growth_from b rows ws).turns

module _ (b : Balance) (passes : ℕ) (rows : List (List ℕ)) (ws : List ℕ) where
  -- 6 before 7 before 8
  pub grow-refusal
      : (grow b passes rows ws).refusal
      ≡ cond (any (ltb b.cap) ws) 6 (cond (ltb (length rows) b.ranks) 7 (cond (any (eqb unassigned) (grown_from b rows ws)) 8 0))
  unfolding grow
  grow-refusal = split (any (ltb b.cap) ws) (λ p. rw p) (λ p. split (ltb (length rows) b.ranks) (λ q. rw (p, q)) (λ q. rw (p, q)))

  pub grow-levels : (grow b passes rows ws).levels ≡ []
  unfolding grow
  grow-levels = split (any (ltb b.cap) ws) (λ p. rw p) (λ p. split (ltb (length rows) b.ranks) (λ q. rw (p, q)) (λ q. rw (p, q)))

  -- without a refusal growth ran
  pub record Grew : Type 0 where
    pub light : any (ltb b.cap) ws ≡ false
    pub enough : ltb (length rows) b.ranks ≡ false
    pub growth-is : (grow b passes rows ws).growth ≡ growth_from b rows ws
    pub owners-are : (grow b passes rows ws).owners ≡ grown_from b rows ws

  pub grew : (grow b passes rows ws).refusal ≡ 0 → Grew
  unfolding grow
  grew z = split (any (ltb b.cap) ws)
      (λ p. let x : ◌≡◌ {A = ℕ} 6 0 = rw p at z in absurd (omega arith))
      (λ p. split (ltb (length rows) b.ranks)
      (λ q. let x : ◌≡◌ {A = ℕ} 7 0 = rw (p, q) at z in absurd (omega arith))
      (λ q. record { light = p; enough = q; growth-is = rw (p, q); owners-are = rw (p, q) }))

-- ---- answers

pub answer-refused : (refusal : ℕ) (s : AbtmMultilevelStats) (e : Refusal) → refusal_number e ≡ refusal → AnswerFor refusal s (Err e)
answer-refused refusal s e q = record { number = q; stats = λ z. absurd (refusal-some e (q ∙ z)) }

pub answer-divided : (refusal : ℕ) (s t : AbtmMultilevelStats) → refusal ≡ 0 → t ≡ s → AnswerFor refusal s (Ok t)
answer-divided refusal s t z e = record { number = sym z; stats = λ x. ap Ok e }

-- a level that tells stats is not refused, and they are its own
pub divided-of : (refusal : ℕ) (s t : AbtmMultilevelStats) → AnswerFor refusal s (Ok t) → (refusal ≡ 0) × (t ≡ s)
divided-of refusal s t a = (sym a.number, same (a.stats (sym a.number)))
  where
    same : ◌≡◌ {A = Result AbtmMultilevelStats Refusal} (Ok t) (Ok s) → t ≡ s
    same q = cc

pub refused-of : (refusal : ℕ) (s : AbtmMultilevelStats) (e : Refusal) → AnswerFor refusal s (Err e) → (refusal_number e ≡ refusal) × (refusal ≡ 0 → ⊥)
refused-of refusal s e a = (a.number, λ z. refusal-some e (a.number ∙ z))

-- one that is refused tells why
pub refused-as : (refusal : ℕ) (s : AbtmMultilevelStats) (a : Result AbtmMultilevelStats Refusal)
    → AnswerFor refusal s a → (refusal ≡ 0 → ⊥) → (e : Refusal) × (a ≡ Err e) × (refusal_number e ≡ refusal)
refused-as refusal s (Ok t) k d = absurd (d (sym k.number))
refused-as refusal s (Err e) k d = (e, refl, k.number)

-- ---- a level's moves, from a trace that is not refused

module _ (b : Balance) (passes : ℕ) (rows : List (List ℕ)) (ws : List ℕ) (cs : List Coarse) (left : ℕ) where
  -- refused before its moves
  pub told-before
      : (t : Trace) (group : List ℕ) (s : Trace) (o : List ℕ) (x : Refusal)
      → solved b passes rows ws cs ≡ onward b passes rows ws group t s
      → refusal_number x ≡ t.refusal
      → Told b passes rows ws cs left o (Err x)
  told-before t group s o x e q =
      let r : (solved b passes rows ws cs).refusal ≡ t.refusal =
      ap (λ (x : Trace). x.refusal) (e ∙ onward-refused b passes rows ws group t s (λ z. refusal-some x (q ∙ z))) in
      record {
        answer-is = answer-refused (solved b passes rows ws cs).refusal (stats_so_far rows cs (solved b passes rows ws cs)) x (q ∙ sym r);
        owners-are = λ z. absurd (refusal-some x (q ∙ sym r ∙ z));
        small = λ z. absurd (refusal-some x (q ∙ sym r ∙ z));
      }

  module _ (t : Trace) (group : List ℕ) (s : Trace) (e : solved b passes rows ws cs ≡ onward b passes rows ws group t s) (z : t.refusal ≡ 0) where
    is-refined : solved b passes rows ws cs ≡ refine b passes no_swapping rows ws group s
    is-refined = e ∙ onward-moves b passes rows ws group t s z

    refusal_is : (solved b passes rows ws cs).refusal ≡ from_owners b.ranks (moved_from b passes rows ws s.owners)
    refusal_is = ap (λ (x : Trace). x.refusal) is-refined ∙ refine-refusal b passes rows ws group s no_swapping

    -- refused by its check
    pub told-check
        : (o : List ℕ) (x : Refusal)
        → refusal_number x ≡ from_owners b.ranks (moved_from b passes rows ws s.owners)
        → Told b passes rows ws cs left o (Err x)
    told-check o x q =
        record {
          answer-is = answer-refused (solved b passes rows ws cs).refusal (stats_so_far rows cs (solved b passes rows ws cs)) x (q ∙ sym refusal_is);
          owners-are = λ y. absurd (refusal-some x (q ∙ sym refusal_is ∙ y));
          small = λ y. absurd (refusal-some x (q ∙ sym refusal_is ∙ y));
        }

    -- what its moves leave
    pub record Refined : Type 0 where
      pub zero_is : (solved b passes rows ws cs).refusal ≡ 0
      pub owners-are : (solved b passes rows ws cs).owners ≡ moved_from b passes rows ws s.owners
      pub growth-is : (solved b passes rows ws cs).growth ≡ s.growth
      pub count-is : step_count (solved b passes rows ws cs).levels ≡ step_count s.levels + length (moves_from b passes rows ws s.owners)

    pub refined : from_owners b.ranks (moved_from b passes rows ws s.owners) ≡ 0 → Refined
    refined y =
        record {
          zero_is = refusal_is ∙ y;
          owners-are = ap (λ (x : Trace). x.owners) is-refined ∙ refine-owners b passes rows ws group s y;
          growth-is = ap (λ (x : Trace). x.growth) is-refined ∙ refine-growth b passes rows ws group s no_swapping;
          count-is = ap (λ (x : Trace). step_count x.levels) is-refined ∙ refine-count b passes rows ws group s y;
        }

-- ---- the coarsest level

module _ (b : Balance) (passes : ℕ) (rows : List (List ℕ)) (ws : List ℕ) (left : ℕ) where
  pub coarsest-grown : (o : List ℕ) (x : Refusal) → refusal_number x ≡ (grow b passes rows ws).refusal → Told b passes rows ws [] left o (Err x)
  coarsest-grown o x q =
      told-before b passes rows ws [] left (grow b passes rows ws) [] (grow b passes rows ws) o x (solved-coarsest b passes rows ws) q

  module _ (z : (grow b passes rows ws).refusal ≡ 0) (o₀ : List ℕ) (eo : o₀ ≡ (grow b passes rows ws).owners) where
    pub coarsest-check
        : (o : List ℕ) (x : Refusal) → refusal_number x ≡ from_owners b.ranks (moved_from b passes rows ws o₀) → Told b passes rows ws [] left o (Err x)
    coarsest-check o x q =
        told-check b passes rows ws [] left (grow b passes rows ws) [] (grow b passes rows ws) (solved-coarsest b passes rows ws) z o x (rw eo at q)

    pub coarsest-moved
        : (o : List ℕ) (restarts m : ℕ)
        → from_owners b.ranks (moved_from b passes rows ws o₀) ≡ 0
        → o ≡ moved_from b passes rows ws o₀
        → restarts ≡ restart_count (growth_from b rows ws).turns
        → m ≡ length (moves_from b passes rows ws o₀)
        → m ≤ 131072
        → Told b passes rows ws [] left o (Ok (added_moves (grown_stats zero_stats (length rows) restarts) m))
    coarsest-moved o restarts m y q er em h =
        let r = refined b passes rows ws [] left (grow b passes rows ws) [] (grow b passes rows ws) (solved-coarsest b passes rows ws) z (rw eo at y) in
        let gr = grew b passes rows ws z in
        let none : step_count (grow b passes rows ws).levels ≡ 0 = none_yet (grow-levels b passes rows ws) in
        let count : m ≡ step_count (solved b passes rows ws []).levels =
        em ∙ ap (λ (x : List ℕ). length (moves_from b passes rows ws x)) eo ∙ sym (r.count-is ∙ rw none (zero-add _)) in
        let turns : restarts ≡ restart_count (solved b passes rows ws []).growth.turns =
        er ∙ ap (λ (x : Growth). restart_count x.turns) (sym (r.growth-is ∙ gr.growth-is)) in
        record {
          answer-is =
              answer-divided (solved b passes rows ws []).refusal (stats_so_far rows [] (solved b passes rows ws [])) _ r.zero_is
              (sym (stats-coarsest rows (solved b passes rows ws []) restarts m turns count (omega arith)));
          owners-are = λ x. q ∙ ap (moved_from b passes rows ws) eo ∙ sym r.owners-are;
          small = λ x. record { levels = omega arith; pairs = omega arith; singletons = omega arith; steps = omega (arith, count, left_one left) };
        }
      where
        none_yet : (grow b passes rows ws).levels ≡ [] → step_count (grow b passes rows ws).levels ≡ 0
        none_yet e = rw e count_none

        left_one : (left : ℕ) → 131072 ≤ (left + 1) * 131072
        left_one zero = omega arith
        left_one (suc n) = omega arith

-- ---- a finer level, over a coarser one that has told

module _ (b : Balance) (passes : ℕ) (rows : List (List ℕ)) (ws : List ℕ) (c : Coarse) (cs : List Coarse) (left : ℕ) (oc : List ℕ) where
  pub finer-refused
      : (o : List ℕ) (x : Refusal)
      → Told b passes c.rows c.weights cs left oc (Err x)
      → Told b passes rows ws (c ∷ cs) (suc left) o (Err x)
  finer-refused o x k =
      let t = solved b passes c.rows c.weights cs in
      told-before b passes rows ws (c ∷ cs) (suc left) t c.group (take_over c.group t) o x (solved-finer b passes rows ws c cs) k.answer-is.number

  module _ (s : AbtmMultilevelStats) (k : Told b passes c.rows c.weights cs left oc (Ok s)) (o₀ : List ℕ) (eo : o₀ ≡ map (at oc) c.group) where
    told : ((solved b passes c.rows c.weights cs).refusal ≡ 0) × (s ≡ stats_so_far c.rows cs (solved b passes c.rows c.weights cs))
    told =
        divided-of (solved b passes c.rows c.weights cs).refusal (stats_so_far c.rows cs (solved b passes c.rows c.weights cs)) s k.answer-is

    taken : o₀ ≡ (take_over c.group (solved b passes c.rows c.weights cs)).owners
    taken = eo ∙ ap (λ (x : List ℕ). map (at x) c.group) (k.owners-are told.0)

    pub finer-check
        : (o : List ℕ) (x : Refusal)
        → refusal_number x ≡ from_owners b.ranks (moved_from b passes rows ws o₀)
        → Told b passes rows ws (c ∷ cs) (suc left) o (Err x)
    finer-check o x q =
        let t = solved b passes c.rows c.weights cs in
        told-check b passes rows ws (c ∷ cs) (suc left) t c.group (take_over c.group t) (solved-finer b passes rows ws c cs) told.0 o x (rw taken at q)

    pub finer-moved
        : (o : List ℕ) (m : ℕ)
        → from_owners b.ranks (moved_from b passes rows ws o₀) ≡ 0
        → o ≡ moved_from b passes rows ws o₀
        → m ≡ length (moves_from b passes rows ws o₀)
        → m ≤ 131072
        → left ≤ 32
        → c.pairs ≤ 16384
        → c.singletons ≤ 16384
        → Told b passes rows ws (c ∷ cs) (suc left) o (Ok (added_moves (added_pairs s c.pairs c.singletons) m))
    finer-moved o m y q em h hl hp hs =
        let t = solved b passes c.rows c.weights cs in
        let t' = solved b passes rows ws (c ∷ cs) in
        let r = refined b passes rows ws (c ∷ cs) (suc left) t c.group (take_over c.group t) (solved-finer b passes rows ws c cs) told.0 (rw taken at y) in
        let small = k.small told.0 in
        let count : step_count t'.levels ≡ step_count t.levels + m =
        r.count-is ∙ ap (λ (n : ℕ). step_count t.levels + n) (sym (em ∙ ap (λ (x : List ℕ). length (moves_from b passes rows ws x)) taken)) in
        let stats : stats_so_far rows (c ∷ cs) t' ≡ added_moves (added_pairs (stats_so_far c.rows cs t) c.pairs c.singletons) m =
        stats-finer rows c cs t t' m r.growth-is count (omega (arith, small.levels)) (omega (arith, small.pairs)) (omega (arith, small.singletons)) (omega (arith, small.steps)) in
        record {
          answer-is =
              answer-divided t'.refusal (stats_so_far rows (c ∷ cs) t') _ r.zero_is
              (ap (λ (x : AbtmMultilevelStats). added_moves (added_pairs x c.pairs c.singletons) m) told.1 ∙ sym stats);
          owners-are = λ x. q ∙ ap (moved_from b passes rows ws) taken ∙ sym r.owners-are;
          small = λ x.
              record {
                levels = omega (arith, small.levels);
                pairs = omega (arith, small.pairs);
                singletons = omega (arith, small.singletons);
                steps = omega (arith, count, small.steps);
              };
        }

-- ---- the owners of a level that is not refused pass the check

onward-checked
    : (b : Balance) (passes : ℕ) (rows : List (List ℕ)) (ws group : List ℕ) (t s : Trace)
    → (onward b passes rows ws group t s).refusal ≡ 0
    → t.refusal ≡ 0 → from_owners b.ranks (onward b passes rows ws group t s).owners ≡ 0
onward-checked b passes rows ws group t s z e =
    let same = onward-moves b passes rows ws group t s e in
    let y : from_owners b.ranks (moved_from b passes rows ws s.owners) ≡ 0 =
    sym (refine-refusal b passes rows ws group s no_swapping) ∙ sym (ap (λ (x : Trace). x.refusal) same) ∙ z in
    ap (λ (x : Trace). from_owners b.ranks x.owners) same ∙ ap (from_owners b.ranks) (refine-owners b passes rows ws group s y) ∙ y

-- a refusal so far would have stayed
onward-first
    : (b : Balance) (passes : ℕ) (rows : List (List ℕ)) (ws group : List ℕ) (t s : Trace) → (onward b passes rows ws group t s).refusal ≡ 0 → t.refusal ≡ 0
onward-first b passes rows ws group t s z = split (eqb t.refusal 0)
    (λ p. eqb-true t.refusal 0 p)
    (λ p. sym (ap (λ (x : Trace). x.refusal) (onward-refused b passes rows ws group t s (eqb-false t.refusal 0 p))) ∙ z)

pub solved-checked
    : (b : Balance) (passes : ℕ) (rows : List (List ℕ)) (ws : List ℕ) (cs : List Coarse)
    → (solved b passes rows ws cs).refusal ≡ 0
    → from_owners b.ranks (solved b passes rows ws cs).owners ≡ 0
solved-checked b passes rows ws [] z =
    let g = grow b passes rows ws in
    let e = solved-coarsest b passes rows ws in
    let y : (onward b passes rows ws [] g g).refusal ≡ 0 = sym (ap (λ (x : Trace). x.refusal) e) ∙ z in
    ap (λ (x : Trace). from_owners b.ranks x.owners) e ∙ onward-checked b passes rows ws [] g g y (onward-first b passes rows ws [] g g y)
solved-checked b passes rows ws (c ∷ cs) z =
    let t = solved b passes c.rows c.weights cs in
    let s = take_over c.group t in
    let e = solved-finer b passes rows ws c cs in
    let y : (onward b passes rows ws c.group t s).refusal ≡ 0 = sym (ap (λ (x : Trace). x.refusal) e) ∙ z in
    ap (λ (x : Trace). from_owners b.ranks x.owners) e ∙ onward-checked b passes rows ws c.group t s y (onward-first b passes rows ws c.group t s y)

-- so every owner is a rank, and there are as many as vertices
pub told-ranked
    : (b : Balance) (passes : ℕ) (rows : List (List ℕ)) (ws : List ℕ) (cs : List Coarse) (left : ℕ) (o : List ℕ) (s : AbtmMultilevelStats)
    → Told b passes rows ws cs left o (Ok s)
    → All (λ x. x < b.ranks) o
told-ranked b passes rows ws cs left o s k =
    let t = solved b passes rows ws cs in
    let z = (divided-of t.refusal (stats_so_far rows cs t) s k.answer-is).0 in
    rw (k.owners-are z) (assigned b.ranks t.owners (solved-checked b passes rows ws cs z)).ranked
