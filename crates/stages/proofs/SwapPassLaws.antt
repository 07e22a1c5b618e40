-- Rule 7's passes in the work slice: the proposals of two ranks, of one rank and the later ones, of all; a pass, and the passes. Assumes nothing.
use Prim.Native.Nat.{ℕ, zero, suc, ◌+◌, ◌-◌, ◌*◌, ◌≤◌, ◌<◌}
use mathlib.Core.Path.{◌≡◌, refl, sym, ap, ◌∙◌}
use mathlib.Core.List.{List, [], ◌∷◌, ◌++◌, map, append-nil}
use native.Mathlib.Omega.{arith}
use native.Mathlib.Numerals.{add-one}
use lib.ListN.{length, take}
use Rattle.links.specs.Lists.{at, All, foldl, range, concat_map}
use Rattle.links.specs.Parts.{part, Kept}
use Rattle.links.proofs.PartLaws.{get_or-part, kept_refl, kept_trans, kept-wide}
use Rattle.links.proofs.RangeLaws.{range_snoc, concat-append}
use Rattle.stages.specs.Level.{offsets_at, neighbors_at, rows_at, weights_at, owners_at, Ready, balance_in}
use Rattle.stages.specs.Moves.{Step, after}
use Rattle.stages.specs.Swaps.{Proposal, candidates, proposals, all_proposals, refine_fine_pair_swaps}
use Rattle.stages.specs.Slots.{proposal, slots}
use Rattle.stages.specs.Keys.{key_of, filled}
use Rattle.stages.specs.MovesCode.{Clear, Loaded, Roomed}
use Rattle.stages.specs.SwapsCode.{list_place, Given, AllSorted, Standing, Marked, Empty, Holding, ListedAll, proposed, Within, Named, Facing, Taken, rank_proposals, ranks_proposals, pass_from, Stepped, swapping_in, swaps_at, Swappable, RefinedBySwaps}
use Rattle.stages.specs.declared.swaps.SwapRoom.{SwapRoom}
use Rattle.stages.proofs.CutLaws.{cut-entries, list-entries}
use Rattle.stages.proofs.StepLaws.{swaps-few}
use Rattle.stages.proofs.MovesLaws.{Toward, toward-start, passes_left, repeat-turn, repeat-quiet, repeat-end}
use Rattle.stages.proofs.LevelLaws.{length-neighbors, length-owners, all-vertices, rows-kept, weights-kept, owners-kept, beneath}
use Rattle.stages.proofs.SlotLaws.{slots-empty}
use Rattle.stages.proofs.SwapListLaws.{proposals-are, proposals-none, proposals-none-back, candidates-within, proposals-named}
use Rattle.stages.proofs.SwapsSliceLaws.{rows_few, rows_short, roomed}
use Rattle.stages.proofs.KeyLaws.{filled_none}
use Rattle.stages.proofs.SwapStepLaws.{taken_none, taken-then}
use Rattle.stages.proofs.ListingLaws.{pair-below, list-kept, given-kept, owners-same, sorted-empty}

-- ---- two ranks

-- the first of an array's front
pub first-zero : (k : ℕ) (xs : List ℕ) → at xs 0 ≡ 0 → at (take k xs) 0 ≡ 0
first-zero zero xs e = refl
first-zero (suc k) [] e = refl
first-zero (suc k) (x ∷ xs) e = e

module _ {w : List ℕ} {s : SwapRoom} (g : Given w s) where
  abbrev rows : List (List ℕ)
  rows = rows_at w s.level

  within : (owners : List ℕ) (a b : ℕ) → All (Within s.level.vertices) (map key_of (candidates s.list_length rows owners a b))
  within owners a b = rw (all-vertices g.ready) at (candidates-within rows (rows_few g) (rows_short g) s.list_length owners a b)

  module _ {x y : ℕ} {owners : List ℕ} {a b : ℕ} (f : Facing w s x y owners a b) where
    pub fore-within : All (Within s.level.vertices) (filled (part w x (x + s.list_length)))
    fore-within = rw f.fore (within owners a b)

    pub back-within : All (Within s.level.vertices) (filled (part w y (y + s.list_length)))
    back-within = rw f.back (within owners b a)

    -- what a zeroed array comes to
    pub made
        : (room : ℕ) (list list' : List ℕ)
        → s.list_length * s.list_length ≤ room
        → at list 0 ≡ 0
        → slots proposal room list'
        ≡ foldl (λ ps c. foldl (proposed room rows c) ps (filled (part w y (y + s.list_length)))) (slots proposal room list) (filled (part w x (x + s.list_length)))
        → slots proposal room list' ≡ proposals s.list_length rows owners a b
    made room list list' h z e =
        e ∙ rw (slots-empty proposal room list z, f.fore, f.back) (proposals-are rows (rows_few g) (rows_short g) s.list_length room owners a b h)

    pub named : (ps : List Proposal) → ps ≡ proposals s.list_length rows owners a b → All (Named s.level.vertices) ps
    named ps e = rw e (rw (all-vertices g.ready) at (proposals-named rows (rows_few g) (rows_short g) s.list_length owners a b))

-- ---- a rank and the later ones, and all ranks

module _ {w : List ℕ} {s : SwapRoom} (g : Given w s) where
  abbrev k : ℕ
  k = s.limits.ranks

  place-fits : (a b : ℕ) → a < k → b < k → list_place s a b + s.list_length ≤ length w
  place-fits a b p q = omega (arith, pair-below a b k p q, g.lists-in, g.few-listed)

  -- a list whose first number is 0 is empty
  first_of : (z : ℕ) → at w z ≡ 0 → filled (part w z (z + s.list_length)) ≡ []
  first_of z e =
      let i : z + 0 ≡ z = omega arith in
      filled_none (part w z (z + s.list_length)) (get_or-part w z (z + s.list_length) 0 (omega (arith, g.some-listed)) ∙ ap (at w) i ∙ e)

  -- two places of lists
  module _ (owners : List ℕ) (f : Holding w s owners) {a b : ℕ} (p : a < k) (q : b < k) (d : a < b) (x y : ℕ) (ex : x ≡ list_place s a b) (ey : y ≡ list_place s b a) where
    pub facing : Facing w s x y owners a b
    facing = record {
      fore-in = rw ex (place-fits a b p q);
      back_in = rw ey (place-fits b a q p);
      fore = rw ex (f a b p q (λ e. omega arith));
      back = rw ey (f b a q p (λ e. omega arith));
    }

    -- an empty list on one side
    pub pair-empty : Standing w s → at w x ≡ 0 → Taken w w s 0 (proposals s.list_length (rows_at w s.level) owners a b)
    pair-empty t e = rw (proposals-none (rows_at w s.level) s.list_length owners a b (sym facing.fore ∙ first_of x e)) (taken_none t)

    pub pair-empty-back : Standing w s → at w y ≡ 0 → Taken w w s 0 (proposals s.list_length (rows_at w s.level) owners a b)
    pair-empty-back t e = rw (proposals-none-back (rows_at w s.level) s.list_length owners a b (sym facing.back ∙ first_of y e)) (taken_none t)

  -- the lists stay while swaps are made
  module _ {w₁ : List ℕ} {done : ℕ} {ps : List Proposal} (t : Taken w w₁ s done ps) where
    same_rows : rows_at w₁ s.level ≡ rows_at w s.level
    same_rows = rows-kept g.ready t.kept (beneath g.ready (omega arith))

    pub holding-on : (owners : List ℕ) → Holding w s owners → Holding w₁ s owners
    holding-on owners f a b p q d = list-kept s t.kept (omega (arith, g.tallies-in)) a b ∙ f a b p q d ∙ rw same_rows

    -- one pair more
    pub pair-turn
        : {w₂ : List ℕ} {more : ℕ} (owners : List ℕ) (a b : ℕ)
        → ps ≡ rank_proposals s.list_length (rows_at w s.level) owners a b
        → a < b
        → Taken w₁ w₂ s more (proposals s.list_length (rows_at w₁ s.level) owners a b)
        → Taken w w₂ s (done + more) (rank_proposals s.list_length (rows_at w s.level) owners a (b + 1))
    pair-turn {w₂} {more} owners a b e h u =
        let f = proposals s.list_length (rows_at w s.level) owners a in
        let n : b + 1 - suc a ≡ suc (b - suc a) = omega arith in
        let split_off : rank_proposals s.list_length (rows_at w s.level) owners a (b + 1) ≡ ps ++ f b =
        ap (λ (z : ℕ). concat_map f (range (suc a) z)) n
        ∙ ap (concat_map f) (range_snoc (suc a) (b - suc a) b (omega arith))
        ∙ concat-append f (range (suc a) (b - suc a)) (b ∷ [])
        ∙ rw (append-nil (f b), e) in
        rw split_off (taken-then g t (rw same_rows at u))

    -- one rank more
    pub rank-turn
        : {w₂ : List ℕ} {more : ℕ} (owners : List ℕ) (a : ℕ)
        → ps ≡ ranks_proposals s.list_length (rows_at w s.level) owners k a
        → Taken w₁ w₂ s more (rank_proposals s.list_length (rows_at w₁ s.level) owners a k)
        → Taken w w₂ s (done + more) (ranks_proposals s.list_length (rows_at w s.level) owners k (a + 1))
    rank-turn {w₂} {more} owners a e u =
        let f : ℕ → List Proposal = λ a. rank_proposals s.list_length (rows_at w s.level) owners a k in
        let split_off : ranks_proposals s.list_length (rows_at w s.level) owners k (a + 1) ≡ ps ++ f a =
        ap (λ (z : ℕ). concat_map f (range 0 z)) (add-one a)
        ∙ ap (concat_map f) (range_snoc 0 a a (omega arith))
        ∙ concat-append f (range 0 a) (a ∷ [])
        ∙ rw (append-nil (f a), e) in
        rw split_off (taken-then g t (rw same_rows at u))

-- before the first pair, and before the first rank
pub pairs-none : (n : ℕ) (rows : List (List ℕ)) (owners : List ℕ) (a : ℕ) → rank_proposals n rows owners a (a + 1) ≡ []
pairs-none n rows owners a = let e : a + 1 - suc a ≡ 0 = omega arith in rw e

pub ranks-all : (n : ℕ) (rows : List (List ℕ)) (owners : List ℕ) (k : ℕ) → ranks_proposals n rows owners k k ≡ all_proposals n rows k owners
unfolding all_proposals
ranks-all n rows owners k = refl

-- ---- a pass

standing-kept
    : {w w' : List ℕ} {s : SwapRoom} {x e : ℕ}
    → Standing w s
    → Kept x e w' w
    → s.used ≤ x
    → ((r : ℕ) → r < s.limits.ranks → at w' (s.loads + r) ≡ at w (s.loads + r))
    → Standing w' s
standing-kept t k h f = record {
  given = given-kept t.given k h;
  loaded = λ r m. f r m ∙ t.loaded r m ∙ rw (weights-kept t.given.ready k (beneath t.given.ready (omega (arith, t.given.ready.laid.owners-in))), owners-same t.given k h);
}

-- the flags are cleared, and then the lists
module _ {w w₁ w₂ : List ℕ} {s : SwapRoom} (t : Standing w s) (z : Clear w s.tallies s.limits.ranks) (z₁ : Clear w₁ s.used s.level.vertices)
    (k₁ : Kept s.used (s.used + s.level.vertices) w₁ w) (z₂ : Clear w₂ s.lists (12 * (s.limits.ranks * s.limits.ranks)))
    (k₂ : Kept s.lists (s.lists + 12 * (s.limits.ranks * s.limits.ranks)) w₂ w₁) where
  abbrev ranks : ℕ
  ranks = s.limits.ranks

  uses : s.used + s.level.vertices ≤ s.loads
  uses = t.given.used-in

  loads-before : s.loads + ranks ≤ s.tallies
  loads-before = t.given.loads-in

  tallies-before : s.tallies + ranks ≤ s.lists
  tallies-before = t.given.tallies-in

  room : s.lists + 12 * (ranks * ranks) ≤ length w
  room = t.given.lists-in

  standing₁ : Standing w₁ s
  standing₁ = standing-kept t k₁ (omega arith) (λ r h. k₁.beyond (s.loads + r) (omega (arith, uses)))

  pub standing₂ : Standing w₂ s
  standing₂ = standing-kept standing₁ k₂ (omega (arith, uses, loads-before, tallies-before)) (λ r h. k₂.below (s.loads + r) (omega (arith, loads-before, tallies-before)))

  pub clear₂ : Clear w₂ s.tallies ranks
  clear₂ r h = k₂.below (s.tallies + r) (omega (arith, tallies-before)) ∙ k₁.beyond (s.tallies + r) (omega (arith, uses, loads-before)) ∙ z r h

  pub empty₂ : Empty w₂ s
  empty₂ a b p q = first_of standing₂.given (list_place s a b) (z₂ (12 * (a * ranks + b)) (omega (arith, pair-below a b ranks p q)))

  pub sorted₂ : AllSorted w₂ s
  sorted₂ = sorted-empty standing₂.given z₂

  -- all are listed
  module _ {w₃ : List ℕ} (l : ListedAll w₂ w₃ s) where
    pub standing₃ : Standing w₃ s
    standing₃ = standing-kept standing₂ l.kept (omega (arith, uses, loads-before)) (λ r h. l.kept.below (s.loads + r) (omega (arith, loads-before)))

    marked₃ : Marked w₃ s []
    marked₃ v h =
        let e : at w₃ (s.used + v) ≡ 0 =
        l.kept.below (s.used + v) (omega (arith, uses, loads-before))
        ∙ k₂.below (s.used + v) (omega (arith, uses, loads-before, tallies-before))
        ∙ z₁ v h in
        rw e

    kept₃ : Kept s.used (length w) w₃ w
    kept₃ =
        let n₁ = k₁.same_length in
        let n₂ = k₂.same_length in
        kept_trans s.used (length w) w₃ w₂ w
        (kept-wide s.tallies (length w₂) s.used (length w) w₃ w₂ (omega (arith, uses, loads-before)) (omega arith) l.kept)
        (kept_trans s.used (length w) w₂ w₁ w
        (kept-wide s.lists (s.lists + 12 * (ranks * ranks)) s.used (length w) w₂ w₁ (omega (arith, uses, loads-before, tallies-before)) (omega (arith, room)) k₂)
        (kept-wide s.used (s.used + s.level.vertices) s.used (length w) w₁ w (omega arith) (omega (arith, uses, loads-before, tallies-before, room)) k₁))

    -- and the swaps are made
    pub pass-made
        : {w₄ : List ℕ} {r : ℕ}
        → Taken w₃ w₄ s r (all_proposals s.list_length (rows_at w₃ s.level) ranks (owners_at w₂ s.level))
        → Stepped w w₄ s (pass_from w s (owners_at w s.level)) r
    pass-made {w₄} {r} d =
        let low : s.level.owners ≤ s.used = omega (arith, t.given.ready.laid.owners-in) in
        let rows₃ : rows_at w₃ s.level ≡ rows_at w s.level = rows-kept t.given.ready kept₃ (beneath t.given.ready low) in
        let weights₃ : weights_at w₃ s.level ≡ weights_at w s.level = weights-kept t.given.ready kept₃ (beneath t.given.ready low) in
        let owners₃ : owners_at w₃ s.level ≡ owners_at w s.level = owners-same t.given kept₃ (omega arith) in
        let owners₂ : owners_at w₂ s.level ≡ owners_at w s.level =
        owners-same standing₁.given k₂ (omega (arith, uses, loads-before, tallies-before)) ∙ owners-same t.given k₁ (omega arith) in
        let e = rw (rows₃, weights₃, owners₃, owners₂) at (d.done [] marked₃) in
        record {
          owners-are = rw owners₃ at e.owners-are;
          counted = e.counted;
          standing = d.standing;
          clear = λ i h. d.kept.beyond (s.tallies + i) (omega arith) ∙ l.clear i h;
          kept = kept_trans s.level.owners (length w) w₄ w₃ w
              (kept-wide s.level.owners s.tallies s.level.owners (length w) w₄ w₃ (omega arith) (omega (arith, tallies-before, room)) d.kept)
              (kept-wide s.used (length w) s.level.owners (length w) w₃ w low (omega arith) kept₃);
        }

-- ---- the passes

-- at pass p: what stands in the slice, and that the rest leads to the same end
pub record Repeating (w₀ w : List ℕ) (s : SwapRoom) (passes total p : ℕ) : Type 0 where
  pub standing : Standing w s
  pub clear : Clear w s.tallies s.limits.ranks
  pub kept : Kept s.level.owners (length w₀) w w₀
  pub toward
      : Toward (owners_at w₀ s.level) (swaps_at w₀ s.level s.limits (swapping_in s passes)) (owners_at w s.level) total
      (passes_left (pass_from w₀ s) passes p (owners_at w s.level))

module _ {w₀ : List ℕ} {s : SwapRoom} (t : Standing w₀ s) (passes : ℕ) where
  all : List Step
  all = swaps_at w₀ s.level s.limits (swapping_in s passes)

  ready : Ready w₀ s.level s.used
  ready = t.given.ready

  -- there are no more swaps than neighbor entries
  swaps-bound : length all ≤ 131072
  unfolding all
  swaps-bound =
      omega (
        arith,
        swaps-few (balance_in s.limits) (rows_at w₀ s.level) (weights_at w₀ s.level) ready.lists.sound s.list_length passes (owners_at w₀ s.level) (length-owners ready ∙ sym (all-vertices ready)),
        cut-entries (rows_at w₀ s.level) (owners_at w₀ s.level),
        list-entries (offsets_at w₀ s.level) (neighbors_at w₀ s.level) ready.lists,
        length-neighbors ready,
        ready.short,
      )

  pub repeat-starts : Clear w₀ s.tallies s.limits.ranks → Repeating w₀ w₀ s passes 0 0
  unfolding refine_fine_pair_swaps
  repeat-starts z =
      let e : passes - 0 ≡ passes = omega arith in
      record {
        standing = t;
        clear = z;
        kept = kept_refl s.level.owners (length w₀) w₀;
        toward = rw (passes_left, e) (toward-start (owners_at w₀ s.level) (swaps_at w₀ s.level s.limits (swapping_in s passes)));
      }

  module _ {w w' : List ℕ} {total p count : ℕ} (d : Repeating w₀ w s passes total p) (h : p < passes) (x : Stepped w w' s (pass_from w s (owners_at w s.level)) count) where
    same-pass : pass_from w s (owners_at w s.level) ≡ pass_from w₀ s (owners_at w s.level)
    same-pass = rw (rows-kept ready d.kept (beneath ready (omega arith)), weights-kept ready d.kept (beneath ready (omega arith)))

    number : count ≡ length (pass_from w₀ s (owners_at w s.level))
    number = x.counted ∙ ap length same-pass

    owned : owners_at w' s.level ≡ foldl after (owners_at w s.level) (pass_from w₀ s (owners_at w s.level))
    owned = x.owners-are ∙ ap (foldl after (owners_at w s.level)) same-pass

    kept_on : Kept s.level.owners (length w₀) w' w₀
    kept_on = kept_trans s.level.owners (length w₀) w' w w₀ (rw d.kept.same_length at x.kept) d.kept

    -- a pass with a swap
    pub repeat-goes : (count ≡ 0 → ⊥) → Repeating w₀ w' s passes (total + count) (p + 1)
    repeat-goes z = record {
      standing = x.standing;
      clear = x.clear;
      kept = kept_on;
      toward = rw (number, owned)
          (repeat-turn (pass_from w₀ s) (owners_at w₀ s.level) (swaps_at w₀ s.level s.limits (swapping_in s passes)) passes p (owners_at w s.level) total h d.toward (λ e. z (number ∙ e)));
    }

    -- one without is the last
    pub repeat-stops : count ≡ 0 → Stepped w₀ w' s (swaps_at w₀ s.level s.limits (swapping_in s passes)) total
    repeat-stops z =
        let u : Toward (owners_at w₀ s.level) (swaps_at w₀ s.level s.limits (swapping_in s passes)) (owners_at w' s.level) total [] =
        rw owned (repeat-quiet (pass_from w₀ s) (owners_at w₀ s.level) (swaps_at w₀ s.level s.limits (swapping_in s passes)) passes p (owners_at w s.level) total h d.toward (sym number ∙ z)) in
        record { owners-are = u.end; counted = omega (arith, u.count); standing = x.standing; clear = x.clear; kept = kept_on }

  pub total-few : {w : List ℕ} {total p : ℕ} → Repeating w₀ w s passes total p → total ≤ 131072
  unfolding all
  total-few d = omega (arith, d.toward.count, swaps-bound)

  pub repeat-done : {w : List ℕ} {total p : ℕ} → passes ≤ p → Repeating w₀ w s passes total p → Stepped w₀ w s (swaps_at w₀ s.level s.limits (swapping_in s passes)) total
  repeat-done {w} {total} {p} h d =
      let u : Toward (owners_at w₀ s.level) (swaps_at w₀ s.level s.limits (swapping_in s passes)) (owners_at w s.level) total [] =
      rw (repeat-end (pass_from w₀ s) passes p (owners_at w s.level) h) at d.toward in
      record { owners-are = u.end; counted = omega (arith, u.count); standing = d.standing; clear = d.clear; kept = d.kept }

-- ---- the stage

-- the loads and the tallies are 0, and then the loads are reckoned
module _ {w w₁ : List ℕ} (s : SwapRoom) (q : Swappable w s.level s.used s.lists s.limits.ranks s.list_length) (at-loads : s.loads ≡ s.used + s.level.vertices)
    (at-tallies : s.tallies ≡ s.loads + s.limits.ranks) (k₁ : Kept s.loads (s.loads + 2 * s.limits.ranks) w₁ w) where
  given₀ : Given w s
  given₀ = record {
    ready = q.ready;
    used-in = omega arith;
    loads-in = omega arith;
    tallies-in = omega (arith, q.room);
    lists-in = omega (arith, q.lists-in);
    some-listed = q.some-listed;
    few-listed = q.few-listed;
    few-ranks = q.few;
    ranked = q.ranked;
  }

  given₁ : Given w₁ s
  given₁ = given-kept given₀ k₁ (omega arith)

  pub weighable : Roomed w₁ s.level s.loads s.limits.ranks
  weighable = roomed given₁ s.loads (omega arith) (omega (arith, q.room, q.lists-in, k₁.same_length))

  module _ {w₂ : List ℕ} (z : Clear w₁ s.loads (2 * s.limits.ranks)) (d : Loaded w₂ s.level s.loads s.limits.ranks) (k₂ : Kept s.loads (s.loads + s.limits.ranks) w₂ w₁) where
    kept₂ : Kept s.loads (length w) w₂ w
    kept₂ =
        kept_trans s.loads (length w) w₂ w₁ w
        (kept-wide s.loads (s.loads + s.limits.ranks) s.loads (length w) w₂ w₁ (omega arith) (omega (arith, q.room, q.lists-in)) k₂)
        (kept-wide s.loads (s.loads + 2 * s.limits.ranks) s.loads (length w) w₁ w (omega arith) (omega (arith, q.room, q.lists-in)) k₁)

    pub starts : Standing w₂ s
    starts = record { given = given-kept given₀ kept₂ (omega arith); loaded = d }

    pub starts-clear : Clear w₂ s.tallies s.limits.ranks
    starts-clear r h =
        let e : s.loads + (s.limits.ranks + r) ≡ s.tallies + r = omega arith in
        k₂.beyond (s.tallies + r) (omega arith) ∙ ap (at w₁) (sym e) ∙ z (s.limits.ranks + r) (omega arith)

    pub refined
        : {w' : List ℕ} {passes r : ℕ}
        → Stepped w₂ w' s (swaps_at w₂ s.level s.limits (swapping_in s passes)) r
        → RefinedBySwaps w w' s.level s.used s.limits (swapping_in s passes) r
    refined {w'} {passes} {r} x =
        let low : s.level.owners ≤ s.loads = omega (arith, q.ready.laid.owners-in) in
        let rows₂ : rows_at w₂ s.level ≡ rows_at w s.level = rows-kept q.ready kept₂ (beneath q.ready low) in
        let weights₂ : weights_at w₂ s.level ≡ weights_at w s.level = weights-kept q.ready kept₂ (beneath q.ready low) in
        let owners₂ : owners_at w₂ s.level ≡ owners_at w s.level = owners-kept q.ready kept₂ (omega arith) in
        let made : List (List ℕ) → List ℕ → List ℕ → List Step = λ rows weights owners. (refine_fine_pair_swaps (balance_in s.limits) rows weights s.list_length passes owners).steps in
        let steps : swaps_at w₂ s.level s.limits (swapping_in s passes) ≡ swaps_at w s.level s.limits (swapping_in s passes) =
        ap (λ (z : List (List ℕ)). made z (weights_at w₂ s.level) (owners_at w₂ s.level)) rows₂
        ∙ ap (λ (z : List ℕ). made (rows_at w s.level) z (owners_at w₂ s.level)) weights₂
        ∙ ap (made (rows_at w s.level) (weights_at w s.level)) owners₂ in
        record {
          owners = x.owners-are ∙ ap (foldl after (owners_at w₂ s.level)) steps ∙ ap (λ (z : List ℕ). foldl after z (swaps_at w s.level s.limits (swapping_in s passes))) owners₂;
          number = x.counted ∙ ap length steps;
          ready = x.standing.given.ready;
          ranked = x.standing.given.ranked;
          kept = kept_trans s.level.owners (length w) w' w₂ w (rw kept₂.same_length at x.kept)
              (kept-wide s.loads (length w) s.level.owners (length w) w₂ w low (omega arith) kept₂);
        }
