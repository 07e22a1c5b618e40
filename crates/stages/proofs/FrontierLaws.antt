-- What of a frontier counts: its candidates that are unowned and fit, in their order. `pop` claims the first of them and leaves the others,
-- wherever it puts the rest. Assumes nothing.
use mathlib.Core.Path.{◌≡◌, refl, sym, ap, ◌∙◌}
use mathlib.Core.Logic.{◌≢◌}
use mathlib.Core.Bool.{Bool, true, ◌&&◌, true≢false}
use mathlib.Core.List.{List, [], ◌∷◌, ◌++◌, append-nil}
use mathlib.Core.Option.{Option, none, some}
use Prim.Native.Nat.{ℕ, zero, suc, ◌+◌, ◌≤◌, ◌<◌}
use native.Mathlib.Omega.{arith}
use lib.ListN.{length, set}
use lib.Seq.{get_or-set_same, get_or-set_other, set_out}
use lib.Dec.{leb, eqb}
use borrow.Author.Tests.{eq-eqb, ne_eqb, eqb-true, eqb-false, leb-true, leb-false, le-leb}
use Rattle.links.specs.Lists.{at, unassigned, filter}
use Rattle.links.specs.Graph.{load}
use Rattle.links.proofs.ListLaws.{split, and_l, and_r, and_i, filter-append}
use Rattle.stages.specs.Growth.{pop, unowned}
use Rattle.stages.specs.FrontierCode.{opens}

abbrev pub first : List ℕ → Option ℕ
first [] = none
first (x ∷ xs) = some x

abbrev pub rest : List ℕ → List ℕ
rest [] = []
rest (x ∷ xs) = xs

module _ (p : ℕ → Bool) where
  -- a test that asks more sees only what the other one let through
  pub filter-sub : (q : ℕ → Bool) → ((x : ℕ) → p x ≡ true → q x ≡ true) → (xs : List ℕ) → filter p (filter q xs) ≡ filter p xs
  filter-sub q h [] = refl
  filter-sub q h (x ∷ xs) = split (q x)
      (λ e. split (p x) (λ d. simp (e, d, filter-sub q h xs)) (λ d. simp (e, d, filter-sub q h xs)))
      (λ e. split (p x) (λ d. absurd (true≢false (sym (h x d) ∙ e))) (λ d. simp (e, d, filter-sub q h xs)))

  pub same-sub : (q : ℕ → Bool) → ((x : ℕ) → p x ≡ true → q x ≡ true) → (xs ys : List ℕ) → filter q xs ≡ filter q ys → filter p xs ≡ filter p ys
  same-sub q h xs ys e = sym (filter-sub q h xs) ∙ ap (filter p) e ∙ filter-sub q h ys

module _ (free fit : ℕ → Bool) where
  abbrev ok : ℕ → Bool
  ok g = free g && fit g

  pub pop-claim : (gs over : List ℕ) → (pop free fit gs over).claim ≡ first (filter (λ g. free g && fit g) gs)
  unfolding pop
  pop-claim [] over = refl
  pop-claim (g ∷ gs) over = split (free g)
      (λ a. split (fit g) (λ b. simp (a, b)) (λ b. simp (a, b, pop-claim gs (over ++ (g ∷ [])))))
      (λ a. simp (a, pop-claim gs over))

  pub pop-rest
      : (gs over : List ℕ)
      → filter (λ g. free g && fit g) over ≡ []
      → filter (λ g. free g && fit g) (pop free fit gs over).frontier ≡ rest (filter (λ g. free g && fit g) gs)
  unfolding pop
  pop-rest [] over z = z
  pop-rest (g ∷ gs) over z = split (free g)
      (λ a. split (fit g)
      (λ b. simp (a, b) (filter-append ok gs over ∙ rw z (append-nil (filter ok gs))))
      (λ b. let w : filter ok (over ++ (g ∷ [])) ≡ [] = filter-append ok over (g ∷ []) ∙ simp (z, a, b) in simp (a, b) (pop-rest gs (over ++ (g ∷ [])) w)))
      (λ a. simp a (pop-rest gs over z))

-- ---- loads

-- they only grow
load-more : (ws os : List ℕ) (g r d : ℕ) → at os g ≡ unassigned → d ≢ unassigned → load ws os d ≤ load ws (set os g r) d
unfolding load
load-more [] os g r d e h = omega arith
load-more (w ∷ ws) [] g r d e h = omega arith
load-more (w ∷ ws) (o ∷ os) zero r d e h = rw (ne_eqb o d (λ q. h (sym q ∙ e))) (omega arith)
load-more (w ∷ ws) (o ∷ os) (suc g) r d e h = omega (arith, load-more ws os g r d e h)

-- the load of the rank that claims, and those of the others
pub load-claim : (ws os : List ℕ) (g r : ℕ) → at os g ≡ unassigned → r ≢ unassigned → g < length os → load ws (set os g r) r ≡ load ws os r + at ws g
unfolding load
load-claim [] os g r e h l = omega arith
load-claim (w ∷ ws) [] g r e h l = absurd (omega arith)
load-claim (w ∷ ws) (o ∷ os) zero r e h l = rw (ne_eqb o r (λ q. h (sym q ∙ e)), eq-eqb r r refl) (omega arith)
load-claim (w ∷ ws) (o ∷ os) (suc g) r e h l = omega (arith, load-claim ws os g r e h (omega arith))

pub load-other : (ws os : List ℕ) (g r d : ℕ) → at os g ≡ unassigned → d ≢ unassigned → (d ≡ r → ⊥) → load ws (set os g r) d ≡ load ws os d
unfolding load
load-other [] os g r d e h o' = refl
load-other (w ∷ ws) [] g r d e h o' = refl
load-other (w ∷ ws) (o ∷ os) zero r d e h o' = rw (ne_eqb o d (λ q. h (sym q ∙ e)), ne_eqb r d (λ q. o' (sym q)))
load-other (w ∷ ws) (o ∷ os) (suc g) r d e h o' = rw (load-other ws os g r d e h o')

-- ---- what is open

-- what was owned stays so
unowned-before : (os : List ℕ) (g r x : ℕ) → r ≢ unassigned → unowned (set os g r) x ≡ true → unowned os x ≡ true
unowned-before os g r x h e = split (eqb x g)
    (λ p. let q : x ≡ g = eqb-true x g p in
    split (leb (suc g) (length os))
    (λ b. absurd (h (sym (get_or-set_same os g r 0 (leb-true (suc g) (length os) b)) ∙ eqb-true _ unassigned (rw q at e))))
    (λ b. rw (set_out os g r (omega (arith, leb-false (suc g) (length os) b))) at e))
    (λ p. rw (get_or-set_other os g x r 0 (eqb-false x g p)) at e)

module _ (cap : ℕ) (ws os : List ℕ) (g r d : ℕ) (e : at os g ≡ unassigned) (hr : r ≢ unassigned) (hd : d ≢ unassigned) where
  -- a group that is open to rank d after a claim was so before
  pub opens_before : (x : ℕ) → opens cap ws (set os g r) (load ws (set os g r) d) x ≡ true → opens cap ws os (load ws os d) x ≡ true
  unfolding opens
  opens_before x t =
      let free : Bool = unowned (set os g r) x in
      let fit : Bool = leb (load ws (set os g r) d + at ws x) cap in
      let b = leb-true (load ws (set os g r) d + at ws x) cap (and_r free fit t) in
      and_i (unowned os x) (leb (load ws os d + at ws x) cap)
      (unowned-before os g r x hr (and_l free fit t))
      (le-leb (load ws os d + at ws x) cap (omega (arith, load-more ws os g r d e hd)))

-- what is open is unowned, and fits
pub open-facts : (cap : ℕ) (ws os : List ℕ) (ld g : ℕ) → opens cap ws os ld g ≡ true → (at os g ≡ unassigned) × (ld + at ws g ≤ cap)
unfolding opens
open-facts cap ws os ld g e = (
  eqb-true (at os g) unassigned (and_l (unowned os g) (leb (ld + at ws g) cap) e),
  leb-true (ld + at ws g) cap (and_r (unowned os g) (leb (ld + at ws g) cap) e),
)
