-- Levels that make no move: where the cap is 2 at most, a level that a coarsening step made, and one whose owners were taken over from its groups.
-- Assumes nothing.
use Prim.Native.Nat.{ℕ, zero, suc, ◌+◌, ◌≤◌, ◌<◌}
use mathlib.Core.Path.{◌≡◌, refl, sym, ◌∙◌}
use mathlib.Core.Logic.{◌≢◌, ⊎_elim}
use mathlib.Core.Bool.{Bool, true, false, not, false≢true}
use mathlib.Core.List.{List, [], ◌∷◌}
use mathlib.Core.Option.{Option, none, some}
use native.Mathlib.Omega.{arith}
use lib.ListN.{length}
use lib.Dec.{ltb, eqb}
use borrow.Author.Tests.{eq-eqb, eqb-true, ltb-true}
use Rattle.links.specs.Lists.{at, unassigned, any, all, elem, All}
use Rattle.links.specs.Loads.{Balance}
use Rattle.links.specs.Graph.{row, vertices, strictly_rising, Sound, links_in, links_to, load}
use Rattle.stages.specs.Coarsen.{coarsen_once}
use Rattle.stages.specs.Moves.{gain, repeat, destination, move_pass, refine_by_cut}
use Rattle.links.proofs.ListLaws.{split, count, count-is, any-counts, none-counts, any_of, to-any, all_of, all_in, all-range}
use Rattle.stages.proofs.StepLaws.{target-some, destination-of}
use Rattle.stages.proofs.LoadSetLaws.{load-holds}
use Rattle.multilevel.proofs.PairedLaws.{load-two, Weighty, weight-some, neighbors-load, step-paired, Heavy}

-- ---- no destination, no move

module _ (b : Balance) (rows : List (List ℕ)) (ws : List ℕ) where
  pass-none : (vs o : List ℕ) → All (λ v. destination b rows ws o v ≡ none) vs → move_pass b rows ws vs o ≡ []
  unfolding move_pass
  pass-none [] o a = refl
  pass-none (v ∷ vs) o a = rw a.0 (pass-none vs o a.1)

  pub moves-none
      : (passes : ℕ) (o : List ℕ)
      → ((v : ℕ) → v < length rows → destination b rows ws o v ≡ none)
      → (refine_by_cut b rows ws passes o).steps ≡ []
  unfolding refine_by_cut repeat
  moves-none zero o stay = refl
  moves-none (suc f) o stay =
      let All-stay = all-range (λ v. destination b rows ws o v ≡ none) 0 (length rows) (λ v h k. stay v (omega arith)) in
      rw (pass-none (vertices rows) o All-stay)

-- ---- who tempts a vertex

-- some of a list pass a test
some_of : (p : ℕ → Bool) (xs : List ℕ) → 1 ≤ count p xs → (u : ℕ) × (elem u xs ≡ true) × (p u ≡ true)
some_of p xs h = any_of p xs (go (any p xs) (none-counts p xs))
  where
    go : (x : Bool) → eqb (count p xs) 0 ≡ not x → x ≡ true
    go true e = refl
    go false e = absurd (omega (arith, eqb-true (count p xs) 0 e))

-- two of a rising list do
two-of
    : (p : ℕ → Bool) (xs : List ℕ)
    → strictly_rising xs ≡ true
    → 2 ≤ count p xs
    → (u : ℕ) × (w : ℕ) × (u ≢ w) × (elem u xs ≡ true) × (elem w xs ≡ true) × (p u ≡ true) × (p w ≡ true)
two-of p [] r h = absurd (omega arith)
two-of p (x ∷ xs) r h = split (all (ltb x) xs)
    (λ q.
    let more : (u : ℕ) → elem u xs ≡ true → elem u (x ∷ xs) ≡ true = λ u e. split (eqb u x) (λ z. rw z) (λ z. rw z e) in
    split (p x)
    (λ e.
    let w = some_of p xs (omega (arith, count-is p x xs true e)) in
    let above : x < w.0 = all_in (λ u. x < u) xs w.0 (all_of (λ u. x < u) (ltb x) (λ u k. ltb-true x u k) xs q) w.1 in
    (x, w.0, (λ z. omega arith), rw (eq-eqb x x refl), more w.0 w.1, e, w.2))
    (λ e.
    let t = two-of p xs (rw q at r) (omega (arith, count-is p x xs false e)) in
    (t.0, t.1, t.2, more t.0 t.3, more t.1 t.4, t.5, t.6)))
    (λ q. absurd (false≢true (rw q at r)))

module _
    (b : Balance) (narrow : b.cap ≤ 2) (rows : List (List ℕ)) (s : Sound rows) (ws : List ℕ)
    (weighed : length ws ≡ length rows) (some-weight : Weighty ws) (o : List ℕ) (sized : length o ≡ length rows) where
  inside : (v u : ℕ) → v < length rows → elem u (row rows v) ≡ true → u < length rows
  inside v u h l = all_in (λ x. x < length rows) (row rows v) u (s.below v h) l

  -- a vertex has no destination where no rank has both room for it and more of its neighbors than its own
  nowhere
      : (v : ℕ)
      → ((r u : ℕ)
      → elem u (row rows v) ≡ true
      → at o u ≡ r
      → links_to rows o v (at o v) < links_to rows o v r
      → load ws o r + at ws v ≤ 2
      → ⊥)
      → destination b rows ws o v ≡ none
  unfolding gain links_in
  nowhere v never = go (destination b rows ws o v) refl
    where
      go : (d : Option ℕ) → destination b rows ws o v ≡ d → d ≡ none
      go none e = refl
      go (some r) e =
          let t = target-some b rows ws o v r (destination-of b rows ws o v r e).1 in
          let u = some_of (λ u. eqb (at o u) r) (row rows v) (omega (arith, t.0)) in
          absurd (never r u.0 u.1 (eqb-true (at o u.0) r u.2) (omega (arith, t.0)) (omega (arith, t.1)))

  -- where two linked vertices weigh 3 at least, no vertex has room where a neighbor is
  pub heavy-stays : Heavy rows ws → (v : ℕ) → v < length rows → destination b rows ws o v ≡ none
  heavy-stays heavy v h = nowhere v (λ r u l e gains room.
      let un = inside v u h l in
      let held : at ws u ≤ load ws o r = rw e at (load-holds ws o u (omega arith)) in
      omega (arith, heavy v u h l))

  -- where the owners are those of the groups of a step, a rank with room for v owns one vertex, which is not paired: so v is, and no rank gains by it
  pub taken-stays
      : length rows < unassigned
      → ((v u : ℕ) → v < length rows → u < length rows → (let group = (coarsen_once rows ws).group in at group v ≡ at group u) → at o v ≡ at o u)
      → (v : ℕ)
      → v < length rows
      → destination b rows ws o v ≡ none
  unfolding links_in
  taken-stays small same v h = nowhere v (λ r u l e gains room.
      let light : load ws o r ≤ 1 = omega (arith, weight-some rows s ws weighed some-weight v h) in
      let un = inside v u h l in
      ⊎_elim
      (λ p.
      let home = same p.mate v (inside v p.mate h p.linked) h p.together in
      let t = two-of (λ x. eqb (at o x) r) (row rows v) (s.rises v h) (omega (arith, at_home v p.mate p.linked home)) in
      let x = t.0 in
      let y = t.1 in
      let xn = inside v x h t.3 in
      let yn = inside v y h t.4 in
      let rx = eqb-true (at o x) r t.5 in
      let ry = eqb-true (at o y) r t.6 in
      let two = load-two ws o x y t.2 (omega arith) (omega arith) (omega arith) (ry ∙ sym rx) in
      omega (arith, rw rx at two, weight-some rows s ws weighed some-weight x xn, weight-some rows s ws weighed some-weight y yn))
      (λ p.
      let there = same p.mate u (inside u p.mate un p.linked) un p.together in
      omega (arith, rw e at (neighbors-load rows s ws weighed some-weight o u p.mate sized un p.linked there)))
      (step-paired rows s ws small weighed v u h l))
    where
      at_home : (v w : ℕ) → elem w (row rows v) ≡ true → at o w ≡ at o v → 1 ≤ count (λ x. eqb (at o x) (at o v)) (row rows v)
      at_home v w l e =
          let p : ℕ → Bool = λ x. eqb (at o x) (at o v) in
          any-counts p (row rows v) (to-any p (row rows v) w l (eq-eqb (at o w) (at o v) e))
