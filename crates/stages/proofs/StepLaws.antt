-- Steps made one after the other: what holds at each of them, what passes of moves and of swaps make, and that they are no more than the cut links.
-- Assumes nothing.
use Prim.Native.Nat.{ℕ, zero, suc, ◌+◌, ◌-◌, ◌≤◌, ◌<◌}
use mathlib.Core.Path.{◌≡◌, refl, sym, ◌∙◌}
use mathlib.Core.Bool.{Bool, true, false, not, ◌&&◌, true≢false, false≢true}
use mathlib.Core.List.{List, [], ◌∷◌, ◌++◌, map, head-eq_of_cons-eq, nil≢cons, tail-eq_of_cons-eq}
use mathlib.Core.Option.{Option, none, some}
use native.Mathlib.Omega.{arith}
use lib.ListN.{length, set, length-set}
use lib.Dec.{leb, ltb, eqb}
use borrow.Author.Tests.{ltb-true, ltb-false, le-leb, leb-true}
use Rattle.links.specs.Lists.{at, filter, foldl, sort_by, range, elem, empty, option, concat_map, All}
use Rattle.links.specs.Loads.{Balance}
use Rattle.links.specs.Graph.{vertices, Sound, links_to, load, links_cut}
use Rattle.stages.specs.Moves.{Step, move, swap, after, gain, repeat, may_leave, may_join, preferred, target, destination, move_pass, refine_by_cut}
use Rattle.stages.specs.Swaps.{Candidate, ahead, candidates, Proposal, sooner, propose, proposals, all_proposals, in_balance, keeps_balance, applies, swap_pass, refine_fine_pair_swaps}
use Rattle.links.proofs.ListLaws.{split, and_l, and_r, all_filter, all_take, all-sort, all-to, to-all, all_map, all-concat, all-range, all_in, elem-range, filter_none, best_none, best-kept}
use Rattle.stages.proofs.CutLaws.{move-cut, InRange, step_cut}

-- ---- a fact at each step of a run, from the state that the steps before left

module _ {S X : Type 0} (P : S → X → Type 0) (f : S → X → S) where
  -- P at each step x, with the state that it meets
  abbrev pub Along : S → List X → Type 0
  Along s [] = Unit {0}
  Along s (x ∷ xs) = P s x × Along (f s x) xs

  -- at a step, with the steps before it
  pub along-at : (before later xs : List X) (s : S) (x : X) → Along s xs → xs ≡ before ++ x ∷ later → P (foldl f s before) x
  along-at [] later [] s x a e = absurd (nil≢cons e)
  along-at [] later (y ∷ ys) s x a e = rw (head-eq_of_cons-eq e) at a.0
  along-at (b ∷ before) later [] s x a e = absurd (nil≢cons e)
  along-at (b ∷ before) later (y ∷ ys) s x a e =
      rw (head-eq_of_cons-eq e) at (along-at before later ys (f s y) x a.1 (tail-eq_of_cons-eq e))

  -- of steps one after the other, of the first of them and of the last
  pub along-append : (xs ys : List X) (s : S) → Along s xs → Along (foldl f s xs) ys → Along s (xs ++ ys)
  along-append [] ys s a b = b
  along-append (x ∷ xs) ys s a b = (a.0, along-append xs ys (f s x) a.1 b)

  pub along-prefix : (xs ys : List X) (s : S) → Along s (xs ++ ys) → Along s xs
  along-prefix [] ys s a = tt
  along-prefix (x ∷ xs) ys s a = (a.0, along-prefix xs ys (f s x) a.1)

  pub along-suffix : (xs ys : List X) (s : S) → Along s (xs ++ ys) → Along (foldl f s xs) ys
  along-suffix [] ys s a = a
  along-suffix (x ∷ xs) ys s a = along-suffix xs ys (f s x) a.1

-- a weaker fact at each step
pub along-to
    : {S X : Type 0} (P Q : S → X → Type 0) (f : S → X → S)
    → ((s : S) (x : X) → P s x → Q s x)
    → (xs : List X) (s : S)
    → Along P f s xs
    → Along Q f s xs
along-to P Q f g [] s a = tt
along-to P Q f g (x ∷ xs) s a = (g s x a.0, along-to P Q f g xs (f s x) a.1)

-- steps one after the other
pub foldl-append : {S X : Type 0} (f : S → X → S) (xs ys : List X) (s : S) → foldl f s (xs ++ ys) ≡ foldl f (foldl f s xs) ys
foldl-append f [] ys s = refl
foldl-append f (x ∷ xs) ys s = foldl-append f xs ys (f s x)

-- ---- steps

-- a step leaves an owner for each vertex
pub length-after : (own : List ℕ) (s : Step) → length (after own s) ≡ length own
unfolding after
length-after own (move v r) = length-set own v r
length-after own (swap u v) = length-set (set own u (at own v)) v (at own u) ∙ length-set own u (at own v)

pub length-steps : (ss : List Step) (own : List ℕ) → length (foldl after own ss) ≡ length own
length-steps [] own = refl
length-steps (s ∷ ss) own = length-steps ss (after own s) ∙ length-after own s

-- a step of vertices, with a gain
abbrev pub Gainful : List (List ℕ) → List ℕ → Step → Type 0
Gainful rows own s = InRange (length rows) s × (1 ≤ gain rows own s)

-- a swap of vertices, with a gain, that leaves both loads within the cap
abbrev pub Swapped : ℕ → List (List ℕ) → List ℕ → List ℕ → Step → Type 0
Swapped cap rows weights own (move v r) = ⊥
Swapped cap rows weights own (swap u v) =
    (u < length rows) × (v < length rows) × (1 ≤ gain rows own (swap u v))
    × (load weights (after own (swap u v)) (at own u) ≤ cap) × (load weights (after own (swap u v)) (at own v) ≤ cap)

-- a move of a vertex, with a gain, to a rank that has room for it
abbrev pub Moved : ℕ → List (List ℕ) → List ℕ → List ℕ → Step → Type 0
Moved cap rows weights own (move v r) = (v < length rows) × (1 ≤ gain rows own (move v r)) × (load weights own r + at weights v ≤ cap)
Moved cap rows weights own (swap u v) = ⊥

-- a swap, and a move, is a step with a gain
pub swapped-gainful : (cap : ℕ) (rows : List (List ℕ)) (weights own : List ℕ) (s : Step) → Swapped cap rows weights own s → Gainful rows own s
swapped-gainful cap rows weights own (move v r) a = absurd a
swapped-gainful cap rows weights own (swap u v) a = ((a.0, a.1), a.2)

pub moved-gainful : (cap : ℕ) (rows : List (List ℕ)) (weights own : List ℕ) (s : Step) → Moved cap rows weights own s → Gainful rows own s
moved-gainful cap rows weights own (move v r) a = (a.0, a.1)
moved-gainful cap rows weights own (swap u v) a = absurd a

-- the cut links fall by one at least with each such step: there are no more steps than cut links
pub steps-cut
    : (rows : List (List ℕ))
    → Sound rows
    → (ss : List Step) (own : List ℕ)
    → length own ≡ length rows
    → Along (Gainful rows) after own ss
    → length ss + links_cut rows (foldl after own ss) ≤ links_cut rows own
steps-cut rows so [] own n a = omega arith
steps-cut rows so (s ∷ ss) own n a =
    omega (arith, a.0.1, step_cut rows so own s n a.0.0 a.0.1, steps-cut rows so ss (after own s) (length-after own s ∙ n) a.1)

-- ---- passes

empty-nil : (ss : List Step) → empty ss ≡ true → ss ≡ []
empty-nil [] e = refl
empty-nil (s ∷ ss) e = absurd (false≢true e)

module _ (pass : List ℕ → List Step) where
  -- what holds along each pass holds along all
  pub repeat-along
      : (P : List ℕ → Step → Type 0)
      → ((o : List ℕ) → Along P after o (pass o))
      → (f : ℕ) (o : List ℕ)
      → Along P after o (repeat f pass o).steps
  unfolding repeat
  repeat-along P each zero o = tt
  repeat-along P each (suc f) o = split (empty (pass o))
      (λ p. rw p tt)
      (λ p. rw p (along-append P after (pass o) _ o (each o) (repeat-along P each f (foldl after o (pass o)))))

  -- settled: one more pass makes no step
  pub repeat-settled : (f : ℕ) (o : List ℕ) → (repeat f pass o).settled ≡ true → pass (foldl after o (repeat f pass o).steps) ≡ []
  unfolding repeat
  repeat-settled zero o e = absurd (false≢true e)
  repeat-settled (suc f) o e = split (empty (pass o))
      (λ p. rw p (empty-nil (pass o) p))
      (λ p.
      let o' = foldl after o (pass o) in
      rw (p, foldl-append after (pass o) (repeat f pass o').steps o) (repeat-settled f o' (rw p at e)))

-- ---- rule 6

all-vertices : (rows : List (List ℕ)) → All (λ v. v < length rows) (vertices rows)
all-vertices rows = all-range (λ v. v < length rows) 0 (length rows) (λ x h k. omega arith)

module _ (b : Balance) (rows : List (List ℕ)) (weights : List ℕ) where
  -- a target gains and has room
  pub target-some
      : (own : List ℕ) (v r : ℕ)
      → target b rows weights own v ≡ some r
      → (1 ≤ gain rows own (move v r)) × (load weights own r + at weights v ≤ b.cap)
  unfolding target may_join
  target-some own v r e =
      let gains = ltb 0 (gain rows own (move v r)) in
      let joins = may_join b rows weights own v r in
      let test : ℕ → Bool = λ r. ltb 0 (gain rows own (move v r)) && may_join b rows weights own v r in
      let k : gains && joins ≡ true = best-kept (preferred b rows weights own v) test (range 0 b.ranks) r e in
      (ltb-true 0 (gain rows own (move v r)) (and_l gains joins k), leb-true (load weights own r + at weights v) b.cap (and_r gains joins k))

  -- where there is no target, no rank with room gains
  pub target_none
      : (own : List ℕ) (v : ℕ)
      → target b rows weights own v ≡ none
      → (r : ℕ)
      → r < b.ranks
      → load weights own r + at weights v ≤ b.cap
      → gain rows own (move v r) ≡ 0
  unfolding target may_join
  target_none own v e r h joins =
      let test : ℕ → Bool = λ r. ltb 0 (gain rows own (move v r)) && may_join b rows weights own v r in
      let kept : filter test (range 0 b.ranks) ≡ [] = best_none (preferred b rows weights own v) (filter test (range 0 b.ranks)) e in
      let f : test r ≡ false = filter_none test 0 b.ranks kept r (omega arith) (omega arith) in
      let j : may_join b rows weights own v r ≡ true = le-leb _ _ joins in
      split (ltb 0 (gain rows own (move v r)))
      (λ p. absurd (true≢false (rw (p, j) at f)))
      (λ p. let z = ltb-false 0 (gain rows own (move v r)) p in omega arith)

  -- a vertex that moves may leave, and goes to its target
  pub destination-of
      : (own : List ℕ) (v r : ℕ)
      → destination b rows weights own v ≡ some r
      → (b.floor + at weights v ≤ load weights own (at own v)) × (target b rows weights own v ≡ some r)
  unfolding destination may_leave
  destination-of own v r e = split (may_leave b rows weights own v)
      (λ p. (leb-true (b.floor + at weights v) (load weights own (at own v)) p, rw p at e))
      (λ p. let z : ◌≡◌ {A = Option ℕ} none (some r) = rw p at e in let y : ◌≡◌ {A = ℕ} 0 1 = cc in absurd (omega arith))

  module _
      (P : List ℕ → Step → Type 0)
      (each : (own : List ℕ) (v r : ℕ) → v < length rows → destination b rows weights own v ≡ some r → P own (move v r)) where
    pass-along : (vs : List ℕ) → All (λ v. v < length rows) vs → (own : List ℕ) → Along P after own (move_pass b rows weights vs own)
    unfolding move_pass after
    pass-along [] a own = tt
    pass-along (v ∷ vs) a own = go (destination b rows weights own v) refl (pass-along vs a.1 own) (λ r. pass-along vs a.1 (set own v r))
      where
        rest : List ℕ → List Step
        rest o = move_pass b rows weights vs o

        go
            : (d : Option ℕ)
            → destination b rows weights own v ≡ d
            → Along P after own (rest own)
            → ((r : ℕ) → Along P after (set own v r) (rest (set own v r)))
            → Along P after own (option d (rest own) (λ r. move v r ∷ rest (set own v r)))
        go none e stays moves = stays
        go (some r) e stays moves = (each own v r a.0 e, moves r)

    -- what holds of a vertex's move to its destination holds of every move of a refinement
    pub moves-along : (passes : ℕ) (own : List ℕ) → Along P after own (refine_by_cut b rows weights passes own).steps
    unfolding refine_by_cut
    moves-along passes own =
        let vs = vertices rows in
        repeat-along (move_pass b rows weights vs) P (λ o. pass-along vs (all-vertices rows) o) passes own

  -- every move of a refinement gains and has room
  pub moves-made : (passes : ℕ) (own : List ℕ) → Along (Moved b.cap rows weights) after own (refine_by_cut b rows weights passes own).steps
  moves-made passes own =
      moves-along (Moved b.cap rows weights) (λ o v r h e. let t = target-some o v r (destination-of o v r e).1 in (h, t.0, t.1)) passes own

  -- a refinement makes no more moves than there are cut links
  pub moves-few
      : Sound rows
      → (passes : ℕ) (own : List ℕ)
      → length own ≡ length rows
      → length (refine_by_cut b rows weights passes own).steps ≤ links_cut rows own
  moves-few s passes own n =
      let ss = (refine_by_cut b rows weights passes own).steps in
      let made = moves-made passes own in
      let gainful = along-to (Moved b.cap rows weights) (Gainful rows) after (moved-gainful b.cap rows weights) ss own made in
      omega (arith, steps-cut rows s ss own n gainful)

  -- a pass without a move: no vertex had a destination
  pub pass-quiet : (vs : List ℕ) (own : List ℕ) → move_pass b rows weights vs own ≡ [] → All (λ v. destination b rows weights own v ≡ none) vs
  unfolding move_pass
  pass-quiet [] own e = tt
  pass-quiet (v ∷ vs) own e = go (destination b rows weights own v) refl e (pass-quiet vs own)
    where
      rest : List ℕ → List Step
      rest o = move_pass b rows weights vs o

      go
          : (d : Option ℕ)
          → destination b rows weights own v ≡ d
          → option d (rest own) (λ r. move v r ∷ rest (set own v r)) ≡ []
          → (rest own ≡ [] → All (λ v. destination b rows weights own v ≡ none) vs)
          → (destination b rows weights own v ≡ none) × All (λ v. destination b rows weights own v ≡ none) vs
      go none e f rec = (e, rec f)
      go (some r) e f rec = absurd (nil≢cons (sym f))

  -- moves that settled: one more pass makes none
  pub moves-settled
      : (passes : ℕ) (own : List ℕ)
      → (refine_by_cut b rows weights passes own).settled ≡ true
      → move_pass b rows weights (vertices rows) (foldl after own (refine_by_cut b rows weights passes own).steps) ≡ []
  unfolding refine_by_cut
  moves-settled passes own e = repeat-settled (move_pass b rows weights (vertices rows)) passes own e

  -- after a pass without a move no permitted move lowers the cut
  pub stays-best
      : Sound rows
      → (own : List ℕ)
      → length own ≡ length rows
      → move_pass b rows weights (vertices rows) own ≡ []
      → (v r : ℕ)
      → v < length rows
      → r < b.ranks
      → b.floor + at weights v ≤ load weights own (at own v)
      → load weights own r + at weights v ≤ b.cap
      → links_cut rows own ≤ links_cut rows (after own (move v r))
  unfolding after destination may_leave gain
  stays-best s own n q v r h k leaves joins =
      let vs = vertices rows in
      let in-range = elem-range v 0 (length rows) (omega arith) (omega arith) in
      let stays : destination b rows weights own v ≡ none =
      all_in (λ v. destination b rows weights own v ≡ none) vs v (pass-quiet vs own q) in-range in
      let l : may_leave b rows weights own v ≡ true = le-leb _ _ leaves in
      omega (arith, target_none own v (rw l at stays) r k joins, move-cut rows s own v r h (rw n h))

-- ---- rule 7

-- a candidate, and a proposal, of vertices
abbrev Seated : List (List ℕ) → Candidate → Type 0
Seated rows c = c.vertex < length rows

abbrev Ranged : List (List ℕ) → Proposal → Type 0
Ranged rows p = (p.first < length rows) × (p.second < length rows)

module _ (list_length : ℕ) (rows : List (List ℕ)) where
  candidates-seated : (own : List ℕ) (x y : ℕ) → All (Seated rows) (candidates list_length rows own x y)
  unfolding candidates
  candidates-seated own x y =
      let test : ℕ → Bool = λ v. eqb (at own v) x && ltb 0 (links_to rows own v y) in
      let make : ℕ → Candidate = λ v. record { there = links_to rows own v y; home = links_to rows own v x; vertex = v } in
      let vs = filter test (vertices rows) in
      all_take (Seated rows) list_length (sort_by ahead (map make vs))
      (all-sort (Seated rows) ahead (map make vs)
      (all_map (Seated rows) make vs (all_filter (λ v. v < length rows) test (vertices rows) (all-vertices rows))))

  proposals-ranged : (own : List ℕ) (x y : ℕ) → All (Ranged rows) (proposals list_length rows own x y)
  unfolding proposals propose
  proposals-ranged own x y =
      let xs = candidates list_length rows own x y in
      let ys = candidates list_length rows own y x in
      let test : Proposal → Bool = λ p. ltb 0 p.net in
      let make : Candidate → List Proposal = λ c. map (propose rows c) ys in
      let one : (c : Candidate) → Seated rows c → All (Ranged rows) (make c) =
      λ c h.
      all_map (Ranged rows) (propose rows c) ys
      (all-to (Seated rows) (λ d. Ranged rows (propose rows c d)) (λ d k. (h, k)) ys (candidates-seated own y x)) in
      all-sort (Ranged rows) sooner (filter test (concat_map make xs))
      (all_filter (Ranged rows) test (concat_map make xs)
      (all-concat (Ranged rows) make xs
      (all-to (Seated rows) (λ c. All (Ranged rows) (make c)) one xs (candidates-seated own x y))))

  all-ranged : (k : ℕ) (own : List ℕ) → All (Ranged rows) (all_proposals list_length rows k own)
  unfolding all_proposals
  all-ranged k own =
      let others : ℕ → List ℕ = λ a. range (suc a) (k - suc a) in
      let of : ℕ → List Proposal = λ a. concat_map (proposals list_length rows own a) (others a) in
      let one : (a : ℕ) → All (Ranged rows) (of a) =
      λ a. all-concat (Ranged rows) (proposals list_length rows own a) (others a) (to-all _ (λ c. proposals-ranged own a c) (others a)) in
      all-concat (Ranged rows) of (range 0 k) (to-all _ one (range 0 k))

module _ (b : Balance) (rows : List (List ℕ)) (weights : List ℕ) where
  -- a swap that applies gains
  pub applies-gain : (used own : List ℕ) (u v : ℕ) → applies b rows weights used own u v ≡ true → 1 ≤ gain rows own (swap u v)
  unfolding applies
  applies-gain used own u v e =
      let a = not (elem u used) && not (elem v used) in
      let g = ltb 0 (gain rows own (swap u v)) in
      let x = keeps_balance b rows weights own (swap u v) (at own u) in
      let y = keeps_balance b rows weights own (swap u v) (at own v) in
      ltb-true 0 (gain rows own (swap u v)) (and_r a g (and_l (a && g) x (and_l (a && g && x) y e)))

  kept-cap : (own : List ℕ) (s : Step) (r : ℕ) → keeps_balance b rows weights own s r ≡ true → load weights (after own s) r ≤ b.cap
  unfolding keeps_balance in_balance
  kept-cap own s r e =
      let o = after own s in
      let reaches = leb b.floor (load weights o r) in
      let within = leb (load weights o r) b.cap in
      leb-true _ _ (and_r reaches within (and_r (in_balance b rows weights own r) (reaches && within) e))

  -- and leaves both loads within the cap
  applies-within
      : (used own : List ℕ) (u v : ℕ)
      → applies b rows weights used own u v ≡ true
      → (load weights (after own (swap u v)) (at own u) ≤ b.cap) × (load weights (after own (swap u v)) (at own v) ≤ b.cap)
  unfolding applies
  applies-within used own u v e =
      let tests = not (elem u used) && not (elem v used) && ltb 0 (gain rows own (swap u v)) in
      let first = keeps_balance b rows weights own (swap u v) (at own u) in
      let second = keeps_balance b rows weights own (swap u v) (at own v) in (
        kept-cap own (swap u v) (at own u) (and_r tests first (and_l (tests && first) second e)),
        kept-cap own (swap u v) (at own v) (and_r (tests && first) second e),
      )

  pass-swapped
      : (ps : List Proposal)
      → All (Ranged rows) ps
      → (used own : List ℕ)
      → Along (Swapped b.cap rows weights) after own (swap_pass b rows weights ps used own)
  unfolding swap_pass
  pass-swapped [] a used own = tt
  pass-swapped (p ∷ ps) a used own =
      let u = p.first in
      let v = p.second in
      split (applies b rows weights used own u v)
      (λ e.
      let w = applies-within used own u v e in
      rw e ((a.0.0, a.0.1, applies-gain used own u v e, w.0, w.1), pass-swapped ps a.1 (u ∷ v ∷ used) (after own (swap u v))))
      (λ e. rw e (pass-swapped ps a.1 used own))

  -- every swap of a refinement
  pub swaps-made
      : (list_length passes : ℕ) (own : List ℕ)
      → Along (Swapped b.cap rows weights) after own (refine_fine_pair_swaps b rows weights list_length passes own).steps
  unfolding refine_fine_pair_swaps
  swaps-made list_length passes own =
      let proposed : List ℕ → List Proposal = λ o. all_proposals list_length rows b.ranks o in
      repeat-along (λ o. swap_pass b rows weights (proposed o) [] o) (Swapped b.cap rows weights)
      (λ o. pass-swapped (proposed o) (all-ranged list_length rows b.ranks o) [] o) passes own

  -- a refinement makes no more swaps than there are cut links
  pub swaps-few
      : Sound rows
      → (list_length passes : ℕ) (own : List ℕ)
      → length own ≡ length rows
      → length (refine_fine_pair_swaps b rows weights list_length passes own).steps ≤ links_cut rows own
  swaps-few s list_length passes own n =
      let ss = (refine_fine_pair_swaps b rows weights list_length passes own).steps in
      let made = swaps-made list_length passes own in
      let gainful = along-to (Swapped b.cap rows weights) (Gainful rows) after (swapped-gainful b.cap rows weights) ss own made in
      omega (arith, steps-cut rows s ss own n gainful)
