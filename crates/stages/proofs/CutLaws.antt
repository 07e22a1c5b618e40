-- What a move and a swap do to the cut links of sound rows, and how many cut links there can be. Assumes nothing.
use Prim.Native.Nat.{ℕ, zero, suc, ◌+◌, ◌-◌, ◌≤◌, ◌<◌}
use mathlib.Core.Path.{◌≡◌, refl, sym, ap, ◌∙◌}
use mathlib.Core.Logic.{◌≢◌}
use mathlib.Core.Bool.{Bool, true, false, not, ◌&&◌, ◌||◌, cond}
use mathlib.Core.List.{List, [], ◌∷◌, map}
use native.Mathlib.Omega.{arith}
use lib.ListN.{length, get_or, set, length-map, length-set}
use lib.Seq.{get_or-set_other, get_or-set_same}
use lib.Dec.{ltb, eqb}
use borrow.Author.Tests.{eq-eqb, ne_eqb, eqb-true, eqb-false, le-ltb, ltb-true}
use Rattle.links.specs.Lists.{at, filter, sum, All}
use Rattle.links.specs.Graph.{row, vertices, degree, vertex_count, rows_of, Sound, SoundLists, links_in, links_to, links, is_cut, links_cut}
use Rattle.stages.specs.Moves.{Step, move, swap, after, linked, gain}
use Rattle.links.proofs.ListLaws.{split, eqb-sym, cond-zero, and-false, tally, count, count-cons, count-is, count-length, all-kept, to-all, all_map, all-concat, total, total_ext, total-add, total-le, total-point, count_kept, count-concat, counted, or-false}
use Rattle.links.proofs.SoundLaws.{occurs, same-links}
use Rattle.links.proofs.CutLaws.{later, earlier, both-sides}
use Rattle.links.proofs.RowLaws.{length-rows, length-row}

-- ---- one link, and a list of links

-- a link at v whose other end s owns
abbrev ends : List ℕ → ℕ → ℕ → ℕ × ℕ → Bool
ends owners v s l = (eqb l.0 v && eqb (at owners l.1) s) || (eqb l.1 v && eqb (at owners l.0) s)

tally-not : (b : Bool) → tally (not b) + tally b ≡ 1
tally-not true = refl
tally-not false = refl

module _ (owners : List ℕ) (v r : ℕ) (h : v < length owners) where
  -- one link, by whether its first and its second end are v
  one
      : (l : ℕ × ℕ)
      → l.0 ≢ l.1
      → tally (is_cut owners l) + tally (ends owners v (at owners v) l) ≡ tally (is_cut (set owners v r) l) + tally (ends owners v r l)
  one l ne = go (eqb l.0 v) (eqb l.1 v) refl refl
    where
      go
          : (x y : Bool)
          → eqb l.0 v ≡ x
          → eqb l.1 v ≡ y
          → tally (is_cut owners l) + tally ((x && eqb (at owners l.1) (at owners v)) || (y && eqb (at owners l.0) (at owners v)))
          ≡ tally (is_cut (set owners v r) l) + tally ((x && eqb (at owners l.1) r) || (y && eqb (at owners l.0) r))
      go true true e f = absurd (ne (eqb-true l.0 v e ∙ sym (eqb-true l.1 v f)))
      go true false e f =
          let a : at owners l.0 ≡ at owners v = ap (at owners) (eqb-true l.0 v e) in
          let b : at (set owners v r) l.0 ≡ r = ap (at (set owners v r)) (eqb-true l.0 v e) ∙ get_or-set_same owners v r 0 h in
          let c : at (set owners v r) l.1 ≡ at owners l.1 = get_or-set_other owners v l.1 r 0 (eqb-false l.1 v f) in
          rw (a, b, c, or-false, or-false, eqb-sym (at owners v) (at owners l.1), eqb-sym r (at owners l.1), tally-not, tally-not)
      go false true e f =
          let a : at owners l.1 ≡ at owners v = ap (at owners) (eqb-true l.1 v f) in
          let b : at (set owners v r) l.1 ≡ r = ap (at (set owners v r)) (eqb-true l.1 v f) ∙ get_or-set_same owners v r 0 h in
          let c : at (set owners v r) l.0 ≡ at owners l.0 = get_or-set_other owners v l.0 r 0 (eqb-false l.0 v e) in
          rw (a, b, c, tally-not, tally-not)
      go false false e f =
          let b : at (set owners v r) l.1 ≡ at owners l.1 = get_or-set_other owners v l.1 r 0 (eqb-false l.1 v f) in
          let c : at (set owners v r) l.0 ≡ at owners l.0 = get_or-set_other owners v l.0 r 0 (eqb-false l.0 v e) in
          rw (b, c)

  -- cut before + links at home = cut after + links there
  cut-move
      : (ls : List (ℕ × ℕ))
      → All (λ l. l.0 ≢ l.1) ls
      → count (is_cut owners) ls + count (ends owners v (at owners v)) ls ≡ count (is_cut (set owners v r)) ls + count (ends owners v r) ls
  cut-move [] n = refl
  cut-move (l ∷ ls) n =
      omega (
        arith,
        count-cons (is_cut owners) l ls,
        count-cons (ends owners v (at owners v)) l ls,
        count-cons (is_cut (set owners v r)) l ls,
        count-cons (ends owners v r) l ls,
        one l n.0,
        cut-move ls n.1,
      )

-- ---- v's links counted over all links are v's links counted over its own row

abbrev owns : List ℕ → ℕ → ℕ → Bool
owns own c w = eqb (at own w) c

module _ (own : List ℕ) (v c : ℕ) where
  -- of u's links, each counted at its lower end, those at v whose other end c owns
  abbrev touch : ℕ → ℕ → Bool
  touch u w = ltb u w && ends own v c (u, w)

  touch-row
      : (u : ℕ) (r : List ℕ)
      → count (touch u) r ≡ cond (eqb u v) (count (later v (owns own c)) r) 0 + cond (earlier v (owns own c) u) (count (eqb v) r) 0
  touch-row u [] = simp cond-zero
  touch-row u (w ∷ ws) =
      let ih = touch-row u ws in
      let a = count-cons (later v (owns own c)) w ws in
      let b = count-cons (eqb v) w ws in
      count-cons (touch u) w ws ∙ split (eqb u v)
      (λ p. let e : u ≡ v = eqb-true u v p in
      let q : ltb u v ≡ false = le-ltb u v (omega arith) in
      let k : ltb u w ≡ ltb v w = ap (λ (x : ℕ). ltb x w) e in
      split (ltb v w)
      (λ d. let g : eqb w v ≡ false = ne_eqb w v (λ f. omega (arith, ltb-true v w d)) in
      split (eqb (at own w) c)
      (λ o. simp (p, q, k, d, g, o) (omega (arith, simp (p, q) at ih)))
      (λ o. simp (p, q, k, d, g, o) (omega (arith, simp (p, q) at ih))))
      (λ d. simp (p, q, k, d) (omega (arith, simp (p, q) at ih))))
      (λ p. split (eqb w v)
      (λ r. let k : ltb u w ≡ ltb u v = ap (λ (x : ℕ). ltb u x) (eqb-true w v r) in
      let r' : eqb v w ≡ true = eqb-sym v w ∙ r in
      split (ltb u v)
      (λ a. split (eqb (at own u) c)
      (λ b. simp (p, r, r', k, a, b) (omega (arith, simp (p, a, b) at ih)))
      (λ b. simp (p, r, r', k, a, b) (omega (arith, simp (p, a, b) at ih))))
      (λ a. simp (p, r, r', k, a) (omega (arith, simp (p, a) at ih))))
      (λ r. let r' : eqb v w ≡ false = eqb-sym v w ∙ r in simp (p, r, r', and-false (ltb u w)) (omega (arith, simp p at ih))))

-- v's links, each written down at its lower end
abbrev links_at : List (List ℕ) → ℕ → List (ℕ × ℕ)
links_at rows v = map (λ u. (v, u)) (filter (ltb v) (row rows v))

module _ (rows : List (List ℕ)) (s : Sound rows) where
  bridge : (own : List ℕ) (v c : ℕ) → v < length rows → count (ends own v c) (links rows) ≡ links_to rows own v c
  unfolding links links_in
  bridge own v c h =
      let n = length rows in
      let upward : ℕ → ℕ = λ u. cond (eqb u v) (count (later v (owns own c)) (row rows u)) 0 in
      let downward : ℕ → ℕ = λ u. cond (earlier v (owns own c) u) (count (eqb u) (row rows v)) 0 in
      count-concat (ends own v c) (links_at rows) 0 n
      ∙ total_ext 0 n _ (λ u. upward u + downward u)
      (λ u k l.
      count_kept (ends own v c) (λ w. (u, w)) (ltb u) (row rows u)
      ∙ touch-row own v c u (row rows u)
      ∙ ap (λ (x : ℕ). upward u + cond (earlier v (owns own c) u) x 0) (same-links rows s u v (omega arith) h))
      ∙ total-add 0 n upward downward
      ∙ ap (λ (x : ℕ). x + total 0 n downward) (total-point 0 n v (λ u. count (later v (owns own c)) (row rows u)) (omega arith) (omega arith))
      ∙ ap (λ (x : ℕ). count (later v (owns own c)) (row rows v) + x) (counted (earlier v (owns own c)) n (row rows v) (s.below v h))
      ∙ both-sides v (owns own c) (row rows v) (s.selfless v h)

  two_ends : All (λ l. l.0 ≢ l.1) (links rows)
  unfolding links
  two_ends =
      all-concat (λ l. l.0 ≢ l.1) (links_at rows) (vertices rows)
      (to-all _ (λ v. all_map (λ l. l.0 ≢ l.1) (λ u. (v, u)) (filter (ltb v) (row rows v))
      (all-kept (λ u. v ≢ u) (ltb v) (λ u p. λ e. omega (arith, ltb-true v u p)) (row rows v))) (vertices rows))

  -- what a single move does to the cut links
  pub move-cut
      : (own : List ℕ) (v t : ℕ)
      → v < length rows
      → v < length own
      → links_cut rows own + links_to rows own v (at own v) ≡ links_cut rows (set own v t) + links_to rows own v t
  unfolding links_cut
  move-cut own v t h k = rw (← bridge own v (at own v) h, ← bridge own v t h) (cut-move own v t k (links rows) two_ends)

-- ---- swaps

-- the neighbors that c owns, with x left out
links_but : ℕ → List ℕ → ℕ → List ℕ → ℕ
links_but x own c r = count (λ u. not (eqb u x) && eqb (at own u) c) r

links-but : (x : ℕ) (own : List ℕ) (c : ℕ) (r : List ℕ) → links_in r own c ≡ links_but x own c r + cond (eqb (at own x) c) (count (eqb x) r) 0
unfolding links_in links_but
links-but x own c [] = simp cond-zero
links-but x own c (u ∷ us) =
    let ih = links-but x own c us in
    let but : ℕ → Bool = λ u. not (eqb u x) && eqb (at own u) c in
    let here : ℕ → Bool = λ u. eqb (at own u) c in
    split (eqb u x)
    (λ p. let e : at own u ≡ at own x = ap (at own) (eqb-true u x p) in
    let d = count-is (eqb x) u us true (eqb-sym x u ∙ p) in
    let b = count-is but u us false (rw p) in
    split (eqb (at own x) c)
    (λ q. simp q (omega (arith, simp q at ih, b, d, count-is here u us true (rw e q))))
    (λ q. simp q (omega (arith, simp q at ih, b, d, count-is here u us false (rw e q)))))
    (λ p. let d = count-is (eqb x) u us false (eqb-sym x u ∙ p) in
    let b = count-is but u us (eqb (at own u) c) (rw p) in
    let a = count-cons here u us in
    split (eqb (at own x) c)
    (λ q. simp q (omega (arith, simp q at ih, b, d, a)))
    (λ q. simp q (omega (arith, simp q at ih, b, d, a))))

-- a move of x does not show where x is left out
but-set : (x : ℕ) (own : List ℕ) (t c : ℕ) (r : List ℕ) → links_but x (set own x t) c r ≡ links_but x own c r
unfolding links_but
but-set x own t c [] = refl
but-set x own t c (u ∷ us) =
    let ih = but-set x own t c us in
    let old : ℕ → Bool = λ u. not (eqb u x) && eqb (at own u) c in
    let new : ℕ → Bool = λ u. not (eqb u x) && eqb (at (set own x t) u) c in
    split (eqb u x)
    (λ p. omega (arith, ih, count-is old u us false (rw p), count-is new u us false (rw p)))
    (λ p. let e : at (set own x t) u ≡ at own u = get_or-set_other own x u t 0 (eqb-false u x p) in
    omega (arith, ih, count-is old u us (eqb (at own u) c) (rw p), count-is new u us (eqb (at own u) c) (rw (p, e))))

module _
    (rows : List (List ℕ)) (s : Sound rows) (own : List ℕ) (a b : ℕ)
    (h : a < length rows) (k : b < length rows) (n : length own ≡ length rows) (f : at own a ≢ at own b) where
  -- a and b change ranks
  swap-cut
      : links_cut rows own + links_but b own (at own a) (row rows a) + links_but a own (at own b) (row rows b)
      ≡ links_cut rows (set (set own a (at own b)) b (at own a)) + links_but b own (at own b) (row rows a) + links_but a own (at own a) (row rows b)
  swap-cut =
      let oA = at own a in
      let oB = at own b in
      let own1 = set own a oB in
      let d : a ≢ b = λ e. f (ap (at own) e) in
      let ka : a < length own = rw n h in
      let at_b : at own1 b ≡ oB = get_or-set_other own a b oB 0 (λ e. d (sym e)) in
      let at_a : at own1 a ≡ oB = get_or-set_same own a oB 0 ka in
      let m1 = move-cut rows s own a oB h ka in
      let m2 = move-cut rows s own1 b oA k (rw (length-set own a oB ∙ n) k) in
      let same = same-links rows s a b h k in
      let off : eqb oB oA ≡ false = ne_eqb oB oA (λ e. f (sym e)) in
      let on : eqb oB oB ≡ true = eq-eqb oB oB refl in
      let l1 = simp off at (links-but b own oA (row rows a)) in
      let l2 = simp on at (links-but b own oB (row rows a)) in
      let l3 = simp (at_a, on, but-set) at (links-but a own1 oB (row rows b)) in
      let l4 = simp (at_a, off, but-set) at (links-but a own1 oA (row rows b)) in
      omega (arith, l1, l2, l3, l4, m1, rw at_b at m2, same)

  swap-gain : 1 ≤ gain rows own (swap a b) → links_cut rows own ≡ links_cut rows (after own (swap a b)) + gain rows own (swap a b)
  unfolding gain after linked
  swap-gain g =
      let on : (x : ℕ) → eqb x x ≡ true = λ x. eq-eqb x x refl in
      let ne1 : eqb (at own b) (at own a) ≡ false = ne_eqb (at own b) (at own a) (λ e. f (sym e)) in
      let ne2 : eqb (at own a) (at own b) ≡ false = ne_eqb (at own a) (at own b) f in
      let l1 = simp ne1 at (links-but b own (at own a) (row rows a)) in
      let l2 = simp (on (at own b)) at (links-but b own (at own b) (row rows a)) in
      let l3 = simp ne2 at (links-but a own (at own b) (row rows b)) in
      let l4 = simp (on (at own a)) at (links-but a own (at own a) (row rows b)) in
      omega (arith, swap-cut, l1, l2, l3, l4, occurs b (row rows a) (s.rises a h), occurs a (row rows b) (s.rises b k))

-- two of one rank gain nothing by a swap
pub swap-ranks : (rows : List (List ℕ)) (own : List ℕ) (a b : ℕ) → 1 ≤ gain rows own (swap a b) → at own a ≢ at own b
unfolding gain
swap-ranks rows own a b g e = omega (arith, rw e at g)

-- ---- steps

-- a step names vertices only
abbrev pub InRange : ℕ → Step → Type 0
InRange n (move v r) = v < n
InRange n (swap u v) = (u < n) × (v < n)

-- a step with a gain takes its gain off the cut links
pub step_cut
    : (rows : List (List ℕ))
    → Sound rows
    → (own : List ℕ) (s : Step)
    → length own ≡ length rows
    → InRange (length rows) s
    → 1 ≤ gain rows own s
    → links_cut rows own ≡ links_cut rows (after own s) + gain rows own s
unfolding after gain
step_cut rows so own (move v r) n i g = omega (arith, move-cut rows so own v r i (rw n i))
step_cut rows so own (swap u v) n i g = swap-gain rows so own u v i.0 i.1 n (swap-ranks rows own u v g) g

-- ---- entries

total-lengths
    : (f : ℕ → ℕ) (rs : List (List ℕ)) (i : ℕ)
    → ((u j : ℕ) → u ≡ i + j → f u ≡ length (get_or rs j []))
    → total i (length rs) f ≡ sum (map length rs)
unfolding total
total-lengths f [] i e = refl
total-lengths f (r ∷ rs) i e =
    omega (arith, e i 0 (omega arith), total-lengths f rs (suc i) (λ u j p. e u (suc j) (omega arith)))

-- the entries of all rows are the degrees of all vertices
pub total-degrees : (rows : List (List ℕ)) → total 0 (length rows) (degree rows) ≡ sum (map length rows)
total-degrees rows = total-lengths (degree rows) rows 0 (λ u j p. let e : u ≡ j = omega arith in ap (degree rows) e)

-- no more cut links than entries
pub cut-entries : (rows : List (List ℕ)) (own : List ℕ) → links_cut rows own ≤ sum (map length rows)
unfolding links_cut links
cut-entries rows own =
    let n = length rows in
    let few : (v : ℕ) → count (is_cut own) (links_at rows v) ≤ degree rows v =
    λ v. let pair : ℕ → ℕ × ℕ = λ u. (v, u) in
    omega (arith, count-length (is_cut own) (links_at rows v), length-map (filter (ltb v) (row rows v)) pair, count-length (ltb v) (row rows v)) in
    let most = total-le 0 n (λ v. count (is_cut own) (links_at rows v)) (degree rows) (λ v h k. few v) in
    omega (arith, count-concat (is_cut own) (links_at rows) 0 n, most, total-degrees rows)

-- the degrees from i on, n of them, are what the offsets climb
climb
    : (o l : List ℕ)
    → SoundLists o l
    → (i n : ℕ)
    → i + n ≤ vertex_count o
    → total i n (degree (rows_of o l)) + at o i ≡ at o (i + n)
unfolding total
climb o l s i zero h = let e : i + 0 ≡ i = omega arith in rw e (omega arith)
climb o l s i (suc n) h =
    let e : suc i + n ≡ i + suc n = omega arith in
    let a : i + 1 ≡ suc i = omega arith in
    let ih : total (suc i) n (degree (rows_of o l)) + at o (suc i) ≡ at o (i + suc n) = rw e at (climb o l s (suc i) n (omega arith)) in
    let d : degree (rows_of o l) i ≡ at o (suc i) - at o i = rw a at (length-row o l s i (omega arith)) in
    let r : at o i ≤ at o (suc i) = rw a at (s.rises i (omega arith)) in
    omega arith

-- the entries of sound lists are their neighbors
pub list-entries : (o l : List ℕ) → SoundLists o l → sum (map length (rows_of o l)) ≡ length l
list-entries o l s =
    let n = vertex_count o in
    let whole : total 0 n (degree (rows_of o l)) ≡ sum (map length (rows_of o l)) = rw (length-rows o l) at (total-degrees (rows_of o l)) in
    let e : 0 + n ≡ n = omega arith in
    let c : total 0 n (degree (rows_of o l)) + at o 0 ≡ at o n = rw e at (climb o l s 0 n (omega arith)) in
    omega (arith, s.first, s.last)
