-- Laws of chained entries, and of a search along a chain. Assumes nothing.
use mathlib.Core.Path.{◌≡◌, refl, sym, ap, ◌∙◌, subst}
use mathlib.Core.Logic.{⊎_elim}
use mathlib.Core.Bool.{Bool, true, false, ◌||◌, true≢false, false≢true}
use mathlib.Core.List.{List, [], ◌∷◌, ◌++◌, append-nil, append_assoc}
use Prim.Native.Nat.{ℕ, zero, suc, ◌+◌, ◌-◌, ◌≤◌, ◌<◌}
use native.Mathlib.Omega.{arith}
use native.Mathlib.Numerals.{add-one}
use lib.Dec.{eqb, ltb}
use lib.ListN.{length, set, drop, length-drop}
use lib.Seq.{get_or-set_same, get_or-set_other, drop-cons, drop-append-le, drop_at, drop-drop}
use borrow.Author.Tests.{eqb-false, eq-eqb, ne_eqb, lt-ltb, ltb-true}
use Rattle.links.specs.Lists.{at, filter, elem, concat_map}
use Rattle.links.specs.Graph.{row, degree}
use Rattle.links.proofs.ListLaws.{split, eqb-sym, elem-append}
use Rattle.stages.specs.FrontierCode.{cells, front, last, Distinct, Below, stops_at, Onward, Going}

-- ---- what is in a list

elem-not-head : (x y : ℕ) (r : List ℕ) → elem x (y ∷ r) ≡ false → eqb x y ≡ false
elem-not-head x y r e = split (eqb x y) (λ p. absurd (true≢false (rw p at e))) (λ p. p)

elem-not-tail : (x y : ℕ) (r : List ℕ) → elem x (y ∷ r) ≡ false → elem x r ≡ false
elem-not-tail x y r e = rw (elem-not-head x y r e) at e

elem-tail : (x y : ℕ) (r : List ℕ) → elem x r ≡ true → elem x (y ∷ r) ≡ true
elem-tail x y r e = split (eqb x y) (λ p. rw p) (λ p. rw p e)

pub elem-one : (x j : ℕ) → elem x (j ∷ []) ≡ eqb x j
elem-one x j = split (eqb x j) (λ p. rw p) (λ p. rw p)

pub elem-snoc : (x : ℕ) (cs : List ℕ) (j : ℕ) → elem x (cs ++ (j ∷ [])) ≡ elem x cs || eqb x j
elem-snoc x cs j = elem-append x cs (j ∷ []) ∙ ap (λ (b : Bool). elem x cs || b) (elem-one x j)

pub elem-drop : (x j : ℕ) (l : List ℕ) → elem x (drop j l) ≡ true → elem x l ≡ true
elem-drop x zero l e = e
elem-drop x (suc j) [] e = e
elem-drop x (suc j) (y ∷ l) e = elem-tail x y l (elem-drop x j l e)

pub distinct-drop : (j : ℕ) (l : List ℕ) → Distinct l → Distinct (drop j l)
distinct-drop zero l d = d
distinct-drop (suc j) [] d = d
distinct-drop (suc j) (x ∷ l) d = distinct-drop j l d.1

pub distinct_snoc : (cs : List ℕ) (j : ℕ) → Distinct cs → elem j cs ≡ false → Distinct (cs ++ (j ∷ []))
distinct_snoc [] j d e = (refl, tt)
distinct_snoc (x ∷ r) j d e = (elem-snoc x r j ∙ simp (d.0, eqb-sym x j ∙ elem-not-head j x r e), distinct_snoc r j d.1 (elem-not-tail j x r e))

-- ---- the last of a list

pub last-in : (x : ℕ) (r : List ℕ) → elem (last (x ∷ r)) (x ∷ r) ≡ true
unfolding last
last-in x [] = simp (eq-eqb x x refl)
last-in x (y ∷ r) = elem-tail (last (y ∷ r)) x (y ∷ r) (last-in y r)

pub last_snoc : (cs : List ℕ) (j : ℕ) → last (cs ++ (j ∷ [])) ≡ j
unfolding last
last_snoc [] j = refl
last_snoc (x ∷ []) j = refl
last_snoc (x ∷ y ∷ r) j = last_snoc (y ∷ r) j

pub last-below : (n x : ℕ) (r : List ℕ) → Below n (x ∷ r) → last (x ∷ r) < n
unfolding last
last-below n x [] b = b.0
last-below n x (y ∷ r) b = last-below n y r b.1

none_left : (j : ℕ) (l : List ℕ) → l ≡ [] → 0 < length (drop j l) → ⊥
none_left j l e h = omega (arith, length-drop j l, ap length e)

pub last-drop : (j : ℕ) (l : List ℕ) → 0 < length (drop j l) → last (drop j l) ≡ last l
unfolding last
last-drop zero l h = refl
last-drop (suc j) [] h = refl
last-drop (suc j) (x ∷ []) h = absurd (none_left j [] refl h)
last-drop (suc j) (x ∷ y ∷ l) h = last-drop j (y ∷ l) h

-- ---- chains

pub cells-length : (links : List ℕ) (h n : ℕ) → length (cells links h n) ≡ n
unfolding cells
cells-length links h zero = refl
cells-length links h (suc n) = ap suc (cells-length links (at links h) n)

-- a store at an entry that is not in the chain does not show
pub cells-off : (links : List ℕ) (x y h n : ℕ) → elem x (cells links h n) ≡ false → cells (set links x y) h n ≡ cells links h n
unfolding cells
cells-off links x y h zero e = refl
cells-off links x y h (suc n) e =
    let d = eqb-false x h (elem-not-head x h (cells links (at links h) n) e) in
    rw (get_or-set_other links x h y 0 (λ q. d (sym q)))
    (ap (λ (l : List ℕ). h ∷ l) (cells-off links x y (at links h) n (elem-not-tail x h (cells links (at links h) n) e)))

-- an entry is put after the last one
pub cells-push
    : (links : List ℕ) (t j h n : ℕ)
    → t < length links
    → t ≡ last (cells links h (suc n))
    → Distinct (cells links h (suc n))
    → cells (set links t j) h (suc (suc n)) ≡ cells links h (suc n) ++ (j ∷ [])
unfolding cells last
cells-push links t j h zero l e d = rw (e, get_or-set_same links h j 0 (rw (← e) l))
cells-push links t j h (suc n) l e d =
    let h' = at links h in
    let i : elem t (cells links h' (suc n)) ≡ true =
    subst (λ (z : ℕ). elem z (cells links h' (suc n)) ≡ true) (sym e) (last-in h' (cells links (at links h') n)) in
    let ne : h ≡ t → ⊥ = λ q. true≢false (sym i ∙ subst (λ (z : ℕ). elem z (cells links h' (suc n)) ≡ false) q d.0) in
    rw (get_or-set_other links t h j 0 ne) (ap (λ (c : List ℕ). h ∷ c) (cells-push links t j h' n l e d.1))

pub concat-snoc : (f : ℕ → List ℕ) (xs : List ℕ) (j : ℕ) → concat_map f (xs ++ (j ∷ [])) ≡ concat_map f xs ++ f j
concat-snoc f [] j = append-nil (f j)
concat-snoc f (x ∷ xs) j = rw (concat-snoc f xs j) (sym (append_assoc (f x) (concat_map f xs) (f j)))

pub head_in : (links : List ℕ) (b h n : ℕ) → Below b (cells links h n) → 0 < n → h < b
unfolding cells
head_in links b h zero w z = absurd (omega arith)
head_in links b h (suc n) w z = w.0

module _ (rows : List (List ℕ)) (links : List ℕ) (h p n : ℕ) where
  rest : List ℕ
  rest = concat_map (row rows) (cells links (at links h) n)

  -- a candidate of the first row
  front-here : p < degree rows h → front rows links h p (suc n) ≡ at (row rows h) p ∷ front rows links h (p + 1) (suc n)
  unfolding front cells rest
  front-here l =
      rw (drop-append-le p (row rows h) rest (omega arith), drop-append-le (p + 1) (row rows h) rest (omega arith), drop-cons (row rows h) p 0 l, add-one)

  -- the first row is done with
  front-next : p ≡ degree rows h → front rows links h p (suc n) ≡ front rows links (at links h) 0 n
  unfolding front cells rest
  front-next e = drop_at (row rows h) rest p (sym e)

-- ---- a search along a chain

module _ (rows : List (List ℕ)) (links : List ℕ) (ok : ℕ → Bool) (b h p n : ℕ) where
  -- what is left of the search: candidates and entries
  abbrev pub ahead : ℕ → ℕ → ℕ → ℕ
  ahead h p n = length (front rows links h p n) + n

  abbrev Next : ℕ → ℕ → ℕ → ℕ → ℕ → ℕ → Type 0
  Next h₁ p₁ n₁ h₂ p₂ n₂ = Going rows links ok b h p n h₂ p₂ n₂ × (ahead h₂ p₂ n₂ < ahead h₁ p₁ n₁)

  here
      : (h₁ p₁ m : ℕ)
      → Going rows links ok b h p n h₁ p₁ (suc m)
      → p₁ < degree rows h₁
      → ok (at (row rows h₁) p₁) ≡ false
      → Next h₁ p₁ (suc m) h₁ (p₁ + 1) (suc m)
  here h₁ p₁ m g l e =
      let f = front-here rows links h₁ p₁ m l in
      let s : filter ok (front rows links h₁ (p₁ + 1) (suc m)) ≡ filter ok (front rows links h₁ p₁ (suc m)) = sym (ap (filter ok) f ∙ rw e) in (
        record { same = s ∙ g.same; fewer = g.fewer; cells_are = g.cells_are; inside = g.inside; place_in = λ z. omega arith },
        omega (arith, ap length f),
      )

  over : (h₁ p₁ m : ℕ) → Going rows links ok b h p n h₁ p₁ (suc m) → degree rows h₁ ≤ p₁ → Next h₁ p₁ (suc m) (at links h₁) 0 m
  unfolding cells
  over h₁ p₁ m g l =
      let f = front-next rows links h₁ p₁ m (omega (arith, g.place_in (omega arith))) in
      let k : n - m ≡ n - suc m + 1 = omega (arith, g.fewer) in
      let d : cells links (at links h₁) m ≡ drop (n - m) (cells links h n) =
      ap (drop 1) g.cells_are ∙ drop-drop 1 (n - suc m) (cells links h n) ∙ sym (ap (λ (j : ℕ). drop j (cells links h n)) k) in (
        record { same = sym (ap (filter ok) f) ∙ g.same; fewer = omega (arith, g.fewer); cells_are = d; inside = g.inside.1; place_in = λ z. omega arith },
        omega (arith, ap length f),
      )

  -- a turn of the search
  pub going-on
      : (h₁ p₁ n₁ h₂ p₂ n₂ : ℕ)
      → Going rows links ok b h p n h₁ p₁ n₁
      → stops_at rows ok h₁ p₁ n₁ ≡ false
      → Onward rows links h₁ p₁ n₁ h₂ p₂ n₂
      → Next h₁ p₁ n₁ h₂ p₂ n₂
  unfolding stops_at
  going-on h₁ p₁ zero h₂ p₂ n₂ g s o = absurd (true≢false s)
  going-on h₁ p₁ (suc m) h₂ p₂ n₂ g s o = ⊎_elim
      (λ w. subst (λ (x : ℕ). Next h₁ p₁ (suc m) x p₂ n₂) (sym w.1)
      (subst (λ (x : ℕ). Next h₁ p₁ (suc m) h₁ x n₂) (sym w.2)
      (subst (λ (x : ℕ). Next h₁ p₁ (suc m) h₁ (p₁ + 1) x) (sym w.3)
      (here h₁ p₁ m g w.0 (rw (ne_eqb (suc m) 0 (λ q. omega arith), lt-ltb p₁ (degree rows h₁) w.0) at s)))))
      (λ w. let q : n₂ ≡ m = omega (arith, w.3) in
      subst (λ (x : ℕ). Next h₁ p₁ (suc m) x p₂ n₂) (sym w.1)
      (subst (λ (x : ℕ). Next h₁ p₁ (suc m) (at links h₁) x n₂) (sym w.2)
      (subst (λ (x : ℕ). Next h₁ p₁ (suc m) (at links h₁) 0 x) (sym q) (over h₁ p₁ m g w.0))))
      o

-- where it stopped: at the end, or at the first candidate that passes
pub at-end : (rows : List (List ℕ)) (links : List ℕ) (ok : ℕ → Bool) (h p : ℕ) → filter ok (front rows links h p 0) ≡ []
unfolding front cells
at-end rows links ok h zero = refl
at-end rows links ok h (suc p) = refl

pub at_open
    : (rows : List (List ℕ)) (links : List ℕ) (ok : ℕ → Bool) (h p n : ℕ)
    → stops_at rows ok h p n ≡ true
    → (n ≡ 0 → ⊥)
    → (p < degree rows h)
    × (ok (at (row rows h) p) ≡ true)
    × (filter ok (front rows links h p n) ≡ at (row rows h) p ∷ filter ok (front rows links h (p + 1) n))
unfolding stops_at
at_open rows links ok h p zero s z = absurd (z refl)
at_open rows links ok h p (suc m) s z = split (ltb p (degree rows h))
    (λ e. let l = ltb-true p (degree rows h) e in
    let o : ok (at (row rows h) p) ≡ true = rw (ne_eqb (suc m) 0 (λ q. omega arith), e) at s in
    (l, o, ap (filter ok) (front-here rows links h p m l) ∙ rw o))
    (λ e. absurd (false≢true (rw (ne_eqb (suc m) 0 (λ q. omega arith), e) at s)))

pub left-some : (rows : List (List ℕ)) (ok : ℕ → Bool) (h p n : ℕ) → stops_at rows ok h p n ≡ false → 0 < n
unfolding stops_at
left-some rows ok h p zero e = absurd (true≢false e)
left-some rows ok h p (suc n) e = omega arith
