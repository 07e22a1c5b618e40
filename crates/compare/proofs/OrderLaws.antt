-- The theorem on the order of divisions: `ordered`. Assumes nothing.
use Prim.Native.Nat.{ℕ, ◌*◌, ◌<◌}
use mathlib.Core.Path.{◌≡◌, refl, sym, ap, ◌∙◌}
use mathlib.Core.Bool.{true, false, true≢false}
use mathlib.Core.List.{List, [], ◌∷◌}
use mathlib.Core.Logic.{◌⊎◌, inl, inr, ⊎_elim}
use native.Mathlib.Omega.{arith}
use lib.ListN.{length, length-map}
use lib.Dec.{eqb, ltb}
use borrow.Author.Tests.{eqb-true, lt-ltb, le-ltb, ltb-true, ltb-false}
use Rattle.links.specs.Lists.{elem}
use Rattle.links.specs.Graph.{links_cut, Sound, owned}
use Rattle.links.specs.Owners.{from_owners}
use Rattle.links.proofs.ListLaws.{split, count, none-counts}
use Rattle.links.proofs.OwnerLaws.{assigned}
use Rattle.compare.specs.declared.order.Order.{Order}
use Rattle.compare.specs.declared.order.Order.TheVariants.{Same, First, Second}
use Rattle.compare.specs.Order.{appearing, place_of, renumbered, lesser_first, then_by, by_numbers, order_of, exchange, is_same, renamed}
use Rattle.compare.specs.Ordered.{Renames, Division, Ordered}
use Rattle.compare.proofs.RenamedLaws.{renumbered-renamed, cut-renamed, same-renames, renamed_by}

-- ---- one key

module _ (a b : ℕ) where
  pub lesser : a < b → lesser_first a b ≡ First
  lesser h = rw (lt-ltb a b h)

  pub greater : b < a → lesser_first a b ≡ Second
  greater h = rw (le-ltb a b (omega arith), lt-ltb b a h)

  pub equal : a ≡ b → lesser_first a b ≡ Same
  equal e = rw (le-ltb a b (omega arith), le-ltb b a (omega arith))

  decided : {A : Type 0} → (a < b → lesser_first a b ≡ First → A) → (b < a → lesser_first a b ≡ Second → A) → (a ≡ b → lesser_first a b ≡ Same → A) → A
  decided f g h = split (ltb a b)
      (λ p. f (ltb-true a b p) (lesser (ltb-true a b p)))
      (λ p. split (ltb b a)
      (λ q. g (ltb-true b a q) (greater (ltb-true b a q)))
      (λ q. let e : a ≡ b = omega (arith, ltb-false a b p, ltb-false b a q) in h e (equal e)))

  told_same : lesser_first a b ≡ Same → a ≡ b
  told_same e = decided
      (λ h p. let z : ◌≡◌ {A = ℕ} 0 1 = cc in absurd (omega arith))
      (λ h p. let z : ◌≡◌ {A = ℕ} 0 1 = cc in absurd (omega arith))
      (λ h p. h)

  told-first : lesser_first a b ≡ First → a < b
  told-first e = decided
      (λ h p. h)
      (λ h p. let z : ◌≡◌ {A = ℕ} 0 1 = cc in absurd (omega arith))
      (λ h p. let z : ◌≡◌ {A = ℕ} 0 1 = cc in absurd (omega arith))

-- twice as much of both
pub lesser-twice : (a b : ℕ) → lesser_first (2 * a) (2 * b) ≡ lesser_first a b
lesser-twice a b = decided a b
    (λ h p. lesser (2 * a) (2 * b) (omega arith) ∙ sym p)
    (λ h p. greater (2 * a) (2 * b) (omega arith) ∙ sym p)
    (λ h p. equal (2 * a) (2 * b) (omega arith) ∙ sym p)

-- ---- one key after another

-- a key that decides is the answer
pub then-stays : (o later : Order) → is_same o ≡ false → then_by o later ≡ o
then-stays Same later e = absurd (true≢false e)
then-stays First later e = refl
then-stays Second later e = refl

abbrev Told : Order → Type 0
Told o = (o ≡ Same) ⊎ ((o ≡ First) ⊎ (o ≡ Second))

told-lesser : (a b : ℕ) → Told (lesser_first a b)
told-lesser a b = decided a b (λ h p. inr (inl p)) (λ h p. inr (inr p)) (λ h p. inl p)

told-then : (o later : Order) → Told o → Told later → Told (then_by o later)
told-then o later t u = ⊎_elim (λ e. rw e u) (λ s. ⊎_elim (λ e. rw e (inr (inl refl))) (λ e. rw e (inr (inr refl))) s) t

then_same : (o later : Order) → then_by o later ≡ Same → (o ≡ Same) × (later ≡ Same)
then_same Same later e = (refl, e)
then_same First later e = let z : ◌≡◌ {A = ℕ} 0 1 = cc in absurd (omega arith)
then_same Second later e = let z : ◌≡◌ {A = ℕ} 0 1 = cc in absurd (omega arith)

then-first : (o later : Order) → then_by o later ≡ First → (o ≡ First) ⊎ ((o ≡ Same) × (later ≡ First))
then-first Same later e = inr (refl, e)
then-first First later e = inl refl
then-first Second later e = let z : ◌≡◌ {A = ℕ} 0 1 = cc in absurd (omega arith)

exchange-lesser : (a b : ℕ) → lesser_first b a ≡ exchange (lesser_first a b)
exchange-lesser a b = decided a b (λ h p. rw p (greater b a h)) (λ h p. rw p (lesser b a h)) (λ h p. rw p (equal b a (sym h)))

exchange-then : (o later : Order) → then_by (exchange o) (exchange later) ≡ exchange (then_by o later)
exchange-then Same later = refl
exchange-then First later = refl
exchange-then Second later = refl

-- a key that is told before a chain and the keys after it
module _ (a b c : ℕ) (o o' o'' : Order) (chained : o ≡ First → o' ≡ First → o'' ≡ First) where
  chain-then : then_by (lesser_first a b) o ≡ First → then_by (lesser_first b c) o' ≡ First → then_by (lesser_first a c) o'' ≡ First
  chain-then e e' = ⊎_elim
      (λ p. let h = told-first a b p in
      ⊎_elim (λ p'. let h' = told-first b c p' in ahead (omega arith)) (λ t'. let h' = told_same b c t'.0 in ahead (omega arith)) (then-first (lesser_first b c) o' e'))
      (λ t. let h = told_same a b t.0 in
      ⊎_elim
      (λ p'. let h' = told-first b c p' in ahead (omega arith))
      (λ t'. let h' = told_same b c t'.0 in let q : lesser_first a c ≡ Same = equal a c (omega arith) in rw q (chained t.1 t'.1))
      (then-first (lesser_first b c) o' e'))
      (then-first (lesser_first a b) o e)
    where
      ahead : a < c → then_by (lesser_first a c) o'' ≡ First
      ahead h = let q : lesser_first a c ≡ First = lesser a c h in rw q

-- ---- lists of numbers

by-told : (xs ys : List ℕ) → Told (by_numbers xs ys)
unfolding by_numbers
by-told [] ys = inl refl
by-told (x ∷ xs) [] = inl refl
by-told (x ∷ xs) (y ∷ ys) = told-then (lesser_first x y) (by_numbers xs ys) (told-lesser x y) (by-told xs ys)

by-refl : (xs : List ℕ) → by_numbers xs xs ≡ Same
unfolding by_numbers
by-refl [] = refl
by-refl (x ∷ xs) = rw (equal x x refl) (by-refl xs)

by-same : (xs ys : List ℕ) → length xs ≡ length ys → by_numbers xs ys ≡ Same → xs ≡ ys
unfolding by_numbers
by-same [] [] l e = refl
by-same [] (y ∷ ys) l e = absurd (omega arith)
by-same (x ∷ xs) [] l e = absurd (omega arith)
by-same (x ∷ xs) (y ∷ ys) l e =
    let t = then_same (lesser_first x y) (by_numbers xs ys) e in
    rw (told_same x y t.0, by-same xs ys (omega arith) t.1)

by-exchanged : (xs ys : List ℕ) → by_numbers ys xs ≡ exchange (by_numbers xs ys)
unfolding by_numbers
by-exchanged [] [] = refl
by-exchanged [] (y ∷ ys) = refl
by-exchanged (x ∷ xs) [] = refl
by-exchanged (x ∷ xs) (y ∷ ys) = rw (exchange-lesser x y, by-exchanged xs ys) (exchange-then (lesser_first x y) (by_numbers xs ys))

by_chain : (xs ys zs : List ℕ) → by_numbers xs ys ≡ First → by_numbers ys zs ≡ First → by_numbers xs zs ≡ First
unfolding by_numbers
by_chain [] ys zs e d = let z : ◌≡◌ {A = ℕ} 0 1 = cc in absurd (omega arith)
by_chain (x ∷ xs) [] zs e d = let z : ◌≡◌ {A = ℕ} 0 1 = cc in absurd (omega arith)
by_chain (x ∷ xs) (y ∷ ys) [] e d = let z : ◌≡◌ {A = ℕ} 0 1 = cc in absurd (omega arith)
by_chain (x ∷ xs) (y ∷ ys) (z ∷ zs) e d = chain-then x y z (by_numbers xs ys) (by_numbers ys zs) (by_numbers xs zs) (by_chain xs ys zs) e d

-- ---- divisions

-- each rank of an owner list that passes the tests of from_owners owns something
pub owns : (k : ℕ) (owners : List ℕ) → from_owners k owners ≡ 0 → (r : ℕ) → r < k → elem r owners ≡ true
unfolding owned
owns k owners e r h = split (elem r owners) (λ p. p)
    (λ p. absurd (omega (arith, (assigned k owners e).filled r h, eqb-true (count (eqb r) owners) 0 (none-counts (eqb r) owners ∙ rw p))))

length-renumbered : (owners : List ℕ) → length (renumbered owners) ≡ length owners
unfolding renumbered
length-renumbered owners = length-map owners (λ o. place_of o (appearing owners))

module _ (rows : List (List ℕ)) (k : ℕ) (s : Sound rows) where
  same-renaming : (a b : List ℕ) → Division rows k a → Division rows k b → order_of rows a b ≡ Same → Renames k (renamed a b) a b
  unfolding order_of
  same-renaming a b d d' e =
      let l : length a ≡ length b = d.sized ∙ sym d'.sized in
      let t = then_same (lesser_first (links_cut rows a) (links_cut rows b)) (by_numbers (renumbered a) (renumbered b)) e in
      same-renames a b l (by-same (renumbered a) (renumbered b) (length-renumbered a ∙ l ∙ sym (length-renumbered b)) t.1) k (owns k a d.own) (assigned k b d'.own).ranked

  -- a renaming changes neither key
  module _ (a b : List ℕ) (d : Division rows k a) (f : ℕ → ℕ) (r : Renames k f a b) where
    same-cut : links_cut rows b ≡ links_cut rows a
    same-cut = ap (links_cut rows) (sym r.turns) ∙ cut-renamed k f r.renaming.apart a (assigned k a d.own).ranked rows s d.sized

    same_numbers : renumbered b ≡ renumbered a
    same_numbers = ap renumbered (sym r.turns) ∙ renumbered-renamed k f r.renaming.apart a (assigned k a d.own).ranked

    renamed-first : (c : List ℕ) → order_of rows b c ≡ order_of rows a c
    unfolding order_of
    renamed-first c = rw (same-cut, same_numbers)

    renamed-second : (c : List ℕ) → order_of rows c b ≡ order_of rows c a
    unfolding order_of
    renamed-second c = rw (same-cut, same_numbers)

    renames-once : (i : ℕ) → i < k → f i ≡ renamed a b i
    renames-once i h = sym (ap (λ (xs : List ℕ). renamed a xs i) (sym r.turns) ∙ renamed_by f a i (owns k a d.own i h))

  order-refl : (a : List ℕ) → order_of rows a a ≡ Same
  unfolding order_of
  order-refl a = rw (equal (links_cut rows a) (links_cut rows a) refl) (by-refl (renumbered a))

  pub ordered : Ordered rows k
  unfolding order_of
  ordered =
      record {
        same-renames = same-renaming;
        renames-same = λ a b d f r. renamed-second a b d f r a ∙ order-refl a;
        renames-once = renames-once;
        total = λ a b. told-then (lesser_first (links_cut rows a) (links_cut rows b)) (by_numbers (renumbered a) (renumbered b)) (told-lesser (links_cut rows a) (links_cut rows b)) (by-told (renumbered a) (renumbered b));
        exchanged = λ a b. rw (exchange-lesser (links_cut rows a) (links_cut rows b), by-exchanged (renumbered a) (renumbered b)) (exchange-then (lesser_first (links_cut rows a) (links_cut rows b)) (by_numbers (renumbered a) (renumbered b)));
        chain = λ a b c. chain-then (links_cut rows a) (links_cut rows b) (links_cut rows c) (by_numbers (renumbered a) (renumbered b)) (by_numbers (renumbered b) (renumbered c)) (by_numbers (renumbered a) (renumbered c)) (by_chain (renumbered a) (renumbered b) (renumbered c));
        renamed-first = λ a a' b d f r. renamed-first a a' d f r b;
        renamed-second = λ a b b' d f r. renamed-second b b' d f r a;
      }
