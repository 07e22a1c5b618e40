-- Laws of renaming: what a renaming leaves of a division (the ranks' places, the renumbered owners, the cut links), and the renaming that is defined from
-- two divisions. Assumes nothing.
use Prim.Native.Nat.{ℕ, ◌<◌}
use mathlib.Core.Path.{◌≡◌, refl, sym, ap, ◌∙◌}
use mathlib.Core.Bool.{true, false, true≢false, false≢true}
use mathlib.Core.List.{List, [], ◌∷◌, map, map-map, map-append}
use native.Mathlib.Omega.{arith}
use lib.ListN.{length, length-map}
use lib.Seq.{ext_get_or}
use lib.Dec.{ltb, eqb}
use borrow.Author.Tests.{eq-eqb, ne_eqb, eqb-true, eqb-false}
use Rattle.links.specs.Lists.{at, All, elem, foldl, filter}
use Rattle.links.specs.Graph.{row, vertices, links, is_cut, links_cut, Sound}
use Rattle.links.proofs.ListLaws.{split, get_or-mapped, map-in, all_append, all-to, all_map, all_filter, all-concat, all-range, count-le}
use Rattle.links.proofs.RowLaws.{all-place, elem-place}
use Rattle.compare.specs.Order.{meeting, appearing, place_of, renumbered, renamed}
use Rattle.compare.specs.Ordered.{Renames}
use Rattle.compare.proofs.AppearanceLaws.{place-below, at_place, place-apart, elem-appearing}

-- ---- owners below k, and a renaming f that takes no two of them to one

module _ (k : ℕ) (f : ℕ → ℕ) (apart : (i j : ℕ) → i < k → j < k → f i ≡ f j → i ≡ j) where
  abbrev Ranks : List ℕ → Type 0
  Ranks xs = All (λ x. x < k) xs

  eqb-renamed : (x y : ℕ) → x < k → y < k → eqb (f x) (f y) ≡ eqb x y
  eqb-renamed x y h l = split (eqb x y)
      (λ p. eq-eqb (f x) (f y) (ap f (eqb-true x y p)) ∙ sym p)
      (λ p. ne_eqb (f x) (f y) (λ e. eqb-false x y p (apart x y h l e)) ∙ sym p)

  place-renamed : (x : ℕ) (xs : List ℕ) → x < k → Ranks xs → place_of (f x) (map f xs) ≡ place_of x xs
  place-renamed x [] h a = refl
  place-renamed x (y ∷ xs) h a = rw (eqb-renamed x y h a.0, place-renamed x xs h a.1)

  elem-renamed : (x : ℕ) (xs : List ℕ) → x < k → Ranks xs → elem (f x) (map f xs) ≡ elem x xs
  elem-renamed x [] h a = refl
  elem-renamed x (y ∷ xs) h a = rw (eqb-renamed x y h a.0, elem-renamed x xs h a.1)

  meeting-renamed : (met : List ℕ) (r : ℕ) → Ranks met → r < k → meeting (map f met) (f r) ≡ map f (meeting met r)
  meeting-renamed met r a h = rw (elem-renamed r met h a) (split (elem r met) (λ p. rw p) (λ p. rw p (sym (map-append f met (r ∷ [])))))

  meeting-ranks : (met : List ℕ) (r : ℕ) → Ranks met → r < k → Ranks (meeting met r)
  meeting-ranks met r a h = split (elem r met) (λ p. rw p a) (λ p. rw p (all_append (λ x. x < k) met (r ∷ []) a (h, tt)))

  met-renamed : (met os : List ℕ) → Ranks met → Ranks os → (foldl meeting (map f met) (map f os) ≡ map f (foldl meeting met os)) × Ranks (foldl meeting met os)
  met-renamed met [] a b = (refl, a)
  met-renamed met (o ∷ os) a b =
      let later = met-renamed (meeting met o) os (meeting-ranks met o a b.0) b.1 in
      (ap (λ (l : List ℕ). foldl meeting l (map f os)) (meeting-renamed met o a b.0) ∙ later.0, later.1)

  appearing-renamed : (owners : List ℕ) → Ranks owners → (appearing (map f owners) ≡ map f (appearing owners)) × Ranks (appearing owners)
  unfolding appearing
  appearing-renamed owners b = met-renamed [] owners tt b

  -- the numbers stay what they were
  pub renumbered-renamed : (owners : List ℕ) → Ranks owners → renumbered (map f owners) ≡ renumbered owners
  unfolding renumbered
  renumbered-renamed owners b =
      let same = appearing-renamed owners b in
      rw same.0
      (map-map (λ o. place_of o (map f (appearing owners))) f owners
      ∙ map-in (λ o. place_of (f o) (map f (appearing owners))) (λ o. place_of o (appearing owners)) owners
      (all-to (λ o. o < k) (λ o. place_of (f o) (map f (appearing owners)) ≡ place_of o (appearing owners)) (λ o h. place-renamed o (appearing owners) h same.1) owners b))

  -- and so do the cut links
  module _ (owners : List ℕ) (b : Ranks owners) (rows : List (List ℕ)) (s : Sound rows) (e : length owners ≡ length rows) where
    abbrev Inside : ℕ × ℕ → Type 0
    Inside l = (l.0 < length rows) × (l.1 < length rows)

    links-inside : All Inside (links rows)
    unfolding links
    links-inside = all-concat Inside (λ v. map (λ u. (v, u)) (filter (ltb v) (row rows v))) (vertices rows)
        (all-range _ 0 (length rows)
        (λ v h l. all_map Inside (λ u. (v, u)) (filter (ltb v) (row rows v))
        (all_filter (λ u. Inside (v, u)) (ltb v) (row rows v)
        (all-to (λ u. u < length rows) (λ u. Inside (v, u)) (λ u m. (omega arith, m)) (row rows v) (s.below v (omega arith))))))

    cut-same : (l : ℕ × ℕ) → Inside l → is_cut (map f owners) l ≡ is_cut owners l
    cut-same l i =
        let own : (v : ℕ) → v < length rows → at owners v < k = λ v h. all-place (λ o. o < k) owners v b (omega arith) in
        let same : (v : ℕ) → v < length rows → at (map f owners) v ≡ f (at owners v) = λ v h. get_or-mapped 0 0 f owners v (omega arith) in
        rw (same l.0 i.0, same l.1 i.1, eqb-renamed (at owners l.0) (at owners l.1) (own l.0 i.0) (own l.1 i.1))

    pub cut-renamed : links_cut rows (map f owners) ≡ links_cut rows owners
    unfolding links_cut
    cut-renamed =
        let one = count-le (is_cut (map f owners)) (is_cut owners) (links rows)
        (all-to Inside (λ l. is_cut (map f owners) l ≡ true → is_cut owners l ≡ true) (λ l i p. sym (cut-same l i) ∙ p) (links rows) links-inside) in
        let other = count-le (is_cut owners) (is_cut (map f owners)) (links rows)
        (all-to Inside (λ l. is_cut owners l ≡ true → is_cut (map f owners) l ≡ true) (λ l i p. cut-same l i ∙ p) (links rows) links-inside) in
        omega (arith, one, other)

-- ---- the renaming that is defined from two lists

-- the number of a rank that owns something is the second's of its first vertex
pub renamed-at : (first second : List ℕ) (i : ℕ) → length first ≡ length second → elem i first ≡ true → renamed first second i ≡ at second (place_of i first)
unfolding renamed
renamed-at [] second i l e = absurd (false≢true e)
renamed-at (a ∷ first) [] i l e = absurd (omega arith)
renamed-at (a ∷ first) (b ∷ second) i l e = split (eqb i a) (λ p. rw p) (λ p. rw p (renamed-at first second i (omega arith) (rw p at e)))

-- a rank that owns nothing has 0
pub renamed-none : (first second : List ℕ) (i : ℕ) → elem i first ≡ false → renamed first second i ≡ 0
unfolding renamed
renamed-none [] second i e = refl
renamed-none (a ∷ first) [] i e = refl
renamed-none (a ∷ first) (b ∷ second) i e = split (eqb i a) (λ p. absurd (true≢false (rw p at e))) (λ p. rw p (renamed-none first second i (rw p at e)))

-- what f makes of the first list's ranks
pub renamed_by : (f : ℕ → ℕ) (first : List ℕ) (i : ℕ) → elem i first ≡ true → renamed first (map f first) i ≡ f i
unfolding renamed
renamed_by f [] i e = absurd (false≢true e)
renamed_by f (a ∷ first) i e = split (eqb i a) (λ p. let q : i ≡ a = eqb-true i a p in rw p (ap f (sym q))) (λ p. rw p (renamed_by f first i (rw p at e)))

-- ---- two lists with the same numbers

at-renumbered : (owners : List ℕ) (v : ℕ) → v < length owners → at (renumbered owners) v ≡ place_of (at owners v) (appearing owners)
unfolding renumbered
at-renumbered owners v h = get_or-mapped 0 0 (λ o. place_of o (appearing owners)) owners v h

owner-appears : (owners : List ℕ) (v : ℕ) → v < length owners → elem (at owners v) (appearing owners) ≡ true
owner-appears owners v h = elem-appearing (at owners v) owners ∙ elem-place owners v (at owners v) h refl

-- vertices of one rank in the first are of one rank in the second
same-owner : (a b : List ℕ) → length a ≡ length b → renumbered a ≡ renumbered b → (v w : ℕ) → v < length a → w < length a → at a v ≡ at a w → at b v ≡ at b w
same-owner a b l e v w h m o =
    let place : (u : ℕ) → u < length a → place_of (at a u) (appearing a) ≡ place_of (at b u) (appearing b) =
    λ u n. sym (at-renumbered a u n) ∙ ap (λ (xs : List ℕ). at xs u) e ∙ at-renumbered b u (omega arith) in
    place-apart (at b v) (at b w) (appearing b) (owner-appears b v (omega arith)) (owner-appears b w (omega arith))
    (sym (place v h) ∙ ap (λ (r : ℕ). place_of r (appearing a)) o ∙ place w m)

module _ (a b : List ℕ) (l : length a ≡ length b) (e : renumbered a ≡ renumbered b) where
  renamed-owner : (v : ℕ) → v < length a → renamed a b (at a v) ≡ at b v
  renamed-owner v h =
      let i = elem-place a v (at a v) h refl in
      renamed-at a b (at a v) l i ∙ same-owner a b l e (place_of (at a v) a) v (place-below (at a v) a i) h (at_place (at a v) a i)

  turns : map (renamed a b) a ≡ b
  turns = ext_get_or 0 (map (renamed a b) a) b (length-map a (renamed a b) ∙ l)
      (λ v h. let m : v < length a = rw (length-map a (renamed a b)) at h in get_or-mapped 0 0 (renamed a b) a v m ∙ renamed-owner v m)

  -- with every rank below k among the first's owners, and none else among the second's
  module _ (k : ℕ) (owns : (r : ℕ) → r < k → elem r a ≡ true) (below : All (λ o. o < k) b) where
    first-vertex : (i : ℕ) → i < k → place_of i a < length a
    first-vertex i h = place-below i a (owns i h)

    renamed-below : (i : ℕ) → i < k → renamed a b i < k
    renamed-below i h = rw (renamed-at a b i l (owns i h)) (all-place (λ o. o < k) b (place_of i a) below (omega (arith, first-vertex i h)))

    renamed-apart : (i j : ℕ) → i < k → j < k → renamed a b i ≡ renamed a b j → i ≡ j
    renamed-apart i j h m d =
        let same : at b (place_of i a) ≡ at b (place_of j a) = sym (renamed-at a b i l (owns i h)) ∙ d ∙ renamed-at a b j l (owns j m) in
        sym (at_place i a (owns i h))
        ∙ same-owner b a (sym l) (sym e) (place_of i a) (place_of j a) (omega (arith, first-vertex i h)) (omega (arith, first-vertex j m)) same
        ∙ at_place j a (owns j m)

    pub same-renames : Renames k (renamed a b) a b
    same-renames = record { renaming = record { below = renamed-below; apart = renamed-apart }; turns = turns }
