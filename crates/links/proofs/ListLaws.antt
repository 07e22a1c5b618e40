-- Laws of tests and of the functions on lists that the rules are written with. Assumes nothing.
use Prim.Native.Nat.{ℕ, zero, suc, ◌+◌, ◌-◌, ◌*◌, ◌≤◌, ◌<◌, max}
use mathlib.Core.Path.{◌≡◌, refl, sym, ap, ◌∙◌, subst}
use mathlib.Core.Bool.{Bool, true, false, not, ◌&&◌, ◌||◌, cond, true≢false, false≢true}
use mathlib.Core.List.{List, [], ◌∷◌, ◌++◌, map, nil≢cons, head-eq_of_cons-eq, tail-eq_of_cons-eq}
use mathlib.Core.Option.{Option, none, some}
use mathlib.Core.Logic.{◌⊎◌, inl, inr, ⊎_elim}
use native.Mathlib.Numerals.{add-one}
use native.Mathlib.Omega.{arith}
use lib.ListN.{length, get_or, set, take, drop, replicate}
use lib.Seq.{take-suc, drop-cons, split_at}
use lib.Dec.{eqb, ltb, leb}
use borrow.Author.Tests.{eq-eqb, ne_eqb, eqb-true, eqb-false, lt-ltb, le-ltb, ltb-true, ltb-false, leb-true}
use Rattle.links.specs.Lists.{at, All, above, greatest, between, filter, any, all, foldl, best, best_from, insert, sort_by, range, sum, concat_map, elem}

-- by cases on a test, with the equation at hand
pub split {ℓ} : {A : Type ℓ} (b : Bool) → (b ≡ true → A) → (b ≡ false → A) → A
split true f g = f refl
split false f g = g refl

pub eqb-sym : (a b : ℕ) → eqb a b ≡ eqb b a
eqb-sym a b = split (eqb a b) (λ p. p ∙ sym (eq-eqb b a (sym (eqb-true a b p)))) (λ p. p ∙ sym (ne_eqb b a (λ q. eqb-false a b p (sym q))))

pub cond-zero : (b : Bool) → ◌≡◌ {A = ℕ} (cond b 0 0) 0
cond-zero true = refl
cond-zero false = refl

pub or_l : (a b : Bool) → a || b ≡ false → a ≡ false
or_l true b e = e
or_l false b e = refl

pub or_r : (a b : Bool) → a || b ≡ false → b ≡ false
or_r true b e = absurd (true≢false e)
or_r false b e = e

pub and_l : (a b : Bool) → a && b ≡ true → a ≡ true
and_l true b e = refl
and_l false b e = absurd (false≢true e)

pub and_r : (a b : Bool) → a && b ≡ true → b ≡ true
and_r true b e = e
and_r false b e = absurd (false≢true e)

pub and-true : (b : Bool) → b && true ≡ b
and-true true = refl
and-true false = refl

pub and-false : (b : Bool) → b && false ≡ false
and-false true = refl
and-false false = refl

pub or-true : (b : Bool) → b || true ≡ true
or-true true = refl
or-true false = refl

pub or-false : (b : Bool) → b || false ≡ b
or-false true = refl
or-false false = refl

-- ---- from least to most

pub between-least : (least most x : ℕ) → between least most x ≡ true → least ≤ x
between-least least most x e = leb-true least x (and_l (leb least x) (leb x most) e)

pub between-most : (least most x : ℕ) → between least most x ≡ true → x ≤ most
between-most least most x e = leb-true x most (and_r (leb least x) (leb x most) e)

pub and_i : (a b : Bool) → a ≡ true → b ≡ true → a && b ≡ true
and_i a b e f = rw (e, f)

pub not-of : (b : Bool) → not b ≡ true → b ≡ false
not-of true e = sym e
not-of false e = refl

pub iff-eq : (a b : Bool) → (a ≡ true → b ≡ true) → (b ≡ true → a ≡ true) → a ≡ b
iff-eq true b f g = sym (f refl)
iff-eq false true f g = g refl
iff-eq false false f g = refl

-- ---- one key of an order, and the next

-- what the test `above` stands for
abbrev pub Above : ℕ → ℕ → Type 0 → Type 0
Above a b N = (b < a) ⊎ ((a ≡ b) × N)

pub is-above : (a b : ℕ) (n : Bool) → above a b n ≡ true → Above a b (n ≡ true)
is-above a b n e = split (ltb b a)
    (λ p. inl (ltb-true b a p))
    (λ p. split (eqb a b)
    (λ r. inr (eqb-true a b r, rw (p, r) at e))
    (λ r. absurd (true≢false (sym (rw (p, r) at e)))))

pub not-above : (a b : ℕ) (n : Bool) → above a b n ≡ false → Above b a (n ≡ false)
not-above a b n e = split (ltb b a)
    (λ p. absurd (true≢false (rw p at e)))
    (λ p.
    let q = ltb-false b a p in
    split (eqb a b)
    (λ r. inr (sym (eqb-true a b r), rw (p, r) at e))
    (λ r. let d = eqb-false a b r in inl (omega arith)))

pub above-next : {P Q : Type 0} (a b : ℕ) → (P → Q) → Above a b P → Above a b Q
above-next a b f x = ⊎_elim (λ p. inl p) (λ p. inr (p.0, f p.1)) x

pub above-trans : {P Q R : Type 0} (a b c : ℕ) → (P → Q → R) → Above a b P → Above b c Q → Above a c R
above-trans a b c f x y =
    ⊎_elim
    (λ p. ⊎_elim (λ q. inl (omega arith)) (λ q. inl (omega arith)) y)
    (λ p. ⊎_elim (λ q. inl (omega arith)) (λ q. inr (omega arith, f p.1 q.1)) y)
    x

pub above-once : {P Q : Type 0} (a b : ℕ) → (P → Q → ⊥) → Above a b P → Above b a Q → ⊥
above-once a b f x y =
    ⊎_elim
    (λ p. ⊎_elim (λ q. omega arith) (λ q. omega arith) y)
    (λ p. ⊎_elim (λ q. omega arith) (λ q. f p.1 q.1) y)
    x

pub above-yes : (a b : ℕ) (n : Bool) → b < a → above a b n ≡ true
above-yes a b n h = rw (lt-ltb b a h)

pub above_same : (a b : ℕ) (n : Bool) → a ≡ b → above a b n ≡ n
above_same a b n h = rw (le-ltb b a (omega arith), eq-eqb a b h)

pub above-no : (a b : ℕ) (n : Bool) → a < b → above a b n ≡ false
above-no a b n h = rw (le-ltb b a (omega arith), ne_eqb a b (λ e. omega arith))

pub above-last : (a b : ℕ) → above a b false ≡ ltb b a
above-last a b = split (eqb a b) (λ p. rw p (or-false (ltb b a))) (λ p. rw p (or-false (ltb b a)))
  where
    or-false : (x : Bool) → (x || false) ≡ x
    or-false true = refl
    or-false false = refl

-- ---- a list gone through from the left

module _ {A B : Type 0} where
  -- one more at the end
  pub foldl-snoc : (f : B → A → B) (y : B) (xs : List A) (x : A) {zs : List A} → zs ≡ xs ++ (x ∷ []) → foldl f y zs ≡ f (foldl f y xs) x
  foldl-snoc f y xs x e = ap (foldl f y) e ∙ go xs y
    where
      go : (us : List A) (b : B) → foldl f b (us ++ (x ∷ [])) ≡ f (foldl f b us) x
      go [] b = refl
      go (u ∷ us) b = go us (f b u)

  -- two steps that agree on what is met
  pub foldl-in
      : (P : A → Type 0) (f g : B → A → B)
      → ((y : B) (x : A) → P x → f y x ≡ g y x)
      → (xs : List A) (y : B)
      → All P xs
      → foldl f y xs ≡ foldl g y xs
  foldl-in P f g e [] y a = refl
  foldl-in P f g e (x ∷ xs) y a = foldl-in P f g e xs (f y x) a.1 ∙ ap (λ (z : B). foldl g z xs) (e y x a.0)

  -- the first n of what f makes
  pub map-take : (f : A → B) (n : ℕ) (xs : List A) → map f (take n xs) ≡ take n (map f xs)
  map-take f zero xs = refl
  map-take f (suc n) [] = refl
  map-take f (suc n) (x ∷ xs) = ap (λ (t : List B). f x ∷ t) (map-take f n xs)

pub length-insert : {A : Type 0} (before : A → A → Bool) (x : A) (xs : List A) → length (insert before x xs) ≡ suc (length xs)
length-insert before x [] = refl
length-insert before x (y ∷ ys) = split (before x y) (λ p. rw p) (λ p. rw p (ap suc (length-insert before x ys)))

-- ---- counts

-- 1 where a test passes
abbrev pub tally : Bool → ℕ
tally b = cond b 1 0

-- how many of a list pass
abbrev pub count : {A : Type 0} → (A → Bool) → List A → ℕ
count p xs = length (filter p xs)

module _ {A : Type 0} where
  pub count-cons : (p : A → Bool) (x : A) (xs : List A) → count p (x ∷ xs) ≡ tally (p x) + count p xs
  count-cons p x xs = go (p x)
    where
      go : (b : Bool) → length (cond b (x ∷ filter p xs) (filter p xs)) ≡ tally b + count p xs
      go true = omega arith
      go false = omega arith

  pub count-is : (p : A → Bool) (x : A) (xs : List A) (b : Bool) → p x ≡ b → count p (x ∷ xs) ≡ tally b + count p xs
  count-is p x xs b e = count-cons p x xs ∙ ap (λ (t : Bool). tally t + count p xs) e

  pub count-length : (p : A → Bool) (xs : List A) → count p xs ≤ length xs
  count-length p [] = omega arith
  count-length p (x ∷ xs) = split (p x) (λ q. omega (arith, count-is p x xs true q, count-length p xs)) (λ q. omega (arith, count-is p x xs false q, count-length p xs))

  -- all of a list pass
  pub count-all : (p : A → Bool) (xs : List A) → All (λ x. p x ≡ true) xs → count p xs ≡ length xs
  count-all p [] a = refl
  count-all p (x ∷ xs) a = omega (arith, count-is p x xs true a.0, count-all p xs a.1)

  -- tests that never pass together
  pub count-apart : (p q : A → Bool) → ((x : A) → p x ≡ true → q x ≡ false) → (xs : List A) → count p xs + count q xs ≤ length xs
  count-apart p q e [] = omega arith
  count-apart p q e (x ∷ xs) =
      let ih = count-apart p q e xs in
      split (p x)
      (λ h. omega (arith, ih, count-is p x xs true h, count-is q x xs false (e x h)))
      (λ h. split (q x)
      (λ k. omega (arith, ih, count-is p x xs false h, count-is q x xs true k))
      (λ k. omega (arith, ih, count-is p x xs false h, count-is q x xs false k)))

  pub any-counts : (p : A → Bool) (xs : List A) → any p xs ≡ true → 1 ≤ count p xs
  any-counts p [] e = absurd (false≢true e)
  any-counts p (x ∷ xs) e = split (p x) (λ q. omega (arith, count-is p x xs true q)) (λ q. omega (arith, count-is p x xs false q, any-counts p xs (rw q at e)))

  pub count-ext : (p q : A → Bool) → ((x : A) → p x ≡ q x) → (xs : List A) → count p xs ≡ count q xs
  count-ext p q e [] = refl
  count-ext p q e (x ∷ xs) = omega (arith, count-is p x xs (q x) (e x), count-cons q x xs, count-ext p q e xs)

  pub count-le : (p q : A → Bool) (xs : List A) → All (λ x. p x ≡ true → q x ≡ true) xs → count p xs ≤ count q xs
  count-le p q [] a = omega arith
  count-le p q (x ∷ xs) a = split (p x)
      (λ e. omega (arith, count-is p x xs true e, count-is q x xs true (a.0 e), count-le p q xs a.1))
      (λ e. omega (arith, count-is p x xs false e, count-cons q x xs, count-le p q xs a.1))

  pub count-append : (p : A → Bool) (xs ys : List A) → count p (xs ++ ys) ≡ count p xs + count p ys
  count-append p [] ys = omega arith
  count-append p (x ∷ xs) ys = omega (arith, count-cons p x (xs ++ ys), count-cons p x xs, count-append p xs ys)

  module _ (P : A → Type 0) where
    pub all_filter : (p : A → Bool) (xs : List A) → All P xs → All P (filter p xs)
    all_filter p [] a = tt
    all_filter p (x ∷ xs) a = split (p x) (λ q. rw q (a.0, all_filter p xs a.1)) (λ q. rw q (all_filter p xs a.1))

    pub all_append : (xs ys : List A) → All P xs → All P ys → All P (xs ++ ys)
    all_append [] ys a b = b
    all_append (x ∷ xs) ys a b = (a.0, all_append xs ys a.1 b)

    pub all-at : (xs before later : List A) (x : A) → All P xs → xs ≡ before ++ x ∷ later → P x
    all-at [] [] later x a e = absurd (nil≢cons e)
    all-at [] (b ∷ before) later x a e = absurd (nil≢cons e)
    all-at (y ∷ ys) [] later x a e = subst P (head-eq_of_cons-eq e) a.0
    all-at (y ∷ ys) (b ∷ before) later x a e = all-at ys before later x a.1 (tail-eq_of_cons-eq e)

    pub all_set : (xs : List A) (i : ℕ) (x : A) → P x → All P xs → All P (set xs i x)
    all_set [] i x p a = tt
    all_set (y ∷ ys) zero x p a = (p, a.1)
    all_set (y ∷ ys) (suc i) x p a = (a.0, all_set ys i x p a.1)

    pub all_take : (n : ℕ) (xs : List A) → All P xs → All P (take n xs)
    all_take zero xs a = tt
    all_take (suc n) [] a = tt
    all_take (suc n) (x ∷ xs) a = (a.0, all_take n xs a.1)

    pub all_insert : (before : A → A → Bool) (x : A) (ys : List A) → P x → All P ys → All P (insert before x ys)
    all_insert before x [] p a = (p, tt)
    all_insert before x (y ∷ ys) p a = split (before x y) (λ q. rw q (p, a)) (λ q. rw q (a.0, all_insert before x ys p a.1))

    pub all-sort : (before : A → A → Bool) (xs : List A) → All P xs → All P (sort_by before xs)
    all-sort before xs a = go [] xs tt a
      where
        go : (ys zs : List A) → All P ys → All P zs → All P (foldl (λ ys x. insert before x ys) ys zs)
        go ys [] a b = a
        go ys (z ∷ zs) a b = go (insert before z ys) zs (all_insert before z ys b.0 a) b.1

    -- a test that passes on all
    pub all_of : (p : A → Bool) → ((x : A) → p x ≡ true → P x) → (xs : List A) → all p xs ≡ true → All P xs
    all_of p f [] e = tt
    all_of p f (x ∷ xs) e = split (p x) (λ q. (f x q, all_of p f xs (rw q at e))) (λ q. absurd (false≢true (rw q at e)))

    -- what is kept passes
    pub all-kept : (p : A → Bool) → ((x : A) → p x ≡ true → P x) → (xs : List A) → All P (filter p xs)
    all-kept p f [] = tt
    all-kept p f (x ∷ xs) = split (p x) (λ q. rw q (f x q, all-kept p f xs)) (λ q. rw q (all-kept p f xs))

  pub all-to : (P Q : A → Type 0) → ((x : A) → P x → Q x) → (xs : List A) → All P xs → All Q xs
  all-to P Q f [] a = tt
  all-to P Q f (x ∷ xs) a = (f x a.0, all-to P Q f xs a.1)

  pub to-all : (P : A → Type 0) → ((x : A) → P x) → (xs : List A) → All P xs
  to-all P f [] = tt
  to-all P f (x ∷ xs) = (f x, to-all P f xs)

module _ {A B : Type 0} (P : B → Type 0) where
  pub all_map : (f : A → B) (xs : List A) → All (λ x. P (f x)) xs → All P (map f xs)
  all_map f [] a = tt
  all_map f (x ∷ xs) a = (a.0, all_map f xs a.1)

  pub all-concat : (f : A → List B) (xs : List A) → All (λ x. All P (f x)) xs → All P (concat_map f xs)
  all-concat f [] a = tt
  all-concat f (x ∷ xs) a = all_append P (f x) (concat_map f xs) a.0 (all-concat f xs a.1)

-- what f makes of the i-th
pub get_or-mapped : {A B : Type 0} (a : A) (b : B) (f : A → B) (xs : List A) (i : ℕ) → i < length xs → get_or (map f xs) i b ≡ f (get_or xs i a)
get_or-mapped a b f [] i h = absurd (omega arith)
get_or-mapped a b f (x ∷ xs) zero h = refl
get_or-mapped a b f (x ∷ xs) (suc i) h = get_or-mapped a b f xs i (omega arith)

-- two that make the same of each
pub map-in : {A B : Type 0} (f g : A → B) (xs : List A) → All (λ x. f x ≡ g x) xs → map f xs ≡ map g xs
map-in f g [] a = refl
map-in f g (x ∷ xs) a = rw (a.0, map-in f g xs a.1)

-- of those that q keeps, those that p passes by what f makes of them
pub count_kept : {A B : Type 0} (p : B → Bool) (f : A → B) (q : A → Bool) (xs : List A) → count p (map f (filter q xs)) ≡ count (λ x. q x && p (f x)) xs
count_kept p f q [] = refl
count_kept p f q (x ∷ xs) = split (q x)
    (λ e.
    let one : count p (map f (filter q (x ∷ xs))) ≡ tally (p (f x)) + count p (map f (filter q xs)) = rw e (count-cons p (f x) (map f (filter q xs))) in
    omega (arith, one, count_kept p f q xs, count-is (λ x. q x && p (f x)) x xs (p (f x)) (rw e)))
    (λ e. rw e (count_kept p f q xs))

-- i ≤ x < i + n
pub all-range : (P : ℕ → Type 0) (i n : ℕ) → ((x : ℕ) → i ≤ x → x < i + n → P x) → All P (range i n)
all-range P i zero f = tt
all-range P i (suc n) f = (f i (omega arith) (omega arith), all-range P (suc i) n (λ x h k. f x (omega arith) (omega arith)))

pub all_in : (P : ℕ → Type 0) (xs : List ℕ) (u : ℕ) → All P xs → elem u xs ≡ true → P u
all_in P [] u a e = absurd (false≢true e)
all_in P (x ∷ xs) u a e = split (eqb u x)
    (λ p. subst P (sym (eqb-true u x p)) a.0)
    (λ p. all_in P xs u a.1 (rw p at e))

pub length-range : (i n : ℕ) → length (range i n) ≡ n
length-range i zero = refl
length-range i (suc n) = ap suc (length-range (suc i) n)

-- ---- being in a list

pub elem-filter : (x : ℕ) (p : ℕ → Bool) (xs : List ℕ) → elem x (filter p xs) ≡ (p x && elem x xs)
elem-filter x p [] = split (p x) (λ q. rw q) (λ q. rw q)
elem-filter x p (y ∷ ys) = split (eqb x y)
    (λ e. let f : p y ≡ p x = ap p (sym (eqb-true x y e)) in
    split (p x) (λ q. simp (f, q, e)) (λ q. simp (f, q, e) (elem-filter x p ys ∙ rw q)))
    (λ e. split (p y) (λ q. simp (q, e) (elem-filter x p ys)) (λ q. simp (q, e) (elem-filter x p ys)))

pub elem-range : (x i n : ℕ) → i ≤ x → x < i + n → elem x (range i n) ≡ true
elem-range x i zero h k = absurd (omega arith)
elem-range x i (suc n) h k = split (eqb x i) (λ p. rw p) (λ p. let d = eqb-false x i p in rw p (elem-range x (suc i) n (omega arith) (omega arith)))

pub any_of : (p : ℕ → Bool) (xs : List ℕ) → any p xs ≡ true → (x : ℕ) × (elem x xs ≡ true) × (p x ≡ true)
any_of p [] e = absurd (false≢true e)
any_of p (x ∷ xs) e = split (p x)
    (λ q. (x, rw (eq-eqb x x refl), q))
    (λ q. let w = any_of p xs (rw q at e) in (w.0, split (eqb w.0 x) (λ r. rw r) (λ r. rw r w.1), w.2))

pub to-any : (p : ℕ → Bool) (xs : List ℕ) (x : ℕ) → elem x xs ≡ true → p x ≡ true → any p xs ≡ true
to-any p [] x e f = absurd (false≢true e)
to-any p (y ∷ ys) x e f = split (p y)
    (λ q. rw q)
    (λ q. rw q (to-any p ys x (split (eqb x y) (λ r. absurd (true≢false (sym f ∙ ap p (eqb-true x y r) ∙ q))) (λ r. rw r at e)) f))

module _ {A : Type 0} where
  pub any_none : (p : A → Bool) (xs : List A) → any p xs ≡ false → All (λ x. p x ≡ false) xs
  any_none p [] e = tt
  any_none p (x ∷ xs) e = split (p x) (λ q. absurd (true≢false (rw q at e))) (λ q. (q, any_none p xs (rw q at e)))

  pub none_any : (p : A → Bool) (xs : List A) → All (λ x. p x ≡ false) xs → any p xs ≡ false
  none_any p [] a = refl
  none_any p (x ∷ xs) a = rw a.0 (none_any p xs a.1)

pub elem-map : (x : ℕ) (f : ℕ → ℕ) (xs : List ℕ) → elem x (map f xs) ≡ any (λ u. eqb x (f u)) xs
elem-map x f [] = refl
elem-map x f (y ∷ ys) = ap (λ (b : Bool). cond (eqb x (f y)) true b) (elem-map x f ys)

pub elem-append : (x : ℕ) (xs ys : List ℕ) → elem x (xs ++ ys) ≡ (elem x xs || elem x ys)
elem-append x [] ys = refl
elem-append x (y ∷ xs) ys = split (eqb x y) (λ p. rw p) (λ p. rw p (elem-append x xs ys))

pub elem-concat : (x : ℕ) (f : ℕ → List ℕ) (xs : List ℕ) → elem x (concat_map f xs) ≡ any (λ v. elem x (f v)) xs
elem-concat x f [] = refl
elem-concat x f (y ∷ ys) = elem-append x (f y) (concat_map f ys) ∙ split (elem x (f y)) (λ p. rw p) (λ p. rw p (elem-concat x f ys))

-- nothing in range is kept: nothing in range passes
pub filter_none : (p : ℕ → Bool) (a n : ℕ) → filter p (range a n) ≡ [] → (v : ℕ) → a ≤ v → v < a + n → p v ≡ false
filter_none p a n e v h k = split (p v)
    (λ q. absurd (false≢true (ap (elem v) (sym e) ∙ elem-filter v p (range a n) ∙ and_i (p v) (elem v (range a n)) q (elem-range v a n h k))))
    (λ q. q)

pub filter-all : (p : ℕ → Bool) (xs : List ℕ) → All (λ x. p x ≡ true) xs → filter p xs ≡ xs
filter-all p [] a = refl
filter-all p (x ∷ xs) a = rw (a.0, filter-all p xs a.1)

pub none-filter : (p : ℕ → Bool) (xs : List ℕ) → All (λ x. p x ≡ false) xs → filter p xs ≡ []
none-filter p [] a = refl
none-filter p (x ∷ xs) a = rw a.0 (none-filter p xs a.1)

-- ---- the best of a list

module _ (b : ℕ → ℕ → Bool) where
  best-some : (x : ℕ) (xs : List ℕ) → best_from b (some x) xs ≡ none → ⊥
  best-some x [] e = let z : ◌≡◌ {A = ℕ} 0 1 = cc in omega arith
  best-some x (y ∷ ys) e = best-some (cond (b y x) y x) ys e

  pub best_none : (xs : List ℕ) → best b xs ≡ none → xs ≡ []
  best_none [] e = refl
  best_none (x ∷ xs) e = absurd (best-some x xs e)

  best-from : (P : ℕ → Type 0) (xs : List ℕ) (g : ℕ) (c : Option ℕ) → ((x : ℕ) → c ≡ some x → P x) → All P xs → best_from b c xs ≡ some g → P g
  best-from P [] g c h a e = h g e
  best-from P (x ∷ xs) g none h a e = best-from P xs g (some x) (λ y r. let z : x ≡ y = cc in subst P z a.0) a.1 e
  best-from P (x ∷ xs) g (some d) h a e =
      best-from P xs g (some (cond (b x d) x d)) (λ y r. split (b x d)
      (λ q. let z : x ≡ y = (let w : ◌≡◌ {A = Option ℕ} (some x) (some y) = rw q at r in cc) in subst P z a.0)
      (λ q. h y (rw q at r))) a.1 e

  -- what holds of all holds of the best
  pub best-all : (P : ℕ → Type 0) (xs : List ℕ) (g : ℕ) → All P xs → best b xs ≡ some g → P g
  best-all P xs g a e = best-from P xs g none (λ x r. let z : ◌≡◌ {A = ℕ} 0 1 = cc in absurd (omega arith)) a e

  -- the best of those kept passes the test
  pub best-kept : (p : ℕ → Bool) (xs : List ℕ) (g : ℕ) → best b (filter p xs) ≡ some g → p g ≡ true
  best-kept p xs g e = best-all (λ x. p x ≡ true) (filter p xs) g (all-kept (λ x. p x ≡ true) p (λ x q. q) xs) e

-- ---- sums from i on, n of them

unfoldable pub total : ℕ → ℕ → (ℕ → ℕ) → ℕ
total i zero f = 0
total i (suc n) f = f i + total (suc i) n f

pub total_ext : (i n : ℕ) (f h : ℕ → ℕ) → ((u : ℕ) → i ≤ u → u < i + n → f u ≡ h u) → total i n f ≡ total i n h
unfolding total
total_ext i zero f h e = refl
total_ext i (suc n) f h e = omega (arith, total_ext (suc i) n f h (λ u k l. e u (omega arith) (omega arith)), e i (omega arith) (omega arith))

pub total-add : (i n : ℕ) (f h : ℕ → ℕ) → total i n (λ u. f u + h u) ≡ total i n f + total i n h
unfolding total
total-add i zero f h = refl
total-add i (suc n) f h = omega (arith, total-add (suc i) n f h)

pub total-zero : (i n : ℕ) (f : ℕ → ℕ) → ((u : ℕ) → i ≤ u → u < i + n → f u ≡ 0) → total i n f ≡ 0
unfolding total
total-zero i zero f e = refl
total-zero i (suc n) f e = omega (arith, total-zero (suc i) n f (λ u k l. e u (omega arith) (omega arith)), e i (omega arith) (omega arith))

-- a sum of less is less
pub total-le : (i n : ℕ) (f h : ℕ → ℕ) → ((u : ℕ) → i ≤ u → u < i + n → f u ≤ h u) → total i n f ≤ total i n h
unfolding total
total-le i zero f h e = omega arith
total-le i (suc n) f h e = omega (arith, total-le (suc i) n f h (λ u k l. e u (omega arith) (omega arith)), e i (omega arith) (omega arith))

-- a sum of the same
pub total-same : (i n c : ℕ) → total i n (λ u. c) ≡ n * c
unfolding total
total-same i zero c = omega arith
total-same i (suc n) c = omega (arith, total-same (suc i) n c)

-- a sum in which only v counts
pub total-point : (i n v : ℕ) (f : ℕ → ℕ) → i ≤ v → v < i + n → total i n (λ u. cond (eqb u v) (f u) 0) ≡ f v
unfolding total
total-point i zero v f h k = absurd (omega arith)
total-point i (suc n) v f h k = split (eqb i v)
    (λ p. let e : i ≡ v = eqb-true i v p in
    let z : total (suc i) n (λ u. cond (eqb u v) (f u) 0) ≡ 0 = total-zero (suc i) n _ (λ u a b. rw (ne_eqb u v (λ q. omega arith)) refl) in
    rw (p, z, e) (omega arith))
    (λ p. let d = eqb-false i v p in
    rw (p, total-point (suc i) n v f (omega arith) (omega arith)) (omega arith))

-- what is left of a sum, as a loop meets it
pub total_left : (f : ℕ → ℕ) (v n : ℕ) → v < n → total v (n - v) f ≡ f v + total (v + 1) (n - (v + 1)) f
unfolding total
total_left f v n h =
    let e : n - v ≡ suc (n - (v + 1)) = omega arith in
    rw (e, add-one)

pub total-done : (f : ℕ → ℕ) (v n : ℕ) → n ≤ v → total v (n - v) f ≡ 0
unfolding total
total-done f v n h = let e : n - v ≡ 0 = omega arith in rw e

pub sum-total : (f : ℕ → ℕ) (i n : ℕ) → sum (map f (range i n)) ≡ total i n f
unfolding total
sum-total f i zero = refl
sum-total f i (suc n) = omega (arith, sum-total f (suc i) n)

pub count-concat : {A : Type 0} (p : A → Bool) (f : ℕ → List A) (i n : ℕ) → count p (concat_map f (range i n)) ≡ total i n (λ u. count p (f u))
unfolding total
count-concat p f i zero = refl
count-concat p f i (suc n) = omega (arith, count-append p (f i) (concat_map f (range (suc i) n)), count-concat p f (suc i) n)

-- counts and sums over a range, and sums in either order
pub count-range : (p : ℕ → Bool) (i n : ℕ) → count p (range i n) ≡ total i n (λ x. tally (p x))
unfolding total
count-range p i zero = refl
count-range p i (suc n) = omega (arith, count-cons p i (range (suc i) n), count-range p (suc i) n)

pub total-swap : (i m j n : ℕ) (f : ℕ → ℕ → ℕ) → total i m (λ x. total j n (λ y. f x y)) ≡ total j n (λ y. total i m (λ x. f x y))
unfolding total
total-swap i zero j n f = sym (total-zero j n (λ y. 0) (λ y h k. refl))
total-swap i (suc m) j n f = omega (arith, total-swap (suc i) m j n f, total-add j n (f i) (λ y. total (suc i) m (λ x. f x y)))

-- counted over a list, or over all numbers below n with how often each stands in it
pub counted-below : (t : ℕ → Bool) (n : ℕ) (l : List ℕ) → total 0 n (λ u. cond (t u) (count (eqb u) l) 0) ≡ count (λ u. t u && ltb u n) l
counted-below t n [] = total-zero 0 n _ (λ u h k. cond-zero (t u))
counted-below t n (w ∷ ws) =
    total_ext 0 n _ (λ u. here u + rest u) (λ u h k.
    let e = count-cons (eqb u) w ws in
    split (t u)
    (λ p. split (eqb u w) (λ q. simp (p, q) (omega arith)) (λ q. simp (p, q) (omega arith)))
    (λ p. split (eqb u w) (λ q. simp (p, q)) (λ q. simp (p, q))))
    ∙ total-add 0 n here rest
    ∙ ap (λ (x : ℕ). x + total 0 n rest) first
    ∙ ap (λ (x : ℕ). tally (t w && ltb w n) + x) (counted-below t n ws)
    ∙ sym (count-cons (λ u. t u && ltb u n) w ws)
  where
    here : ℕ → ℕ
    here u = cond (eqb u w) (tally (t u)) 0

    rest : ℕ → ℕ
    rest u = cond (t u) (count (eqb u) ws) 0

    first : total 0 n here ≡ tally (t w && ltb w n)
    first = split (ltb w n)
        (λ p. rw (p, and-true) (total-point 0 n w (λ u. tally (t u)) (omega arith) (omega (arith, ltb-true w n p))))
        (λ p. rw (p, and-false) (total-zero 0 n here (λ u h k. rw (ne_eqb u w (λ e. omega (arith, ltb-false w n p))))))

-- where all are below n
pub counted : (t : ℕ → Bool) (n : ℕ) (l : List ℕ) → All (λ u. u < n) l → total 0 n (λ u. cond (t u) (count (eqb u) l) 0) ≡ count t l
counted t n l a = counted-below t n l ∙ go l a
  where
    go : (l : List ℕ) → All (λ u. u < n) l → count (λ u. t u && ltb u n) l ≡ count t l
    go [] a = refl
    go (w ∷ ws) a =
        omega (arith, count-is (λ u. t u && ltb u n) w ws (t w) (rw (lt-ltb w n a.0) (and-true (t w))), count-cons t w ws, go ws a.1)

pub sum_ones : (n : ℕ) → sum (replicate n 1) ≡ n
sum_ones zero = refl
sum_ones (suc n) = omega (arith, sum_ones n)

-- ---- ends

-- a number at the end of a list
pub elem-this : (x : ℕ) (xs : List ℕ) → elem x (xs ++ (x ∷ [])) ≡ true
elem-this x xs = elem-append x xs (x ∷ []) ∙ rw (eq-eqb x x refl) (or-true (elem x xs))

pub filter-append : {A : Type 0} (p : A → Bool) (xs ys : List A) → filter p (xs ++ ys) ≡ filter p xs ++ filter p ys
filter-append p [] ys = refl
filter-append p (x ∷ xs) ys = split (p x) (λ e. rw (e, filter-append p xs ys)) (λ e. rw (e, filter-append p xs ys))

-- ---- one more of a list or of a range, as a loop over indices meets them

pub any-ext : (p q : ℕ → Bool) (i n : ℕ) → ((x : ℕ) → i ≤ x → x < i + n → p x ≡ q x) → any p (range i n) ≡ any q (range i n)
any-ext p q i zero e = refl
any-ext p q i (suc n) e = rw (e i (omega arith) (omega arith), any-ext p q (suc i) n (λ x h k. e x (omega arith) (omega arith)))

pub any-range : (p : ℕ → Bool) (i n : ℕ) → i < n → any p (range i (n - i)) ≡ cond (p i) true (any p (range (i + 1) (n - (i + 1))))
any-range p i n h =
    let e : n - i ≡ suc (n - (i + 1)) = omega arith in
    rw (e, add-one)

-- a test passes on none exactly when it counts none
pub none-counts : {A : Type 0} (p : A → Bool) (xs : List A) → eqb (count p xs) 0 ≡ not (any p xs)
none-counts p [] = refl
none-counts p (x ∷ xs) = split (p x) (λ q. rw q (ne_eqb (suc (count p xs)) 0 (λ e. omega arith))) (λ q. rw q (none-counts p xs))

module _ {A : Type 0} (xs : List A) (i : ℕ) (d : A) (h : i < length xs) where
  pub any-drop : (p : A → Bool) → any p (drop i xs) ≡ cond (p (get_or xs i d)) true (any p (drop (i + 1) xs))
  any-drop p = rw (add-one, drop-cons xs i d)

  pub count-drop : (p : A → Bool) → count p (drop i xs) ≡ tally (p (get_or xs i d)) + count p (drop (i + 1) xs)
  count-drop p = rw (add-one, drop-cons xs i d) (count-cons p (get_or xs i d) (drop (suc i) xs))

  pub all-get_or : (P : A → Type 0) → All P xs → P (get_or xs i d)
  all-get_or P a = all-at P xs (take i xs) (drop (suc i) xs) (get_or xs i d) a (split_at xs i d h)

pub sum-append : (xs ys : List ℕ) → sum (xs ++ ys) ≡ sum xs + sum ys
sum-append [] ys = omega arith
sum-append (x ∷ xs) ys = omega (arith, sum-append xs ys)

-- numbers gone through from i on: whether one passes, and their sum
module _ (xs : List ℕ) (i : ℕ) (h : i < length xs) where
  pub any-yes : (p : ℕ → Bool) → p (at xs i) ≡ true → any p (drop i xs) ≡ true
  any-yes p e = any-drop xs i 0 h p ∙ rw e

  pub any-no : (p : ℕ → Bool) → p (at xs i) ≡ false → any p (drop i xs) ≡ any p (drop (i + 1) xs)
  any-no p e = any-drop xs i 0 h p ∙ rw e

  pub sum_drop : sum (drop i xs) ≡ at xs i + sum (drop (i + 1) xs)
  sum_drop = rw (add-one, drop-cons xs i 0)

  pub sum-take : sum (take (i + 1) xs) ≡ sum (take i xs) + at xs i
  sum-take = rw (add-one, take-suc xs i 0 h) (sum-append (take i xs) (at xs i ∷ []) ∙ omega arith)

pub elem-take : (x : ℕ) (xs : List ℕ) (i : ℕ) → i < length xs → elem x (take (i + 1) xs) ≡ (elem x (take i xs) || eqb x (get_or xs i 0))
elem-take x xs i h = rw (add-one, take-suc xs i 0) (elem-append x (take i xs) (get_or xs i 0 ∷ []) ∙ split (eqb x (get_or xs i 0)) (λ p. rw p) (λ p. rw p))

-- ---- the greatest

pub greatest-bounds : (f : ℕ → ℕ) (xs : List ℕ) → All (λ x. f x ≤ greatest (map f xs)) xs
greatest-bounds f [] = tt
greatest-bounds f (x ∷ xs) =
    (omega arith, all-to (λ y. f y ≤ greatest (map f xs)) (λ y. f y ≤ max (f x) (greatest (map f xs))) (λ y h. omega arith) xs (greatest-bounds f xs))

pub greatest-least : (f : ℕ → ℕ) (xs : List ℕ) (m : ℕ) → ((a : ℕ) → a < length xs → f (at xs a) ≤ m) → greatest (map f xs) ≤ m
greatest-least f [] m h = omega arith
greatest-least f (x ∷ xs) m h = omega (arith, h 0 (omega arith), greatest-least f xs m (λ a k. h (suc a) (omega arith)))

pub greatest-is
    : (f : ℕ → ℕ) (xs : List ℕ) (m p : ℕ)
    → ((a : ℕ) → a < length xs → f (at xs a) ≤ m)
    → p < length xs
    → f (at xs p) ≡ m
    → greatest (map f xs) ≡ m
greatest-is f xs m p h k e = omega (arith, greatest-least f xs m h, all-get_or xs p 0 k (λ x. f x ≤ greatest (map f xs)) (greatest-bounds f xs), e)
