-- Laws of ranges: what they end with, what passes a test among them, and rising lists as such. Assumes nothing.
use Prim.Native.Nat.{ℕ, zero, suc, ◌+◌, ◌-◌, ◌≤◌, ◌<◌}
use mathlib.Core.Path.{◌≡◌, refl, sym, ap, ◌∙◌}
use mathlib.Core.Bool.{Bool, true, false, cond, false≢true}
use mathlib.Core.List.{List, [], ◌∷◌, ◌++◌, append_assoc}
use native.Mathlib.Omega.{arith}
use native.Mathlib.Numerals.{add-one}
use lib.Dec.{ltb, eqb}
use lib.ListN.{length}
use borrow.Author.Tests.{lt-ltb, ltb-true, ne_eqb, eqb-true, eqb-false}
use Rattle.links.specs.Lists.{at, All, filter, any, all, range, elem, concat_map}
use Rattle.links.specs.Graph.{strictly_rising}
use Rattle.links.proofs.ListLaws.{split, all_of, all_in, any_none, any-range, elem-range, count, count-cons, count-is}

pub filter-ext : (p q : ℕ → Bool) (i n : ℕ) → ((x : ℕ) → i ≤ x → x < i + n → p x ≡ q x) → filter p (range i n) ≡ filter q (range i n)
filter-ext p q i zero e = refl
filter-ext p q i (suc n) e = rw (e i (omega arith) (omega arith), filter-ext p q (suc i) n (λ x h k. e x (omega arith) (omega arith)))

pub range_at : (a n i : ℕ) → i < n → at (range a n) i ≡ a + i
range_at a zero i h = absurd (omega arith)
range_at a (suc n) zero h = omega arith
range_at a (suc n) (suc i) h = range_at (suc a) n i (omega arith) ∙ omega arith

-- cut in two
pub range-join : (i a b n m : ℕ) → n ≡ a + b → m ≡ i + a → range i n ≡ range i a ++ range m b
range-join i zero b n m h k =
    let e : n ≡ b = omega arith in
    let d : m ≡ i = omega arith in
    rw (e, d)
range-join i (suc a) b n m h k =
    let e : n ≡ suc (a + b) = omega arith in
    rw e (ap (λ (l : List ℕ). i ∷ l) (range-join (suc i) a b (a + b) m refl (omega arith)))

-- one more at the end
pub range_snoc : (i n m : ℕ) → m ≡ i + n → range i (suc n) ≡ range i n ++ (m ∷ [])
range_snoc i n m e = range-join i n 1 (suc n) m (omega arith) e

-- how many of a list pass, by its places
pub count-places : (p : ℕ → Bool) (xs : List ℕ) → count p xs ≡ count (λ i. p (at xs i)) (range 0 (length xs))
count-places p xs = go xs (at xs) 0 (λ j h. ap (at xs) (omega arith))
  where
    go : (ys : List ℕ) (f : ℕ → ℕ) (i : ℕ) → ((j : ℕ) → j < length ys → f (i + j) ≡ at ys j) → count p ys ≡ count (λ j. p (f j)) (range i (length ys))
    go [] f i h = refl
    go (y ∷ ys) f i h =
        let e : f i ≡ y = ap f (omega arith) ∙ h 0 (omega arith) in
        omega (arith, count-cons p y ys, count-is (λ j. p (f j)) i (range (suc i) (length ys)) (p y) (ap p e), go ys f (suc i) (λ j k. ap f (omega arith) ∙ h (suc j) (omega arith)))

pub concat-append : {A B : Type 0} (f : A → List B) (xs ys : List A) → concat_map f (xs ++ ys) ≡ concat_map f xs ++ concat_map f ys
concat-append f [] ys = refl
concat-append f (x ∷ xs) ys = rw (concat-append f xs ys, append_assoc)

-- all are above a number below their start
all_above : (x i n : ℕ) → x < i → all (ltb x) (range i n) ≡ true
all_above x i zero h = refl
all_above x i (suc n) h = rw (lt-ltb x i h) (all_above x (suc i) n (omega arith))

all-filter-true : (p q : ℕ → Bool) (xs : List ℕ) → all q xs ≡ true → all q (filter p xs) ≡ true
all-filter-true p q [] e = refl
all-filter-true p q (x ∷ xs) e = split (q x)
    (λ h. split (p x) (λ k. rw (k, h) (all-filter-true p q xs (rw h at e))) (λ k. rw k (all-filter-true p q xs (rw h at e))))
    (λ h. absurd (false≢true (rw h at e)))

-- what passes a test among a range rises
pub filter-rises : (p : ℕ → Bool) (i n : ℕ) → strictly_rising (filter p (range i n)) ≡ true
filter-rises p i zero = refl
filter-rises p i (suc n) = split (p i)
    (λ h. rw (h, all-filter-true p (ltb i) (range (suc i) n) (all_above i (suc i) n (omega arith))) (filter-rises p (suc i) n))
    (λ h. rw h (filter-rises p (suc i) n))

-- a rising list stays so with a greater one at its end
pub rises-snoc : (xs : List ℕ) (w : ℕ) → strictly_rising xs ≡ true → All (λ x. x < w) xs → strictly_rising (xs ++ (w ∷ [])) ≡ true
rises-snoc [] w e a = refl
rises-snoc (x ∷ xs) w e a = split (all (ltb x) xs)
    (λ h. rw (more xs h) (rises-snoc xs w (rw h at e) a.1))
    (λ h. absurd (false≢true (rw h at e)))
  where
    more : (ys : List ℕ) → all (ltb x) ys ≡ true → all (ltb x) (ys ++ (w ∷ [])) ≡ true
    more [] k = rw (lt-ltb x w a.0)
    more (y ∷ ys) k = split (ltb x y) (λ q. rw q (more ys (rw q at k))) (λ q. absurd (false≢true (rw q at k)))

-- a number at most the head of a rising list is not in its rest
low-out : (u : ℕ) (xs : List ℕ) → all (ltb u) xs ≡ true → elem u xs ≡ false
low-out u [] e = refl
low-out u (x ∷ xs) e = split (ltb u x)
    (λ h. rw (ne_eqb u x (λ q. omega (arith, ltb-true u x h))) (low-out u xs (rw h at e)))
    (λ h. absurd (false≢true (rw h at e)))

head-out : (u x : ℕ) (xs : List ℕ) → u < x → all (ltb x) xs ≡ true → elem u (x ∷ xs) ≡ false
head-out u x xs h e = rw (ne_eqb u x (λ q. omega arith)) (low-out u xs (weaker xs e))
  where
    weaker : (ys : List ℕ) → all (ltb x) ys ≡ true → all (ltb u) ys ≡ true
    weaker [] k = refl
    weaker (y ∷ ys) k = split (ltb x y)
        (λ q. rw (lt-ltb u y (omega (arith, ltb-true x y q))) (weaker ys (rw q at k)))
        (λ q. absurd (false≢true (rw q at k)))

-- a rising list is what the range has of it
pub rising-filter
    : (n i : ℕ) (xs : List ℕ) → strictly_rising xs ≡ true → All (λ x. (i ≤ x) × (x < i + n)) xs → filter (λ u. elem u xs) (range i n) ≡ xs
rising-filter zero i [] r a = refl
rising-filter zero i (x ∷ xs) r a = absurd (omega (arith, a.0.0, a.0.1))
rising-filter (suc n) i [] r a = rising-filter n (suc i) [] r tt
rising-filter (suc n) i (x ∷ xs) r a = split (all (ltb x) xs)
    (λ h.
    let later : All (λ y. x < y) xs = all_of (λ y. x < y) (ltb x) (λ y q. ltb-true x y q) xs h in
    split (eqb i x)
    (λ q.
    let e : i ≡ x = eqb-true i x q in
    let rest : All (λ y. (suc i ≤ y) × (y < suc i + n)) xs = both xs a.1 later e in
    let same : filter (λ u. elem u (x ∷ xs)) (range (suc i) n) ≡ filter (λ u. elem u xs) (range (suc i) n) =
    filter-ext (λ u. elem u (x ∷ xs)) (λ u. elem u xs) (suc i) n (λ u k l. rw (ne_eqb u x (λ z. omega arith))) in
    rw q (ap (λ (l : List ℕ). i ∷ l) (same ∙ rising-filter n (suc i) xs (rw h at r) rest) ∙ ap (λ (z : ℕ). z ∷ xs) e))
    (λ q.
    let out : elem i (x ∷ xs) ≡ false = head-out i x xs (lower q) h in
    let rest : All (λ y. (suc i ≤ y) × (y < suc i + n)) (x ∷ xs) = ((lower q, omega (arith, a.0.1)), above xs a.1 later) in
    rw out (rising-filter n (suc i) (x ∷ xs) r rest)))
    (λ h. absurd (false≢true (rw h at r)))
  where
    lower : eqb i x ≡ false → i < x
    lower q = let d = eqb-false i x q in omega (arith, a.0.0)

    both : (ys : List ℕ) → All (λ y. (i ≤ y) × (y < i + suc n)) ys → All (λ y. x < y) ys → i ≡ x → All (λ y. (suc i ≤ y) × (y < suc i + n)) ys
    both [] b c e = tt
    both (y ∷ ys) b c e = ((omega (arith, c.0), omega (arith, b.0.1)), both ys b.1 c.1 e)

    above : (ys : List ℕ) → All (λ y. (i ≤ y) × (y < i + suc n)) ys → All (λ y. x < y) ys → All (λ y. (suc i ≤ y) × (y < suc i + n)) ys
    above [] b c = tt
    above (y ∷ ys) b c = ((omega (arith, a.0.0, c.0), omega (arith, b.0.1)), above ys b.1 c.1)

-- ---- a test over a range, place by place

module _ (p : ℕ → Bool) (k i : ℕ) (h : i < k) where
  all_head : all p (range i (k - i)) ≡ cond (p i) (all p (range (i + 1) (k - (i + 1)))) false
  all_head = let e : k - i ≡ suc (k - (i + 1)) = omega arith in rw (e, add-one)

  pub all_more : p i ≡ true → all p (range (i + 1) (k - (i + 1))) ≡ all p (range i (k - i))
  all_more e = sym (all_head ∙ rw e)

  pub all-ends : p i ≡ false → false ≡ all p (range i (k - i))
  all-ends e = sym (all_head ∙ rw e)

  pub any-more : p i ≡ false → any p (range (i + 1) (k - (i + 1))) ≡ any p (range i (k - i))
  any-more e = sym (any-range p i k h ∙ rw e)

  pub any-ends : p i ≡ true → true ≡ any p (range i (k - i))
  any-ends e = sym (any-range p i k h ∙ rw e)

pub all_done : (p : ℕ → Bool) (k i : ℕ) → k ≤ i → all p (range i (k - i)) ≡ true
all_done p k i h = let e : k - i ≡ 0 = omega arith in rw e

pub any-done : (p : ℕ → Bool) (k i : ℕ) → k ≤ i → false ≡ any p (range i (k - i))
any-done p k i h = let e : k - i ≡ 0 = omega arith in rw e

-- where none passes, this one does not
pub none_passes : (p : ℕ → Bool) (n : ℕ) → any p (range 0 n) ≡ false → (i : ℕ) → i < n → p i ≡ false
none_passes p n e i h = all_in (λ x. p x ≡ false) (range 0 n) i (any_none p (range 0 n) e) (elem-range i 0 n (omega arith) (omega arith))
