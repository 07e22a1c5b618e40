-- Laws of parts: their length and elements, a part that comes back, a store seen through a part, a part that is filled, and the frame.
-- Assumes nothing.
use Prim.Native.Nat.{ℕ, zero, suc, ◌+◌, ◌-◌, ◌≤◌, ◌<◌, min}
use mathlib.Core.Path.{◌≡◌, refl, sym, ap, ◌∙◌}
use mathlib.Core.Bool.{cond}
use mathlib.Core.List.{List, [], ◌∷◌, ◌++◌, append_assoc, append-nil}
use mathlib.Core.Logic.{⊎_elim}
use native.Mathlib.Omega.{arith}
use native.Mathlib.Nat.{eq-or-lt_of_le, le_of_suc-le-suc}
use native.Mathlib.Numerals.{add-one}
use lib.Dec.{leb, eqb}
use lib.ListN.{length, get_or, take, drop, set, length-append, replicate, length-replicate, get_or-replicate, length-take, length-drop, length-set, take-append-drop, drop_of_length-le, get_or-append}
use lib.Seq.{take-suc-set, get_or-set_same, get_or-set_other, take_at, drop_at, length-take-le, get_or-take, get_or-drop, drop-set-add, take-set-lt, set_at, drop-cons, get_or-append-add, ext_get_or, drop-set-lt, take-set-le, get_or_at, drop-length, take-suc, take_all, drop-nil}
use borrow.Author.Tests.{leb-true, leb-false, eqb-true, eqb-false}
use Rattle.links.specs.Lists.{at}
use Rattle.links.specs.Parts.{part, put_back, copied, filled_part, copied_part, table, Kept}
use Rattle.links.proofs.ListLaws.{split}

-- ---- a part that is read

-- its length
pub length_part : (w : List ℕ) (a e : ℕ) → a ≤ e → e ≤ length w → length (part w a e) ≡ e - a
length_part w a e h k = length-take-le (e - a) (drop a w) (simp length-drop (omega arith))

-- its elements
pub get_or-part : (w : List ℕ) (a e i : ℕ) → i < e - a → get_or (part w a e) i 0 ≡ get_or w (a + i) 0
get_or-part w a e i h = rw (get_or-take, get_or-drop)

-- two lists as long, which agree at each index from b up to f, have the same part there
pub part-agree : (v w : List ℕ) (b f : ℕ) → length v ≡ length w → ((i : ℕ) → b ≤ i → i < f → get_or v i 0 ≡ get_or w i 0) → part v b f ≡ part w b f
part-agree v w b f l h =
    ext_get_or 0 (part v b f) (part w b f) (simp (length-take, length-drop, l))
    (λ i m.
    let m' : i < f - b = omega (arith, simp (length-take, length-drop) at m) in
    rw (get_or-part v b f i m', get_or-part w b f i m') (h (b + i) (omega arith) (omega arith)))

least : (f b n l : ℕ) → f ≤ n → min (f - b) (min n l - b) ≡ min (f - b) (l - b)
least f b n l h = omega arith

short : (i n l : ℕ) → i < min n l → i < n
short i n l h = omega arith

-- a part of a part
pub part-part : (w : List ℕ) (a e b f : ℕ) → f ≤ e - a → part (part w a e) b f ≡ part w (a + b) (a + f)
part-part w a e b f h =
    ext_get_or 0 (part (part w a e) b f) (part w (a + b) (a + f))
    (let s : a + f - (a + b) ≡ f - b = omega arith in
    let t : length w - (a + b) ≡ length w - a - b = omega arith in
    simp (length-take, length-drop, s, t) (least f b (e - a) (length w - a) h))
    (λ i m.
    let m' : i < f - b = short i (f - b) (length (drop b (part w a e))) (rw length-take at m) in
    let p : a + (b + i) ≡ a + b + i = omega arith in
    let q : i < a + f - (a + b) = omega arith in
    get_or-part (part w a e) b f i m' ∙ get_or-part w a e (b + i) (omega arith) ∙ rw (p, get_or-part w (a + b) (a + f) i q))

-- ---- a part that comes back

module _ (w : List ℕ) (a e : ℕ) (ys : List ℕ) (h : a ≤ e) (k : e ≤ length w) (l : length ys ≡ e - a) where
  pub length-put_back : length (put_back w a e ys) ≡ length w
  length-put_back = simp (length-append, length-drop, length-take-le a w (omega arith)) (omega arith)

  front : length (take a w) ≡ a
  front = length-take-le a w (omega arith)

  -- the part itself
  pub part-put_back : part (put_back w a e ys) a e ≡ ys
  part-put_back = rw (drop_at (take a w) (ys ++ drop (e - a) (drop a w)) a front, take_at ys (drop (e - a) (drop a w)) (e - a) l)

  -- an element before it, in it, after it
  pub get_or-put_back-before : (i : ℕ) → i < a → get_or (put_back w a e ys) i 0 ≡ get_or w i 0
  get_or-put_back-before i m = rw (get_or-append (take a w) (ys ++ drop (e - a) (drop a w)) 0 i (rw front (omega arith)), get_or-take a w i 0 m)

  pub get_or-put_back-in : (i : ℕ) → i < e - a → get_or (put_back w a e ys) (a + i) 0 ≡ get_or ys i 0
  get_or-put_back-in i m =
      let q : get_or (put_back w a e ys) (length (take a w) + i) 0 ≡ get_or (ys ++ drop (e - a) (drop a w)) i 0 = get_or-append-add (take a w) (ys ++ drop (e - a) (drop a w)) i 0 in
      let r : get_or (ys ++ drop (e - a) (drop a w)) i 0 ≡ get_or ys i 0 = get_or-append ys (drop (e - a) (drop a w)) 0 i (omega arith) in
      (rw front at q) ∙ r

  pub get_or-put_back-after : (i : ℕ) → e ≤ i → get_or (put_back w a e ys) i 0 ≡ get_or w i 0
  get_or-put_back-after i m =
      let q : get_or (put_back w a e ys) (length (take a w) + (length ys + (i - e))) 0 ≡ get_or (ys ++ drop (e - a) (drop a w)) (length ys + (i - e)) 0 = get_or-append-add (take a w) (ys ++ drop (e - a) (drop a w)) (length ys + (i - e)) 0 in
      let j : length (take a w) + (length ys + (i - e)) ≡ i = rw (front, l) (omega arith) in
      let t : a + (e - a + (i - e)) ≡ i = omega arith in
      (rw j at q) ∙ rw (get_or-append-add ys (drop (e - a) (drop a w)) (i - e) 0, get_or-drop, get_or-drop, t)

module _ (w : List ℕ) (a e : ℕ) (ys : List ℕ) (h : a ≤ e) (k : e ≤ length w) (l : length ys ≡ e - a) where
  -- a part before it, and after it, is as it was
  pub part-put_back-before : (b f : ℕ) → f ≤ a → part (put_back w a e ys) b f ≡ part w b f
  part-put_back-before b f m = part-agree (put_back w a e ys) w b f (length-put_back w a e ys h k l) (λ i p q. get_or-put_back-before w a e ys h k l i (omega arith))

  pub part-put_back-after : (b f : ℕ) → e ≤ b → part (put_back w a e ys) b f ≡ part w b f
  part-put_back-after b f m = part-agree (put_back w a e ys) w b f (length-put_back w a e ys h k l) (λ i p q. get_or-put_back-after w a e ys h k l i (omega arith))

  -- a second one in the same place
  pub put_back-put_back : (zs : List ℕ) → put_back (put_back w a e ys) a e zs ≡ put_back w a e zs
  put_back-put_back zs =
      let q : drop (e - a) (drop a (put_back w a e ys)) ≡ drop (e - a) (drop a w) = rw (drop_at (take a w) (ys ++ drop (e - a) (drop a w)) a (front w a e ys h k l), drop_at ys (drop (e - a) (drop a w)) (e - a) l) in
      rw (q, take_at (take a w) (ys ++ drop (e - a) (drop a w)) a (front w a e ys h k l))

-- what is there, put back there
pub put_back-part : (w : List ℕ) (a e : ℕ) → put_back w a e (part w a e) ≡ w
put_back-part w a e = rw (take-append-drop (e - a) (drop a w), take-append-drop a w)

-- a store through a part is a store
pub put_back-set : (w : List ℕ) (a e i v : ℕ) → a ≤ e → e ≤ length w → i < e - a → put_back w a e (set (part w a e) i v) ≡ set w (a + i) v
put_back-set w a e i v h k m =
    rw (← take-set-lt (e - a) (drop a w) i v m, ← drop-set-lt (e - a) (drop a w) i v m, take-append-drop (e - a) (set (drop a w) i v), ← drop-set-add a w i v, ← take-set-le a w (a + i) v (omega arith), take-append-drop a (set w (a + i) v))

-- ---- a store, seen through a part

-- a store in a part
pub part-set-in : (w : List ℕ) (a e i x : ℕ) → a ≤ e → e ≤ length w → i < e - a → part (set w (a + i) x) a e ≡ set (part w a e) i x
part-set-in w a e i x h k m =
    ap (λ (z : List ℕ). part z a e) (sym (put_back-set w a e i x h k m))
    ∙ part-put_back w a e (set (part w a e) i x) h k (length-set (part w a e) i x ∙ length_part w a e h k)

-- a store before, or after
pub part-set-before : (w : List ℕ) (a e j x : ℕ) → j < a → part (set w j x) a e ≡ part w a e
part-set-before w a e j x h = part-agree (set w j x) w a e (length-set w j x) (λ i p q. get_or-set_other w j i x 0 (λ z. omega arith))

pub part-set-after : (w : List ℕ) (a e j x : ℕ) → e ≤ j → part (set w j x) a e ≡ part w a e
part-set-after w a e j x h = part-agree (set w j x) w a e (length-set w j x) (λ i p q. get_or-set_other w j i x 0 (λ z. omega arith))

-- a store at the end of a part makes it longer
pub part-set-end : (w : List ℕ) (a g x : ℕ) → a + g < length w → part (set w (a + g) x) a (a + (g + 1)) ≡ part w a (a + g) ++ (x ∷ [])
part-set-end w a g x h =
    let e : a + (g + 1) - a ≡ suc g = omega arith in
    let e' : a + g - a ≡ g = omega arith in
    rw (e, e', drop-set-add a w g x) (take-suc-set (drop a w) g x (simp length-drop (omega arith)))

-- ---- a part that is filled

-- a list made from a rule
pub length-table : (f : ℕ → ℕ) (n : ℕ) → length (table f n) ≡ n
length-table f zero = refl
length-table f (suc n) = rw (length-append, length-table f n) (omega arith)

pub table-ext : (f g : ℕ → ℕ) (n : ℕ) → ((i : ℕ) → i < n → f i ≡ g i) → table f n ≡ table g n
table-ext f g zero h = refl
table-ext f g (suc n) h = rw (table-ext f g n (λ i m. h i (omega arith)), h n (omega arith))

pub get_or-table : (f : ℕ → ℕ) (n i : ℕ) → i < n → get_or (table f n) i 0 ≡ f i
get_or-table f zero i h = absurd (omega arith)
get_or-table f (suc n) i h =
    ⊎_elim
    (λ q. ap (λ (k : ℕ). get_or (table f n ++ (f n ∷ [])) k 0) q ∙ get_or_at (table f n) (f n) [] 0 n (length-table f n) ∙ ap f (sym q))
    (λ m. get_or-append (table f n) (f n ∷ []) 0 i (rw (length-table f n) m) ∙ get_or-table f n i m)
    (eq-or-lt_of_le (le_of_suc-le-suc h))

pub table-zero : (f : ℕ → ℕ) (n : ℕ) → ((i : ℕ) → i < n → f i ≡ 0) → table f n ≡ replicate n 0
table-zero f n h = ext_get_or 0 (table f n) (replicate n 0) (length-table f n ∙ sym (length-replicate n 0))
    (λ i l. let k = length-table f n in get_or-table f n i (omega arith) ∙ h i (omega arith) ∙ sym (get_or-replicate n i 0 0 (omega arith)))

-- a loop that writes x at one place
pub table-set : (f g : ℕ → ℕ) (n o x : ℕ) → ((i : ℕ) → i < n → g i ≡ cond (eqb i o) x (f i)) → set (table f n) o x ≡ table g n
table-set f g n o x h = ext_get_or 0 (set (table f n) o x) (table g n) (size ∙ sym (length-table g n)) (λ i l. each i (rw size at l))
  where
    size : length (set (table f n) o x) ≡ n
    size = length-set (table f n) o x ∙ length-table f n

    each : (i : ℕ) → i < n → at (set (table f n) o x) i ≡ at (table g n) i
    each i l =
        let there = get_or-table g n i l ∙ h i l in
        split (eqb i o)
        (λ p.
        let e : i ≡ o = eqb-true i o p in
        rw e (get_or-set_same (table f n) o x 0 (omega (arith, length-table f n))) ∙ sym (rw p at there))
        (λ p. get_or-set_other (table f n) o i x 0 (eqb-false i o p) ∙ get_or-table f n i l ∙ sym (rw p at there))

-- and one that adds x there
pub table-add : (f g : ℕ → ℕ) (n o x : ℕ) → ((i : ℕ) → i < n → g i ≡ f i + cond (eqb i o) x 0) → set (table f n) o (at (table f n) o + x) ≡ table g n
table-add f g n o x h = table-set f g n o (at (table f n) o + x)
    (λ i l. h i l ∙ split (eqb i o)
    (λ p. let e : at (table f n) o ≡ f i = sym (ap (at (table f n)) (eqb-true i o p)) ∙ get_or-table f n i l in rw p (omega (arith, e)))
    (λ p. rw p (omega arith)))

-- a loop that fills from the front
pub fill : (f : ℕ → ℕ) (d : List ℕ) (i : ℕ) → i < length d → set (table f i ++ drop i d) i (f i) ≡ table f (i + 1) ++ drop (i + 1) d
fill f d i h =
    rw (drop-cons d i 0 h, set_at (table f i) (get_or d i 0) (drop (suc i) d) (f i) i (length-table f i), add-one i, append_assoc (table f i) (f i ∷ []) (drop (suc i) d))

-- and its end
pub fill_done : (f : ℕ → ℕ) (d : List ℕ) (i : ℕ) → i ≡ length d → table f i ++ drop i d ≡ table f (length d)
fill_done f d i q = rw (q, drop-length d, append-nil)

-- a loop that copies from the front
pub copy_more : (s d : List ℕ) (i : ℕ) → i < length s → i < length d → set (take i s ++ drop i d) i (at s i) ≡ take (i + 1) s ++ drop (i + 1) d
copy_more s d i h k =
    let l : length (take i s) ≡ i = length-take-le i s (omega arith) in
    rw (drop-cons d i 0 k, set_at (take i s) (at d i) (drop (suc i) d) (at s i) i l, add-one i, take-suc s i 0 h, append_assoc (take i s) (at s i ∷ []) (drop (suc i) d))

-- and its end
pub copy_done : (s d : List ℕ) → take (min (length s) (length d)) s ++ drop (min (length s) (length d)) d ≡ copied d s
unfolding copied
copy_done s d = split (leb (length s) (length d))
    (λ p. let e : min (length s) (length d) ≡ length s = omega (arith, leb-true (length s) (length d) p) in
    rw (e, take_all (length s) s (omega arith), take_all (length d) s (leb-true (length s) (length d) p)))
    (λ p. let e : min (length s) (length d) ≡ length d = omega (arith, leb-false (length s) (length d) p) in
    rw (e, drop_of_length-le d {i = length d} (omega arith), drop_of_length-le d {i = length s} (omega (arith, leb-false (length s) (length d) p))))

-- a part that reaches past the end is what there is of it, and so is what it leaves
module _ (w : List ℕ) (a e : ℕ) where
  less : (m n : ℕ) → m ≤ n → min m n ≡ m
  less m n h = omega arith

  clip-part : part w a (min e (length w)) ≡ part w a e
  clip-part = split (leb e (length w))
      (λ p. ap (part w a) (less e (length w) (leb-true e (length w) p)))
      (λ p. let h : length w < e = leb-false e (length w) p in
      take_all (min e (length w) - a) (drop a w) (simp length-drop (omega arith)) ∙ sym (take_all (e - a) (drop a w) (simp length-drop (omega arith))))

  clip-rest : drop (min e (length w) - a) (drop a w) ≡ drop (e - a) (drop a w)
  clip-rest = split (leb e (length w))
      (λ p. ap (λ (t : ℕ). drop (t - a) (drop a w)) (less e (length w) (leb-true e (length w) p)))
      (λ p. let h : length w < e = leb-false e (length w) p in
      drop_of_length-le (drop a w) {i = min e (length w) - a} (simp length-drop (omega arith)) ∙ sym (drop_of_length-le (drop a w) {i = e - a} (simp length-drop (omega arith))))

  pub clip : (f : List ℕ → List ℕ) → put_back w a (min e (length w)) (f (part w a (min e (length w)))) ≡ put_back w a e (f (part w a e))
  clip f = rw (clip-part, clip-rest)

  -- and one of which there is nothing leaves all as it was
  pub clip-none : (f : List ℕ → List ℕ) → f [] ≡ [] → min e (length w) ≤ a → w ≡ put_back w a e (f (part w a e))
  clip-none f z h =
      let q : part w a (min e (length w)) ≡ [] = let o : min e (length w) - a ≡ 0 = omega arith in rw o in
      let r : drop (min e (length w) - a) (drop a w) ≡ drop a w = let o : min e (length w) - a ≡ 0 = omega arith in rw o in
      sym (take-append-drop a w) ∙ rw (sym clip-part ∙ q, z, sym clip-rest ∙ r)

-- what is filled, and what is copied, in a part that is there
pub filled_is : (w : List ℕ) (a e x : ℕ) → a ≤ e → e ≤ length w → filled_part w a e x ≡ put_back w a e (replicate (e - a) x)
unfolding filled_part
filled_is w a e x h k = ap (λ (n : ℕ). put_back w a e (replicate n x)) (length_part w a e h k)

pub copied_is : (d s : List ℕ) → length s ≤ length d → copied d s ≡ s ++ drop (length s) d
unfolding copied
copied_is d s h = rw (take_all (length d) s h)

pub copied_none : (s : List ℕ) → copied [] s ≡ []
unfolding copied
copied_none s = drop-nil (length s)

pub copied-part-is : (w : List ℕ) (a e : ℕ) (s : List ℕ) → a ≤ e → e ≤ length w → length s ≡ e - a → copied_part w a e s ≡ put_back w a e s
unfolding copied_part
copied-part-is w a e s h k l =
    let n : length (part w a e) ≡ length s = length_part w a e h k ∙ sym l in
    let q : copied (part w a e) s ≡ s = copied_is (part w a e) s (omega arith) ∙ rw (drop_of_length-le (part w a e) {i = length s} (omega arith), append-nil) in
    ap (put_back w a e) q

-- a part that is half filled is as long as it was
pub part_length : (w₀ : List ℕ) (a e : ℕ) (f : ℕ → ℕ) (i : ℕ) → a ≤ e → e ≤ length w₀ → i < e - a → length (table f i ++ drop i (part w₀ a e)) ≡ e - a
part_length w₀ a e f i h k m = simp (length-append, length-table, length-drop, length_part w₀ a e h k) (omega arith)

-- a part that is filled from the front, through loans of it for one store each
pub part_step : (w₀ w : List ℕ) (a e : ℕ) (f : ℕ → ℕ) (i x : ℕ) → a ≤ e → e ≤ length w₀ → i < e - a
    → w ≡ put_back w₀ a e (table f i ++ drop i (part w₀ a e)) → x ≡ f i
    → put_back w a e (set (part w a e) i x) ≡ put_back w₀ a e (table f (i + 1) ++ drop (i + 1) (part w₀ a e))
part_step w₀ w a e f i x h k m q r =
    let ys : List ℕ = table f i ++ drop i (part w₀ a e) in
    let l : length ys ≡ e - a = part_length w₀ a e f i h k m in
    ap (λ (v : List ℕ). put_back v a e (set (part v a e) i x)) q
    ∙ ap (λ (t : List ℕ). put_back (put_back w₀ a e ys) a e (set t i x)) (part-put_back w₀ a e ys h k l)
    ∙ put_back-put_back w₀ a e ys h k l (set ys i x)
    ∙ ap (λ (v : ℕ). put_back w₀ a e (set ys i v)) r
    ∙ ap (put_back w₀ a e) (fill f (part w₀ a e) i (rw (length_part w₀ a e h k) m))

-- the same through a store in the whole
pub whole-step : (w₀ w : List ℕ) (a e : ℕ) (f : ℕ → ℕ) (i x : ℕ) → a ≤ e → e ≤ length w₀ → i < e - a
    → w ≡ put_back w₀ a e (table f i ++ drop i (part w₀ a e)) → x ≡ f i
    → set w (a + i) x ≡ put_back w₀ a e (table f (i + 1) ++ drop (i + 1) (part w₀ a e))
whole-step w₀ w a e f i x h k m q r =
    let l : length w ≡ length w₀ = ap length q ∙ length-put_back w₀ a e (table f i ++ drop i (part w₀ a e)) h k (part_length w₀ a e f i h k m) in
    sym (put_back-set w a e i x h (rw l k) m) ∙ part_step w₀ w a e f i x h k m q r

-- ---- the frame

-- the simplest frame: all below a is as it was, so each part below a is
pub same-below : (v w : List ℕ) (a b f : ℕ) → length v ≡ length w → take a v ≡ take a w → f ≤ a → part v b f ≡ part w b f
same-below v w a b f l q h =
    part-agree v w b f l
    (λ i p m.
    sym (get_or-take a v i 0 (omega arith)) ∙ ap (λ (t : List ℕ). get_or t i 0) q ∙ get_or-take a w i 0 (omega arith))

-- nothing changed
pub kept_refl : (a e : ℕ) (w : List ℕ) → Kept a e w w
kept_refl a e w = record { same_length = refl; below = λ i h. refl; beyond = λ i h. refl }

-- one change after another, in the same place
pub kept_trans : (a e : ℕ) (w w₁ w₀ : List ℕ) → Kept a e w w₁ → Kept a e w₁ w₀ → Kept a e w w₀
kept_trans a e w w₁ w₀ p q = record {
  same_length = p.same_length ∙ q.same_length;
  below = λ i h. p.below i h ∙ q.below i h;
  beyond = λ i h. p.beyond i h ∙ q.beyond i h;
}

-- a wider place
pub kept-wide : (a e b f : ℕ) (w w₀ : List ℕ) → b ≤ a → e ≤ f → Kept a e w w₀ → Kept b f w w₀
kept-wide a e b f w w₀ h m k = record { same_length = k.same_length; below = λ i p. k.below i (omega arith); beyond = λ i p. k.beyond i (omega arith) }

-- a store there
pub kept_set : (a e : ℕ) (w w₀ : List ℕ) (i x : ℕ) → Kept a e w w₀ → a ≤ i → i < e → Kept a e (set w i x) w₀
kept_set a e w w₀ i x k h l = record {
  same_length = length-set w i x ∙ k.same_length;
  below = λ j m. get_or-set_other w i j x 0 (λ q. omega arith) ∙ k.below j m;
  beyond = λ j m. get_or-set_other w i j x 0 (λ q. omega arith) ∙ k.beyond j m;
}

-- what a part that was lent leaves
pub kept-put_back : (w : List ℕ) (a e : ℕ) (ys : List ℕ) → a ≤ e → e ≤ length w → length ys ≡ e - a → Kept a e (put_back w a e ys) w
kept-put_back w a e ys h k l = record { same_length = length-put_back w a e ys h k l; below = get_or-put_back-before w a e ys h k l; beyond = get_or-put_back-after w a e ys h k l }

-- a part below it, and beyond it, is as it was
pub kept-part-before : (a e : ℕ) (w w₀ : List ℕ) → Kept a e w w₀ → (b f : ℕ) → f ≤ a → part w b f ≡ part w₀ b f
kept-part-before a e w w₀ k b f h = part-agree w w₀ b f k.same_length (λ i p q. k.below i (omega arith))

pub kept-part-after : (a e : ℕ) (w w₀ : List ℕ) → Kept a e w w₀ → (b f : ℕ) → e ≤ b → part w b f ≡ part w₀ b f
kept-part-after a e w w₀ k b f h = part-agree w w₀ b f k.same_length (λ i p q. k.beyond i (omega arith))

-- ---- a part that was filled, and one that was copied to

module _ (w w' : List ℕ) (a n x : ℕ) (h : a + n ≤ length w) (e : w' ≡ filled_part w a (a + n) x) where
  e' : w' ≡ put_back w a (a + n) (replicate (a + n - a) x)
  e' = e ∙ filled_is w a (a + n) x (omega arith) h

  pub filled-kept : Kept a (a + n) w' w
  filled-kept = rw e' (kept-put_back w a (a + n) (replicate (a + n - a) x) (omega arith) h (length-replicate (a + n - a) x))

  pub filled-part : part w' a (a + n) ≡ replicate n x
  filled-part =
      let z : a + n - a ≡ n = omega arith in
      ap (λ (v : List ℕ). part v a (a + n)) e'
      ∙ part-put_back w a (a + n) (replicate (a + n - a) x) (omega arith) h (length-replicate (a + n - a) x)
      ∙ ap (λ (m : ℕ). replicate m x) z

  pub filled_at : (i : ℕ) → i < n → at w' (a + i) ≡ x
  filled_at i k = sym (get_or-part w' a (a + n) i (omega arith)) ∙ ap (λ (v : List ℕ). at v i) filled-part ∙ get_or-replicate n i x 0 k

module _ (w w' : List ℕ) (a n : ℕ) (s : List ℕ) (h : a + n ≤ length w) (l : length s ≡ n) (e : w' ≡ copied_part w a (a + n) s) where
  s' : length s ≡ a + n - a
  s' = l ∙ omega arith

  c' : w' ≡ put_back w a (a + n) s
  c' = e ∙ copied-part-is w a (a + n) s (omega arith) h s'

  pub copied-kept : Kept a (a + n) w' w
  copied-kept = rw c' (kept-put_back w a (a + n) s (omega arith) h s')

  pub copied-part : part w' a (a + n) ≡ s
  copied-part = ap (λ (v : List ℕ). part v a (a + n)) c' ∙ part-put_back w a (a + n) s (omega arith) h s'
