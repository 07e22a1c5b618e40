-- Laws of what the code keeps and compares: a table with a number for each rank, the owners' numbers place by place, a table with a name for each rank.
-- Assumes nothing.
use Prim.Native.Nat.{ℕ, suc, ◌+◌, ◌≤◌, ◌<◌}
use mathlib.Core.Path.{◌≡◌, refl, sym, ap, ◌∙◌}
use mathlib.Core.Bool.{true, false, cond}
use mathlib.Core.List.{List, [], ◌∷◌, map}
use native.Mathlib.Omega.{arith}
use native.Mathlib.Numerals.{add-one}
use lib.ListN.{length, take, drop, set, replicate, length-append, get_or-replicate, drop_of_length-le}
use lib.Seq.{take-suc, length-take-le, drop-cons, drop-length, ext_get_or}
use lib.Dec.{eqb}
use borrow.Author.Tests.{ne_eqb, eqb-true}
use Rattle.links.specs.Lists.{at, unassigned, All, elem}
use Rattle.links.specs.Parts.{table}
use Rattle.links.proofs.ListLaws.{split, or-true, or-false, map-in}
use Rattle.links.proofs.PartLaws.{length-table, get_or-table, table-zero, table-ext, table-set}
use Rattle.links.proofs.RowLaws.{by_place, elem-place, all-place}
use Rattle.compare.specs.declared.order.Order.{Order}
use Rattle.compare.specs.declared.order.Order.TheVariants.{Same}
use Rattle.compare.specs.Order.{meeting, appearing, place_of, renumbered, lesser_first, then_by, by_numbers, is_same, renamed}
use Rattle.compare.specs.OrderCode.{number_in, is_new}
use Rattle.compare.proofs.AppearanceLaws.{few-appearing, place-below, place-front, place_end, elem-meeting, elem-appearing, appearing-snoc}
use Rattle.compare.proofs.OrderLaws.{then-stays}

-- ---- numbers by first appearance

number-new : (met : List ℕ) (r : ℕ) → elem r met ≡ false → (q : ℕ) → number_in (meeting met r) q ≡ cond (eqb q r) (length met) (number_in met q)
unfolding number_in
number-new met r new q = rw (elem-meeting q r met) (split (eqb q r)
    (λ p. let e : q ≡ r = eqb-true q r p in rw (p, or-true (elem q met), new, e) (place_end r met new))
    (λ p. rw (p, or-false (elem q met), new) (split (elem q met) (λ m. rw (m, place-front q met (r ∷ []) m)) (λ m. rw m))))

number-met : (met : List ℕ) (r : ℕ) → elem r met ≡ true → (q : ℕ) → number_in (meeting met r) q ≡ number_in met q
number-met met r old q = rw old

-- one rank more: a table of the numbers so far, and how many there are
module _ (met : List ℕ) (r : ℕ) (h : r < 256) (few : length met ≤ 16384) where
  new-rank : is_new (table (number_in met) 256) r ≡ eqb (number_in met r) unassigned
  new-rank = ap (λ (x : ℕ). eqb x unassigned) (get_or-table (number_in met) 256 r h)

  is-new : elem r met ≡ false → is_new (table (number_in met) 256) r ≡ true
  unfolding number_in
  is-new m = new-rank ∙ rw m

  is-met : elem r met ≡ true → is_new (table (number_in met) 256) r ≡ false
  unfolding number_in
  is-met m = new-rank ∙ rw m (ne_eqb (place_of r met) unassigned (λ e. omega (arith, place-below r met m)))

  pub meet-numbers : cond (is_new (table (number_in met) 256) r) (set (table (number_in met) 256) r (length met)) (table (number_in met) 256) ≡ table (number_in (meeting met r)) 256
  meet-numbers = split (elem r met)
      (λ m. rw (is-met m) (table-ext (number_in met) (number_in (meeting met r)) 256 (λ q l. sym (number-met met r m q))))
      (λ m. rw (is-new m) (table-set (number_in met) (number_in (meeting met r)) 256 r (length met) (λ q l. number-new met r m q)))

  pub meet-count : cond (is_new (table (number_in met) 256) r) (length met + 1) (length met) ≡ length (meeting met r)
  meet-count = split (elem r met) (λ m. rw (is-met m, m)) (λ m. rw (is-new m, m) (sym (length-append met (r ∷ []))))

-- none yet
pub numbers-none : replicate 256 unassigned ≡ table (number_in []) 256
unfolding number_in
numbers-none = ext_get_or 0 (replicate 256 unassigned) (table (number_in []) 256) (sym (length-table (number_in []) 256))
    (λ i h. get_or-replicate 256 i unassigned 0 h ∙ sym (get_or-table (number_in []) 256 i h))

-- the ranks of the owners before v have their numbers, and there are so many
pub record Numbering (owners numbers : List ℕ) (count v : ℕ) : Type 0 where
  pub in-range : v ≤ length owners
  pub numbers-are : numbers ≡ table (number_in (appearing (take v owners))) 256
  pub count-is : count ≡ length (appearing (take v owners))

pub numbering-none : (owners : List ℕ) → Numbering owners (replicate 256 unassigned) 0 0
unfolding appearing
numbering-none owners = record { in-range = omega arith; numbers-are = numbers-none; count-is = refl }

module _ (owners numbers : List ℕ) (count v : ℕ) (n : Numbering owners numbers count v) where
  pub numbering-few : count ≤ length owners
  numbering-few = omega (arith, n.count-is, few-appearing (take v owners), length-take-le v owners n.in-range, n.in-range)

  pub numbering-more
      : v < length owners
      → at owners v < 256
      → length owners ≤ 16384
      → (numbers' : List ℕ) (count' rank : ℕ)
      → rank ≡ at owners v
      → numbers' ≡ cond (is_new numbers rank) (set numbers rank count) numbers
      → count' ≡ cond (is_new numbers rank) (count + 1) count
      → Numbering owners numbers' count' (v + 1)
  numbering-more h low short numbers' count' rank e a b =
      let met = appearing (take v owners) in
      let few : length met ≤ 16384 = omega (arith, numbering-few, n.count-is) in
      let more : appearing (take (v + 1) owners) ≡ meeting met (at owners v) = rw (add-one, take-suc owners v 0 h) (appearing-snoc (take v owners) (at owners v)) in
      record {
        in-range = omega arith;
        numbers-are = a ∙ rw (e, more, n.numbers-are, n.count-is) (meet-numbers met (at owners v) low few);
        count-is = b ∙ rw (e, more, n.numbers-are, n.count-is) (meet-count met (at owners v) low few);
      }

-- the owners by such numbers are the renumbered owners
pub numbered : (owners numbers : List ℕ) → numbers ≡ table (number_in (appearing owners)) 256 → All (λ o. o < 256) owners → map (at numbers) owners ≡ renumbered owners
unfolding renumbered number_in
numbered owners numbers e a =
    map-in (at numbers) (λ o. place_of o (appearing owners)) owners
    (by_place (λ o. at numbers o ≡ place_of o (appearing owners)) owners
    (λ i h.
    let m : elem (at owners i) (appearing owners) ≡ true = elem-appearing (at owners i) owners ∙ elem-place owners i (at owners i) h refl in
    ap (λ (xs : List ℕ). at xs (at owners i)) e ∙ get_or-table (number_in (appearing owners)) 256 (at owners i) (all-place (λ o. o < 256) owners i a h) ∙ rw m))

-- ---- the order by numbers, place by place

module _ (f g : ℕ → ℕ) (first second : List ℕ) (whole : Order) (v : ℕ) (left : by_numbers (map f (drop v first)) (map g (drop v second)) ≡ whole) where
  module _ (h : v < length first) (l : length first ≡ length second) (o : Order) (key : o ≡ lesser_first (f (at first v)) (g (at second v))) where
    by_key : whole ≡ then_by o (by_numbers (map f (drop (v + 1) first)) (map g (drop (v + 1) second)))
    unfolding by_numbers
    by_key = sym left ∙ rw (key, add-one, drop-cons first v 0 h, drop-cons second v 0 (omega arith))

    pub by-decided : is_same o ≡ false → o ≡ whole
    by-decided d = sym (by_key ∙ then-stays o (by_numbers (map f (drop (v + 1) first)) (map g (drop (v + 1) second))) d)

    pub by-more : o ≡ Same → by_numbers (map f (drop (v + 1) first)) (map g (drop (v + 1) second)) ≡ whole
    by-more e = sym (rw e at by_key)

  pub by-done : length first ≤ v → Same ≡ whole
  unfolding by_numbers
  by-done h = rw (drop_of_length-le first h) at left

-- ---- names, from the last vertex down

-- the ranks of the vertices from v on have their names
pub record Naming (first second names : List ℕ) (v : ℕ) : Type 0 where
  pub in-range : v ≤ length first
  pub names-are : names ≡ table (renamed (drop v first) (drop v second)) 256

pub naming-none : (first second : List ℕ) → Naming first second (replicate 256 0) (length first)
unfolding renamed
naming-none first second =
    record {
      in-range = omega arith;
      names-are = sym (table-zero (renamed (drop (length first) first) (drop (length first) second)) 256 (λ i h. rw (drop-length first)));
    }

module _ (first second names : List ℕ) (v : ℕ) (n : Naming first second names v) where
  pub naming-more : (w : ℕ) → v ≡ suc w → length first ≡ length second → (rank : ℕ) → rank ≡ at first w → Naming first second (set names rank (at second w)) w
  unfolding renamed
  naming-more w z l rank e =
      let h : w < length first = omega (arith, n.in-range) in
      let names-now : names ≡ table (renamed (drop (suc w) first) (drop (suc w) second)) 256 = rw z at n.names-are in
      record {
        in-range = omega arith;
        names-are = rw (names-now, e) (table-set (renamed (drop (suc w) first) (drop (suc w) second)) (renamed (drop w first) (drop w second)) 256 (at first w) (at second w)
            (λ i m. rw (drop-cons first w 0 h, drop-cons second w 0 (omega arith))));
      }
