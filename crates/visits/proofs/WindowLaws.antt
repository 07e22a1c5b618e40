-- Laws of one rank's windows: two days at a time, and the open days of good windows one window after the other. Assumes nothing.
use Prim.Native.Nat.{ℕ, suc, ◌+◌, ◌-◌, ◌≤◌, ◌<◌}
use mathlib.Core.Path.{◌≡◌, refl, sym, ap, ◌∙◌}
use mathlib.Core.Bool.{true, false, ◌&&◌}
use mathlib.Core.List.{List, [], ◌∷◌, ◌++◌}
use native.Mathlib.Omega.{arith}
use lib.ListN.{length, drop, length-append, length-drop, get_or-append}
use lib.Seq.{drop-cons, get_or-append-add}
use lib.Dec.{leb, ltb}
use borrow.Author.Tests.{le-leb, lt-leb, lt-ltb, le-ltb, leb-true, ltb-true}
use Rattle.links.specs.Lists.{at, filter, range}
use Rattle.links.proofs.ListLaws.{and_l, and_r, length-range, all-range, filter-all, none-filter, filter-append, all-get_or, all-kept}
use Rattle.links.proofs.RangeLaws.{range_at, range-join, filter-ext, filter-rises}
use Rattle.links.proofs.ApartLaws.{rises_by}
use Rattle.visits.specs.Season.{windows_in, is_open, open_days, good_window, good_from, good_windows}
use Rattle.visits.specs.SeasonCode.{spanned}

-- ---- from place i on

-- where two days are left, they are a window
pub windows-more : (ws : List ℕ) (i : ℕ) → i + 1 < length ws → windows_in (drop i ws) ≡ (at ws i, at ws (i + 1)) ∷ windows_in (drop (i + 2) ws)
unfolding windows_in
windows-more ws i h =
    let one : i + 1 ≡ suc i = omega arith in
    let two : i + 2 ≡ suc (suc i) = omega arith in
    rw (one, two, drop-cons ws i 0 (omega arith), drop-cons ws (suc i) 0 (omega arith))

-- where one is left, or none, there is no window
pub windows-done : (ws : List ℕ) (i : ℕ) → length ws ≤ i + 1 → windows_in (drop i ws) ≡ []
unfolding windows_in
windows-done ws i h = short (drop i ws) (omega (arith, length-drop i ws))
  where
    short : (l : List ℕ) → length l < 2 → windows_in l ≡ []
    short [] k = refl
    short (x ∷ []) k = refl
    short (x ∷ y ∷ l) k = absurd (omega arith)

module _ (ws : List ℕ) (i : ℕ) (h : i + 1 < length ws) where
  abbrev wide : ℕ
  wide = at ws (i + 1) - at ws i

  abbrev later : List ℕ
  later = spanned (windows_in (drop (i + 2) ws))

  here : spanned (windows_in (drop i ws)) ≡ range (at ws i) wide ++ later
  here = ap spanned (windows-more ws i h)

  pub good_more : (before : ℕ) → good_from before (windows_in (drop i ws)) ≡ (good_window before (at ws i) (at ws (i + 1)) && good_from (at ws (i + 1)) (windows_in (drop (i + 2) ws)))
  unfolding good_from
  good_more before = rw (windows-more ws i h)

  pub count-more : length (spanned (windows_in (drop i ws))) ≡ (at ws (i + 1) - at ws i) + length (spanned (windows_in (drop (i + 2) ws)))
  count-more = ap length here ∙ length-append (range (at ws i) wide) later ∙ ap (λ (n : ℕ). n + length later) (length-range (at ws i) wide)

  pub day-here : (j : ℕ) → j < at ws (i + 1) - at ws i → at (spanned (windows_in (drop i ws))) j ≡ at ws i + j
  day-here j k =
      ap (λ (l : List ℕ). at l j) here
      ∙ get_or-append (range (at ws i) wide) later 0 j (rw (length-range (at ws i) wide) k)
      ∙ range_at (at ws i) wide j k

  pub day-later : (j : ℕ) → at ws (i + 1) - at ws i ≤ j → at (spanned (windows_in (drop i ws))) j ≡ at (spanned (windows_in (drop (i + 2) ws))) (j - (at ws (i + 1) - at ws i))
  day-later j k =
      let e : length (range (at ws i) wide) + (j - wide) ≡ j = omega (arith, length-range (at ws i) wide) in
      ap (λ (l : List ℕ). at l j) here
      ∙ ap (at (range (at ws i) wide ++ later)) (sym e)
      ∙ get_or-append-add (range (at ws i) wide) later (j - wide) 0

-- ---- the open days of good windows

-- what a good window is
pub record GoodWindow (before first end : ℕ) : Type 0 where
  pub behind : before ≤ first
  pub some : first < end
  pub last : end ≤ 3660

pub good-window : (before first end : ℕ) → good_window before first end ≡ true → GoodWindow before first end
unfolding good_window
good-window before first end e =
    let two = and_l (leb before first && ltb first end) (leb end 3660) e in
    record {
      behind = leb-true before first (and_l (leb before first) (ltb first end) two);
      some = ltb-true first end (and_r (leb before first) (ltb first end) two);
      last = leb-true end 3660 (and_r (leb before first && ltb first end) (leb end 3660) e);
    }

good-first : (before : ℕ) (w : ℕ × ℕ) (later : List (ℕ × ℕ)) → good_from before (w ∷ later) ≡ true → GoodWindow before w.0 w.1 × (good_from w.1 later ≡ true)
unfolding good_from
good-first before w later e =
    (good-window before w.0 w.1 (and_l (good_window before w.0 w.1) (good_from w.1 later) e), and_r (good_window before w.0 w.1) (good_from w.1 later) e)

-- no day before they begin is open
closed-before : (before : ℕ) (ws : List (ℕ × ℕ)) (d : ℕ) → good_from before ws ≡ true → d < before → is_open ws d ≡ false
unfolding is_open
closed-before before [] d e h = refl
closed-before before (w ∷ later) d e h =
    let g = good-first before w later e in
    rw (lt-leb w.0 d (omega (arith, g.0.behind))) (closed-before w.1 later d g.1 (omega (arith, g.0.behind, g.0.some)))

open-here : (w : ℕ × ℕ) (later : List (ℕ × ℕ)) (d : ℕ) → w.0 ≤ d → d < w.1 → is_open (w ∷ later) d ≡ true
unfolding is_open
open-here w later d h k = rw (le-leb w.0 d h, lt-ltb d w.1 k)

open-later : (w : ℕ × ℕ) (later : List (ℕ × ℕ)) (d : ℕ) → w.1 ≤ d → w.0 ≤ d → is_open (w ∷ later) d ≡ is_open later d
unfolding is_open
open-later w later d h k = rw (le-leb w.0 d k, le-ltb d w.1 h)

-- from the day on that they begin behind
open-from : (before : ℕ) (ws : List (ℕ × ℕ)) → before ≤ 3661 → good_from before ws ≡ true → filter (is_open ws) (range before (3661 - before)) ≡ spanned ws
unfolding is_open
open-from before [] h e = none-filter (is_open []) (range before (3661 - before)) (all-range (λ d. is_open [] d ≡ false) before (3661 - before) (λ d k l. refl))
open-from before (w ∷ later) h e =
    let g = good-first before w later e in
    let first = w.0 in
    let end = w.1 in
    let good = g.0 in
    let p = is_open (w ∷ later) in
    let cut : range before (3661 - before) ≡ range before (first - before) ++ range first (3661 - first) =
    range-join before (first - before) (3661 - first) (3661 - before) first (omega (arith, good.behind, good.some, good.last)) (omega (arith, good.behind)) in
    let cut' : range first (3661 - first) ≡ range first (end - first) ++ range end (3661 - end) =
    range-join first (end - first) (3661 - end) (3661 - first) end (omega (arith, good.some, good.last)) (omega (arith, good.some)) in
    let none : filter p (range before (first - before)) ≡ [] = none-filter p (range before (first - before)) (all-range (λ d. p d ≡ false) before (first - before)
    (λ d k l. closed_in d g (omega (arith, good.behind)))) in
    let all-open : filter p (range first (end - first)) ≡ range first (end - first) = filter-all p (range first (end - first)) (all-range (λ d. p d ≡ true) first (end - first)
    (λ d k l. open-here w later d k (omega (arith, good.some)))) in
    let rest : filter p (range end (3661 - end)) ≡ filter (is_open later) (range end (3661 - end)) = filter-ext p (is_open later) end (3661 - end)
    (λ d k l. open-later w later d k (omega (arith, good.some))) in
    ap (filter p) (cut ∙ ap (λ (l : List ℕ). range before (first - before) ++ l) cut')
    ∙ filter-append p (range before (first - before)) (range first (end - first) ++ range end (3661 - end))
    ∙ rw (none, filter-append p (range first (end - first)) (range end (3661 - end)), all-open, rest, open-from end later (omega (arith, good.last)) g.1)
  where
    closed_in : (d : ℕ) → GoodWindow before w.0 w.1 × (good_from w.1 later ≡ true) → d < w.0 → is_open (w ∷ later) d ≡ false
    closed_in d g k = rw (lt-leb w.0 d k) (closed-before w.1 later d g.1 (omega (arith, g.0.some)))

-- the open days are the windows' days, one window after the other
pub open-spanned : (ws : List (ℕ × ℕ)) → good_windows ws ≡ true → open_days ws ≡ spanned ws
unfolding open_days
open-spanned ws e = open-from 0 ws (omega arith) e

-- and each of them is open
pub open_at : (ws : List (ℕ × ℕ)) (j : ℕ) → j < length (open_days ws) → is_open ws (at (open_days ws) j) ≡ true
unfolding open_days
open_at ws j h = all-get_or (filter (is_open ws) (range 0 3661)) j 0 h (λ d. is_open ws d ≡ true) (all-kept (λ d. is_open ws d ≡ true) (is_open ws) (λ d e. e) (range 0 3661))

-- and they rise
pub open-rises : (ws : List (ℕ × ℕ)) (i j : ℕ) → i < j → j < length (open_days ws) → at (open_days ws) i < at (open_days ws) j
unfolding open_days
open-rises ws i j h k = rises_by (filter (is_open ws) (range 0 3661)) (filter-rises (is_open ws) 0 3661) i j h k
