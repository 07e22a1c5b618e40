-- Laws of a season: where each rank's days lie, what the tests leave, and the days that are written. Assumes nothing.
use Prim.Native.Nat.{ℕ, zero, suc, ◌+◌, ◌*◌, ◌≤◌, ◌<◌}
use mathlib.Core.Path.{◌≡◌, refl, sym, ap, ◌∙◌}
use mathlib.Core.Bool.{Bool, true, false, not, ◌||◌, cond}
use mathlib.Core.List.{List, ◌++◌}
use mathlib.Core.Logic.{◌⊎◌, inl, inr, ⊎_elim}
use native.Mathlib.Omega.{arith}
use lib.ListN.{length, take, drop, set, length-set, take-append-drop, get_or-append}
use lib.Seq.{take-length, get_or-set_same, get_or-set_other}
use lib.Dec.{ltb, eqb}
use borrow.Author.Tests.{eq-eqb, ne_eqb, eqb-true, eqb-false, lt-ltb, le-ltb, ltb-true, ltb-false, not-false}
use Rattle.links.specs.Lists.{at, any, range, sum}
use Rattle.links.specs.Parts.{part, table}
use Rattle.links.specs.Graph.{owned}
use Rattle.links.specs.Owners.{from_owners}
use Rattle.links.proofs.ListLaws.{split, or_l, or_r, all-get_or, all-range, any_none, any_of, all_in, elem-range, to-any, sum-take, sum-append}
use Rattle.links.proofs.CauseLaws.{cause-fails}
use Rattle.links.proofs.RangeLaws.{none_passes}
use Rattle.links.proofs.PartLaws.{length_part, fill, length-table, get_or-table}
use Rattle.links.proofs.OwnerLaws.{owned-later, owned-before, assigned, owners-numbers}
use Rattle.std.specs.Prelude.{Result, Ok, Err}
use Rattle.std.specs.Result.{IsErrAnd}
use Rattle.links.specs.Refusals.{refusal_number}
use Rattle.links.specs.declared.refusal.Refusal.{Refusal}
use Rattle.links.proofs.RefusalLaws.{refusal-some}
use Rattle.visits.specs.Season.{windows_in, is_open, open_days, good_windows, days_from, windows_of, misplaced, bad_windows, lacks_days, too_few_days, windows_cause, season_cause, visit_day, visit_days, visits_after, Tested, Lacking, SeasonTold}
use Rattle.visits.specs.SeasonCode.{spanned, FewCounts, Laid, Good, Plannable, Started}
use Rattle.visits.proofs.WindowLaws.{open-spanned, open_at, open-rises}

-- ---- where a rank's days lie

count-few : (counts : List ℕ) → FewCounts counts → (r : ℕ) → r < length counts → at counts r ≤ 32
count-few counts f r h = ltb-false 32 (at counts r) (all-get_or counts r 0 h (λ x. ltb 32 x ≡ false) (any_none (ltb 32) counts f.low))

pub from_more : (counts : List ℕ) (r : ℕ) → r < length counts → days_from counts (r + 1) ≡ days_from counts r + 2 * at counts r
from_more counts r h = omega (arith, sum-take counts r h)

pub from_all : (counts : List ℕ) → days_from counts (length counts) ≡ 2 * sum counts
from_all counts = ap (λ (l : List ℕ). 2 * sum l) (take-length counts)

from_low : (counts : List ℕ) → FewCounts counts → (r : ℕ) → r ≤ length counts → days_from counts r ≤ 64 * r
from_low counts f zero h = omega arith
from_low counts f (suc r) h =
    let e : suc r ≡ r + 1 = omega arith in
    rw e (omega (arith, from_low counts f r (omega arith), from_more counts r (omega arith), count-few counts f r (omega arith)))

from-within : (counts : List ℕ) (r : ℕ) → days_from counts r ≤ 2 * sum counts
from-within counts r = omega (arith, sum-append (take r counts) (drop r counts), ap sum (take-append-drop r counts))

-- the places are laid one after the other, and none of them wraps
module _ (counts starts : List ℕ) (f : FewCounts counts) (r : ℕ) (h : r < length counts) (s : Started counts starts r) where
  pub start-low : at starts r + 2 * at counts r ≤ 16384
  start-low = omega (arith, s.entry r (omega arith), from_low counts f r (omega arith), count-few counts f r h, f.ranks)

  pub started-more : Started counts (set starts (r + 1) (at starts r + 2 * at counts r)) (r + 1)
  started-more =
      record {
        sized = length-set starts (r + 1) (at starts r + 2 * at counts r) ∙ s.sized;
        entry = λ i k. split (eqb i (r + 1))
            (λ p. let e = eqb-true i (r + 1) p in
            rw e (get_or-set_same starts (r + 1) (at starts r + 2 * at counts r) 0 (omega (arith, s.sized, f.ranks)) ∙ omega (arith, s.entry r (omega arith), from_more counts r h)))
            (λ p. let d = eqb-false i (r + 1) p in
            get_or-set_other starts (r + 1) i (at starts r + 2 * at counts r) 0 d ∙ s.entry i (omega arith));
      }

module _ {counts days starts : List ℕ} (l : Laid counts days) (s : Started counts starts (length counts)) (r : ℕ) (h : r < length counts) where
  begins : at starts r ≡ days_from counts r
  begins = s.entry r (omega arith)

  ends : at starts (r + 1) ≡ days_from counts (r + 1)
  ends = s.entry (r + 1) (omega arith)

  -- what a rank's part is lent by
  pub part-there : (r < 256) × (at starts r ≤ at starts (r + 1)) × (at starts (r + 1) ≤ length days)
  part-there =
      let few = l.few in
      (omega (arith, few.ranks), omega (arith, begins, ends, from_more counts r h), omega (arith, ends, from-within counts (r + 1), l.whole))

  pub part-few : length (part days (at starts r) (at starts (r + 1))) ≤ 64
  part-few =
      let p = part-there in
      omega (arith, length_part days (at starts r) (at starts (r + 1)) p.1 p.2, begins, ends, from_more counts r h, count-few counts l.few r h)

  pub part-windows : windows_in (part days (at starts r) (at starts (r + 1))) ≡ windows_of counts days r
  unfolding windows_of
  part-windows = rw (begins, ends)

  pub misplaced-is : not (good_windows (windows_in (part days (at starts r) (at starts (r + 1))))) ≡ misplaced counts days r
  misplaced-is = ap (λ (w : List (ℕ × ℕ)). not (good_windows w)) part-windows

module _ {counts days starts : List ℕ} (g : Good counts days) (s : Started counts starts (length counts)) (r : ℕ) (h : r < length counts) where
  -- the days of the part are the rank's open days
  pub part-days : (w : List ℕ) → w ≡ part days (at starts r) (at starts (r + 1)) → spanned (windows_in w) ≡ open_days (windows_of counts days r)
  part-days w e =
      ap (λ (l : List ℕ). spanned (windows_in l)) e
      ∙ ap spanned (part-windows g.laid s r h)
      ∙ sym (open-spanned (windows_of counts days r) (not-false _ (none_passes (misplaced counts days) (length counts) g.placed r h)))

  -- fewer days than the counts of all ranks have for it
  pub lacks-is
      : (owners : List ℕ) {counted : List ℕ}
      → counted ≡ table (owned owners) 256
      → ltb (length (spanned (windows_in (part days (at starts r) (at starts (r + 1)))))) (at counted r) ≡ lacks_days owners counts days r
  lacks-is owners {counted} u =
      let own : at counted r ≡ owned owners r = rw u (get_or-table (owned owners) 256 r (omega (arith, g.laid.few.ranks))) in
      rw (part-days (part days (at starts r) (at starts (r + 1))) refl, own)

-- ---- what the tests leave

pub windows-passed : (k : ℕ) (counts days : List ℕ) → k ≤ 256 → bad_windows k counts days ≡ false → (length counts ≡ k) × Good counts days
unfolding bad_windows
windows-passed k counts days h e =
    let a = not (eqb (length counts) k) in
    let b = any (ltb 32) counts in
    let d = not (eqb (length days) (2 * sum counts)) in
    let m = any (misplaced counts days) (range 0 k) in
    let abd = or_l (a || b || d) m e in
    let ab = or_l (a || b) d abd in
    let size : length counts ≡ k = eqb-true (length counts) k (not-false _ (or_l a b ab)) in (
      size,
      record {
        laid =
            record {
              few = record { ranks = omega arith; low = or_r a b ab };
              whole = eqb-true (length days) (2 * sum counts) (not-false _ (or_r (a || b) d abd));
            };
        placed = rw size (or_r (a || b || d) m e);
      },
    )

-- past 19 it is what the test for 20 answers, of as many ranks as there are counts
pub windows-days
    : (k : ℕ) (owners counts days : List ℕ) → k ≤ 256 → bad_windows k counts days ≡ false → (b : Bool) → b ≡ too_few_days (length counts) owners counts days
    → windows_cause k owners counts days ≡ cond b 20 0
windows-days k owners counts days h w b e =
    let size = (windows-passed k counts days h w).0 in
    rw (w, e, size)

module _ (k : ℕ) (owners counts days : List ℕ) (room : ℕ) where
  -- each number in its place
  pub cause-owners : (from_owners k owners ≡ 0 → ⊥) → season_cause k owners counts days room ≡ from_owners k owners
  unfolding season_cause
  cause-owners f = rw (ne_eqb (from_owners k owners) 0 f)

  pub cause-short : from_owners k owners ≡ 0 → room < length owners → season_cause k owners counts days room ≡ 5
  unfolding season_cause
  cause-short z h = rw (eq-eqb (from_owners k owners) 0 z, lt-ltb room (length owners) h)

  pub cause-windows : from_owners k owners ≡ 0 → length owners ≤ room → season_cause k owners counts days room ≡ windows_cause k owners counts days
  unfolding season_cause
  cause-windows z h = rw (eq-eqb (from_owners k owners) 0 z, le-ltb room (length owners) h)

  -- past 19 it is 20, or none
  pub cause-tested : Tested k owners counts days room → season_cause k owners counts days room ≡ cond (too_few_days k owners counts days) 20 0
  cause-tested t = cause-windows t.owners-pass t.roomy ∙ rw t.windows-pass

  -- and 20 or none come only there
  pub tested-of : (season_cause k owners counts days room ≡ 0) ⊎ (season_cause k owners counts days room ≡ 20) → Tested k owners counts days room
  unfolding season_cause
  tested-of z = split (eqb (from_owners k owners) 0)
      (λ p. split (ltb room (length owners))
      (λ q. let x : (◌≡◌ {A = ℕ} 5 0) ⊎ (◌≡◌ {A = ℕ} 5 20) = rw (p, q) at z in absurd (neither 5 (λ y. omega arith) (λ y. omega arith) x))
      (λ q. split (bad_windows k counts days)
      (λ b. let x : (◌≡◌ {A = ℕ} 19 0) ⊎ (◌≡◌ {A = ℕ} 19 20) = rw (p, q, b) at z in absurd (neither 19 (λ y. omega arith) (λ y. omega arith) x))
      (λ b. record { owners-pass = eqb-true (from_owners k owners) 0 p; roomy = ltb-false room (length owners) q; windows-pass = b })))
      (λ p. let x : (from_owners k owners ≡ 0) ⊎ (from_owners k owners ≡ 20) = rw p at z in
      absurd (neither (from_owners k owners) (eqb-false (from_owners k owners) 0 p) (λ y. omega (arith, y, owners-numbers k owners)) x))
    where
      neither : (n : ℕ) → (n ≡ 0 → ⊥) → (n ≡ 20 → ⊥) → (n ≡ 0) ⊎ (n ≡ 20) → ⊥
      neither n f g x = ⊎_elim f g x

  pub plannable : season_cause k owners counts days room ≡ 0 → Plannable owners counts days room
  plannable e =
      let t = tested-of (inl e) in
      let a = assigned k owners t.owners-pass in
      let w = windows-passed k counts days a.few t.windows-pass in
      record { good = w.1; roomy = t.roomy; ranked = rw w.0 a.ranked }

-- ---- the days written

-- the owner of a vertex is one of the ranks
pub owner-there : (owners counts days : List ℕ) (room : ℕ) → Plannable owners counts days room → (v : ℕ) → v < length owners → (at owners v < length counts) × (at owners v < 256)
owner-there owners counts days room p v h =
    let there : at owners v < length counts = all-get_or owners v 0 h (λ o. o < length counts) p.ranked in
    (there, omega (arith, there, p.good.laid.few.ranks))

module _ (owners counts days : List ℕ) where
  -- one more, with the counts of the vertices before it
  pub written-more
      : (visits visits₀ met : List ℕ) (v day : ℕ)
      → v < length owners
      → length owners ≤ length visits₀
      → at owners v < 256
      → met ≡ table (owned (take v owners)) 256
      → day ≡ at (open_days (windows_of counts days (at owners v))) (at met (at owners v))
      → visits ≡ table (visit_day owners counts days) v ++ drop v visits₀
      → set visits v day ≡ table (visit_day owners counts days) (v + 1) ++ drop (v + 1) visits₀
  unfolding visit_day
  written-more visits visits₀ met v day h l b m d e =
      let j : at met (at owners v) ≡ owned (take v owners) (at owners v) = rw m (get_or-table (owned (take v owners)) 256 (at owners v) b) in
      rw (e, d, j) (fill (visit_day owners counts days) visits₀ v (omega arith))

  -- the day of a vertex, where all are written
  pub written_at : (visits : List ℕ) (v : ℕ) → v < length owners → at (visit_days owners counts days ++ drop (length owners) visits) v ≡ visit_day owners counts days v
  unfolding visit_days
  written_at visits v h =
      get_or-append (table (visit_day owners counts days) (length owners)) (drop (length owners) visits) 0 v (omega (arith, length-table (visit_day owners counts days) (length owners)))
      ∙ get_or-table (visit_day owners counts days) (length owners) v h

-- ---- the promise

module _ (k : ℕ) (owners counts days visits : List ℕ) where
  -- 20, both ways
  exactly : Tested k owners counts days (length visits) → Lacking k owners counts days → season_cause k owners counts days (length visits) ≡ 20
  unfolding too_few_days
  exactly t l =
      let few : too_few_days k owners counts days ≡ true = to-any (lacks_days owners counts days) (range 0 k) l.rank (elem-range l.rank 0 k (omega arith) (omega (arith, l.is-rank))) (lt-ltb _ _ l.fewer) in
      cause-tested k owners counts days (length visits) t ∙ rw few

  only : season_cause k owners counts days (length visits) ≡ 20 → Tested k owners counts days (length visits) × Lacking k owners counts days
  unfolding too_few_days
  only e =
      let t = tested-of k owners counts days (length visits) (inr e) in
      split (too_few_days k owners counts days)
      (λ p. let w = any_of (lacks_days owners counts days) (range 0 k) p in
      (t, record { rank = w.0; is-rank = all_in (λ r. r < k) (range 0 k) w.0 (all-range (λ r. r < k) 0 k (λ r a b. omega arith)) w.1; fewer = ltb-true _ _ w.2 }))
      (λ p. let z : ◌≡◌ {A = ℕ} 0 20 = sym (cause-tested k owners counts days (length visits) t ∙ rw p) ∙ e in absurd (omega arith))

  module _ (e : season_cause k owners counts days (length visits) ≡ 0) where
    -- each vertex has its open day
    enough : (v : ℕ) → v < length owners → owned (take v owners) (at owners v) < length (open_days (windows_of counts days (at owners v)))
    unfolding too_few_days
    enough v h =
        let t = tested-of k owners counts days (length visits) (inl e) in
        let rank : at owners v < k = all-get_or owners v 0 h (λ o. o < k) (assigned k owners t.owners-pass).ranked in
        let none : too_few_days k owners counts days ≡ false = cause-fails (too_few_days k owners counts days) 19 _ (cause-tested k owners counts days (length visits) t) e in
        let All-there = ltb-false (length (open_days (windows_of counts days (at owners v)))) (owned owners (at owners v)) (none_passes (lacks_days owners counts days) k none (at owners v) rank) in
        omega (arith, All-there, owned-before owners v h)

    planned-opens : (v : ℕ) → v < length owners → is_open (windows_of counts days (at owners v)) (visit_day owners counts days v) ≡ true
    unfolding visit_day
    planned-opens v h = open_at (windows_of counts days (at owners v)) (owned (take v owners) (at owners v)) (enough v h)

    planned-rises : (u v : ℕ) → u < v → v < length owners → at owners u ≡ at owners v → visit_day owners counts days u < visit_day owners counts days v
    unfolding visit_day
    planned-rises u v l h same =
        let o = at owners v in
        let fewer : owned (take u owners) o < owned (take v owners) o = rw same at (owned-later owners u (omega arith) v l) in
        rw same (open-rises (windows_of counts days o) (owned (take u owners) o) (owned (take v owners) o) fewer (enough v h))

    -- a season that is planned
    pub told-planned : (visits' : List ℕ) → visits' ≡ visit_days owners counts days ++ drop (length owners) visits → SeasonTold k owners counts days visits visits' (Ok tt)
    unfolding visits_after
    told-planned visits' w =
        let day : (v : ℕ) → v < length owners → at visits' v ≡ visit_day owners counts days v = λ v h. ap (λ (l : List ℕ). at l v) w ∙ written_at owners counts days visits v h in
        record {
          answer = rw e;
          number = sym e;
          written = rw e w;
          opens = λ p v h. rw (day v h) (planned-opens v h);
          rises = λ p u v l h same. rw (day u (omega arith), day v h) (planned-rises u v l h same);
          exactly = λ t l. sym e ∙ exactly t l;
          only = λ z. only (e ∙ z);
        }

  -- a refusal that is passed on
  pub told-refused
      : (r : Result (Unit {0}) Refusal) (refusal : Refusal)
      → IsErrAnd r (λ y. y ≡ refusal)
      → refusal_number refusal ≡ season_cause k owners counts days (length visits)
      → SeasonTold k owners counts days visits visits r
  unfolding visits_after
  told-refused (Ok x) refusal is e = absurd is
  told-refused (Err y) refusal is e =
      let number : refusal_number y ≡ season_cause k owners counts days (length visits) = ap refusal_number is ∙ e in
      let some : season_cause k owners counts days (length visits) ≡ 0 → ⊥ = λ z. refusal-some refusal (e ∙ z) in
      let none = ne_eqb (season_cause k owners counts days (length visits)) 0 some in
      record {
        answer = sym none;
        number = number;
        written = rw none;
        opens = λ p v h. absurd (some (sym number ∙ p));
        rises = λ p u v l h same. absurd (some (sym number ∙ p));
        exactly = λ t l. number ∙ exactly t l;
        only = λ z. only (sym number ∙ z);
      }
