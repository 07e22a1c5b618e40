-- The order by the code's keys, the table of names as the renaming, and the answer. Assumes nothing.
use Prim.Native.Nat.{ℕ, ◌<◌, ◌≤◌}
use mathlib.Core.Path.{◌≡◌, refl, sym, ap, ◌∙◌, subst}
use mathlib.Core.Bool.{false, ◌&&◌, cond}
use mathlib.Core.List.{List}
use native.Mathlib.Omega.{arith}
use lib.ListN.{replicate}
use lib.Dec.{ltb}
use borrow.Author.Tests.{eq-eqb, ne_eqb, lt-ltb, ltb-false}
use Rattle.std.specs.Prelude.{Option, Some, None, Result, Ok, Err}
use Rattle.std.specs.Result.{IsErrAnd}
use Rattle.links.specs.Refusals.{refusal_number}
use Rattle.links.specs.declared.refusal.Refusal.{Refusal}
use Rattle.links.proofs.RefusalLaws.{refusal-some}
use Rattle.links.specs.Lists.{at, All, elem}
use Rattle.links.specs.Loads.{saturating}
use Rattle.links.specs.Parts.{table}
use Rattle.links.specs.Graph.{rows_of, links_cut, cut_entries, OwnedLists}
use Rattle.links.proofs.CutLaws.{cut_twice, cut_fits}
use Rattle.links.proofs.ListLaws.{split, map-in, all-to, all_in}
use Rattle.links.proofs.ListTestLaws.{site-passed}
use Rattle.links.proofs.OwnerLaws.{assigned}
use Rattle.links.proofs.PartLaws.{get_or-table, table-ext, table-zero}
use Rattle.compare.specs.declared.order.Order.{Order}
use Rattle.compare.specs.declared.order.Order.TheVariants.{Same}
use Rattle.compare.specs.declared.division.Comparison.{Comparison}
use Rattle.compare.specs.Order.{renumbered, lesser_first, by_numbers, order_of, is_same, told_same, renamed, renaming_of}
use Rattle.compare.specs.Ordered.{Renames}
use Rattle.compare.specs.Comparison.{comparison_cause, order_for, Compared}
use Rattle.compare.proofs.CauseLaws.{passed}
use Rattle.compare.proofs.OrderLaws.{lesser-twice, then-stays, ordered}
use Rattle.compare.proofs.RenamedLaws.{renamed-none}

-- ---- the order by the code's keys

-- the first key, by the cut entries: each cut link is two
module _ (offsets neighbors first second : List ℕ) (p : OwnedLists offsets neighbors first) (q : OwnedLists offsets neighbors second) (a b : ℕ)
    (ea : a ≡ saturating (cut_entries (rows_of offsets neighbors) first)) (eb : b ≡ saturating (cut_entries (rows_of offsets neighbors) second))
    (o : Order) (e : o ≡ lesser_first a b) where
  by-cut : o ≡ lesser_first (links_cut (rows_of offsets neighbors) first) (links_cut (rows_of offsets neighbors) second)
  by-cut =
      let rows = rows_of offsets neighbors in
      e
      ∙ rw (cut_fits offsets neighbors first p a ea ∙ cut_twice rows p.lists.sound first, cut_fits offsets neighbors second q b eb ∙ cut_twice rows q.lists.sound second)
      (lesser-twice (links_cut rows first) (links_cut rows second))

  pub cut-decides : is_same o ≡ false → o ≡ order_of (rows_of offsets neighbors) first second
  unfolding order_of
  cut-decides d = sym (rw (← by-cut) (then-stays o (by_numbers (renumbered first) (renumbered second)) d))

  pub owners-decide : o ≡ Same → (later : Order) → later ≡ by_numbers (renumbered first) (renumbered second) → later ≡ order_of (rows_of offsets neighbors) first second
  unfolding order_of
  owners-decide s later d = d ∙ rw (sym by-cut ∙ s)

-- ---- the table of names as the renaming

pub renaming-none : (k : ℕ) (first second : List ℕ) (o : Option Order) → told_same o ≡ false → replicate 256 0 ≡ renaming_of k first second o
unfolding renaming_of
renaming-none k first second o d = sym (table-zero (λ i. cond (told_same o && ltb i k) (renamed first second i) 0) 256 (λ i h. rw d))

-- from k on nothing is owned
pub renaming-some : (k : ℕ) (first second : List ℕ) → All (λ o. o < k) first → table (renamed first second) 256 ≡ renaming_of k first second (Some Same)
unfolding renaming_of
renaming-some k first second below = table-ext (renamed first second) (λ i. cond (told_same (Some Same) && ltb i k) (renamed first second i) 0) 256
    (λ i h. split (ltb i k)
    (λ p. rw p)
    (λ p. rw p (renamed-none first second i (split (elem i first) (λ m. absurd (omega (arith, ltb-false i k p, all_in (λ o. o < k) first i below m))) (λ m. m)))))

renaming-at : (k : ℕ) (first second : List ℕ) → k ≤ 256 → (i : ℕ) → i < k → at (renaming_of k first second (Some Same)) i ≡ renamed first second i
unfolding renaming_of
renaming-at k first second few i h = get_or-table (λ i. cond (told_same (Some Same) && ltb i k) (renamed first second i) 0) 256 i (omega arith) ∙ rw (lt-ltb i k h)

-- the 256 numbers are themselves the renaming
numbers-rename
    : (k : ℕ) (first second : List ℕ)
    → k ≤ 256
    → All (λ o. o < k) first
    → Renames k (renamed first second) first second
    → Renames k (at (renaming_of k first second (Some Same))) first second
numbers-rename k first second few below r =
    let names = renaming_of k first second (Some Same) in
    let e : (i : ℕ) → i < k → at names i ≡ renamed first second i = renaming-at k first second few in
    record {
      renaming =
          record {
            below = λ i h. rw (e i h) (r.renaming.below i h);
            apart = λ i j h l d. r.renaming.apart i j h l (sym (e i h) ∙ d ∙ e j l);
          };
      turns = map-in (at names) (renamed first second) first (all-to (λ o. o < k) (λ o. at names o ≡ renamed first second o) e first below) ∙ r.turns;
    }

-- ---- the answer

module _ (offsets neighbors : List ℕ) (k : ℕ) (first second : List ℕ) where
  pub compared-refused
      : (r : Result Comparison Refusal) (refusal : Refusal)
      → IsErrAnd r (λ y. y ≡ refusal)
      → refusal_number refusal ≡ comparison_cause offsets neighbors k first second
      → Compared offsets neighbors k first second r
  unfolding order_for
  compared-refused (Ok x) refusal is e = absurd is
  compared-refused (Err y) refusal is e =
      let none = ne_eqb (comparison_cause offsets neighbors k first second) 0 (λ q. refusal-some refusal (e ∙ q)) in
      record {
        answer = rw none;
        number = ap refusal_number is ∙ e;
        renaming = renaming-none k first second None refl;
        renames = λ q. let z : ◌≡◌ {A = ℕ} 0 1 = cc in absurd (omega arith);
        only = λ q. absurd (refusal-some y q);
        ordered = λ q. absurd (refusal-some y q);
      }

  pub compared-told
      : comparison_cause offsets neighbors k first second ≡ 0
      → (c : Comparison)
      → c.order ≡ order_of (rows_of offsets neighbors) first second
      → c.renaming ≡ renaming_of k first second (Some c.order)
      → Compared offsets neighbors k first second (Ok c)
  unfolding order_for
  compared-told p c o z =
      let rows = rows_of offsets neighbors in
      let site = passed offsets neighbors k first second p in
      let own = assigned k first site.one.own in
      let law = ordered rows k (site-passed offsets neighbors site.site).0.sound in
      let names : c.order ≡ Same → c.renaming ≡ renaming_of k first second (Some Same) = λ q. z ∙ ap (λ (x : Order). renaming_of k first second (Some x)) q in
      record {
        answer = ap Some o ∙ rw (eq-eqb (comparison_cause offsets neighbors k first second) 0 p);
        number = sym p;
        renaming = z;
        renames = λ q.
            let same : c.order ≡ Same = cc in
            subst (λ (xs : List ℕ). Renames k (at xs) first second) (sym (names same))
            (numbers-rename k first second own.few own.ranked (law.same-renames first second site.one site.other (sym o ∙ same)));
        only = λ _ f t.
            let same : c.order ≡ Same = o ∙ law.renames-same first second site.one f t in
            (ap Some same, λ i h. law.renames-once first second site.one f t i h ∙ sym (ap (λ (xs : List ℕ). at xs i) (names same) ∙ renaming-at k first second own.few i h));
        ordered = λ _. law;
      }
