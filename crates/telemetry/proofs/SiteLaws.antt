-- One site: its tests in their order and what they leave, its counts by loops over ranks and vertices, and its answer. Assumes nothing.
use Rattle.std.proofs.Common.{◌≡◌, ℕ, zero, suc, ◌+◌, ◌*◌, ◌<◌, ◌≤◌, max, Bool, cond, eqb, ◌≢◌, List, [], ◌∷◌, ◌++◌, map, length, set, sym, refl, ap, ◌∙◌, mul_comm, add-one, arith, eq-eqb, ne_eqb, eqb-true}
use mathlib.Core.List.{map-append}
use lib.ListN.{take}
use lib.Seq.{take-suc}
use Rattle.std.specs.Prelude.{Option, Result, Ok, Err}
use Rattle.std.specs.Option.{unwrap_or, option_map}
use Rattle.std.proofs.lemmas.Iterator.Adapters.{option_map_id}
use Rattle.std.specs.List.{fold, reduce}
use borrow.Author.Tests.{eqb-false}
use Rattle.links.specs.Lists.{at, filter, range, sum, greatest}
use Rattle.links.specs.Parts.{table}
use Rattle.links.specs.Graph.{degree, vertex_count, rows_of, neighbors_of, site_cause, owned, OwnedLists}
use Rattle.links.specs.Owners.{from_owners}
use Rattle.links.proofs.ListLaws.{split, eqb-sym, total_ext, total-same, sum-append, filter-append, greatest-is, length-range}
use Rattle.links.proofs.ListTestLaws.{site-passed, at-range}
use Rattle.links.proofs.OwnerLaws.{Assigned, assigned, owned-all}
use Rattle.links.proofs.PartLaws.{get_or-table, table-add}
use Rattle.links.proofs.RangeLaws.{range_snoc}
use Rattle.links.proofs.RowLaws.{length-rows, row-always, degree-few}
use Rattle.telemetry.specs.Telemetry.{float, ratio, local_entries, most_owned, telemetry_cause, telemetry_of, telemetry_for, TelemetryTold}
use Rattle.telemetry.specs.declared.site.PartitionTelemetry.{PartitionTelemetry}
use Rattle.std.specs.Result.{IsErrAnd}
use Rattle.links.specs.Refusals.{refusal_number}
use Rattle.links.specs.declared.refusal.Refusal.{Refusal}
use Rattle.links.proofs.RefusalLaws.{refusal-some}
use Rattle.telemetry.proofs.RatioLaws.{ratio-even}

-- ---- the tests in their order

module _ (offsets neighbors : List ℕ) (k : ℕ) (owners : List ℕ) where
  pub cause-site : site_cause offsets neighbors ≢ 0 → site_cause offsets neighbors ≡ telemetry_cause offsets neighbors k owners
  unfolding telemetry_cause
  cause-site h = rw (ne_eqb (site_cause offsets neighbors) 0 h)

  module _ (site : site_cause offsets neighbors ≡ 0) where
    pub cause-owners : from_owners k owners ≢ 0 → from_owners k owners ≡ telemetry_cause offsets neighbors k owners
    unfolding telemetry_cause
    cause-owners h = rw (eq-eqb (site_cause offsets neighbors) 0 site, ne_eqb (from_owners k owners) 0 h)

    pub cause-length : from_owners k owners ≡ 0 → length owners ≢ vertex_count offsets → 18 ≡ telemetry_cause offsets neighbors k owners
    unfolding telemetry_cause
    cause-length o h = rw (eq-eqb (site_cause offsets neighbors) 0 site, eq-eqb (from_owners k owners) 0 o, ne_eqb (length owners) (vertex_count offsets) h)

    pub cause-none : from_owners k owners ≡ 0 → length owners ≡ vertex_count offsets → 0 ≡ telemetry_cause offsets neighbors k owners
    unfolding telemetry_cause
    cause-none o h = rw (eq-eqb (site_cause offsets neighbors) 0 site, eq-eqb (from_owners k owners) 0 o, eq-eqb (length owners) (vertex_count offsets) h)

  -- what passes
  pub record Passed : Type 0 where
    pub site : site_cause offsets neighbors ≡ 0
    pub own : from_owners k owners ≡ 0
    pub sized : length owners ≡ vertex_count offsets

  pub passed : telemetry_cause offsets neighbors k owners ≡ 0 → Passed
  unfolding telemetry_cause
  passed z = split (eqb (site_cause offsets neighbors) 0)
      (λ p. split (eqb (from_owners k owners) 0)
      (λ q. split (eqb (length owners) (vertex_count offsets))
      (λ r. record { site = eqb-true (site_cause offsets neighbors) 0 p; own = eqb-true (from_owners k owners) 0 q; sized = eqb-true (length owners) (vertex_count offsets) r })
      (λ r. let x : ◌≡◌ {A = ℕ} 18 0 = rw (p, q, r) at z in absurd (omega arith)))
      (λ q. absurd (eqb-false (from_owners k owners) 0 q (rw (p, q) at z))))
      (λ p. absurd (eqb-false (site_cause offsets neighbors) 0 p (rw p at z)))

  -- what the counting takes as given
  module _ (p : Passed) where
    pub passed-lists : OwnedLists offsets neighbors owners
    passed-lists =
        let t = site-passed offsets neighbors p.site in
        record { lists = t.0; sized = p.sized; few = omega (arith, p.sized, t.1); short = t.2 }

    pub passed-owners : Assigned k owners
    passed-owners = assigned k owners p.own

-- ---- the greatest of a list's first numbers

fold-max : (a : ℕ) (xs : List ℕ) → fold max a xs ≡ max a (greatest xs)
fold-max a [] = omega arith
fold-max a (x ∷ xs) = fold-max (max a x) xs ∙ omega arith

reduce-max : (xs : List ℕ) → unwrap_or (reduce max xs) 0 ≡ greatest xs
reduce-max [] = refl
reduce-max (x ∷ xs) = fold-max x xs

take-places : (xs : List ℕ) (k : ℕ) → k ≤ length xs → take k xs ≡ map (at xs) (range 0 k)
take-places xs zero h = refl
take-places xs (suc k) h =
    take-suc xs k 0 (omega arith)
    ∙ ap (λ (l : List ℕ). l ++ (at xs k ∷ [])) (take-places xs k (omega arith))
    ∙ sym (ap (map (at xs)) (range_snoc 0 k k (omega arith)) ∙ map-append (at xs) (range 0 k) (k ∷ []))

-- what `max` answers, 0 where there is none
pub greatest-picked
    : (most : Option ℕ) (xs : List ℕ) (k : ℕ)
    → option_map (λ (x : ℕ). x) most ≡ reduce max (take k xs)
    → k ≤ length xs
    → unwrap_or most 0 ≡ greatest (map (at xs) (range 0 k))
greatest-picked most xs k e h =
    ap (λ o. unwrap_or o 0) (sym (option_map_id most) ∙ e) ∙ reduce-max (take k xs) ∙ ap greatest (take-places xs k h)

map_range : (f g : ℕ → ℕ) (i n : ℕ) → ((x : ℕ) → i ≤ x → x < i + n → f x ≡ g x) → map f (range i n) ≡ map g (range i n)
map_range f g i zero h = refl
map_range f g i (suc n) h = rw (h i (omega arith) (omega arith), map_range f g (suc i) n (λ x a b. h x (omega arith) (omega arith)))

-- of the first k in a table
pub greatest-table : (f : ℕ → ℕ) (n k : ℕ) (counts : List ℕ) → k ≤ n → counts ≡ table f n → greatest (map (at counts) (range 0 k)) ≡ greatest (map f (range 0 k))
greatest-table f n k counts h e = ap greatest (map_range (at counts) f 0 k (λ x a b. ap (λ (l : List ℕ). at l x) e ∙ get_or-table f n x (omega arith)))

-- ---- the entries of each rank's rows, counted vertex by vertex

module _ (rows : List (List ℕ)) (owners : List ℕ) where
  -- those of the first v rows
  abbrev pub entries_to : ℕ → ℕ → ℕ
  entries_to v r = sum (map (degree rows) (filter (λ u. eqb (at owners u) r) (range 0 v)))

  pub entries-one : (v r : ℕ) → entries_to (v + 1) r ≡ entries_to v r + cond (eqb r (at owners v)) (degree rows v) 0
  entries-one v r =
      let own : ℕ → Bool = λ u. eqb (at owners u) r in
      let e : range 0 (v + 1) ≡ range 0 v ++ (v ∷ []) = rw add-one (range_snoc 0 v v (omega arith)) in
      let last : sum (map (degree rows) (filter own (v ∷ []))) ≡ cond (eqb r (at owners v)) (degree rows v) 0 =
      rw (eqb-sym r (at owners v)) (split (own v) (λ p. rw p (omega arith)) (λ p. rw p)) in
      ap (λ (l : List ℕ). sum (map (degree rows) (filter own l))) e
      ∙ ap (λ (l : List ℕ). sum (map (degree rows) l)) (filter-append own (range 0 v) (v ∷ []))
      ∙ ap sum (map-append (degree rows) (filter own (range 0 v)) (filter own (v ∷ [])))
      ∙ sum-append (map (degree rows) (filter own (range 0 v))) (map (degree rows) (filter own (v ∷ [])))
      ∙ ap (λ (x : ℕ). entries_to v r + x) last

  pub entries-more
      : (v : ℕ) → set (table (entries_to v) 256) (at owners v) (at (table (entries_to v) 256) (at owners v) + degree rows v) ≡ table (entries_to (v + 1)) 256
  entries-more v = table-add (entries_to v) (entries_to (v + 1)) 256 (at owners v) (degree rows v) (λ r h. entries-one v r)

  pub entries-all : table (entries_to (length rows)) 256 ≡ table (local_entries rows owners) 256
  unfolding local_entries
  entries-all = refl

  -- no more than there are rows, each of m entries at most
  pub entries-few : (m v r : ℕ) → ((u : ℕ) → degree rows u ≤ m) → entries_to v r ≤ m * v
  entries-few m zero r h = omega arith
  entries-few m (suc v) r h =
      let e = entries-one v r in
      let one : cond (eqb r (at owners v)) (degree rows v) 0 ≤ m = split (eqb r (at owners v)) (λ p. rw p (h v)) (λ p. rw p (omega arith)) in
      let z : v + 1 ≡ suc v = omega arith in
      omega (arith, rw z at e, one, entries-few m v r h)

module _ (offsets neighbors owners : List ℕ) (g : OwnedLists offsets neighbors owners) where
  abbrev rows : List (List ℕ)
  rows = rows_of offsets neighbors

  -- the entries of the first v rows are counted
  abbrev pub Tallied : List ℕ → ℕ → Type 0
  Tallied counts v = counts ≡ table (entries_to (rows_of offsets neighbors) owners v) 256

  -- one row more, of the owner o
  module _ (counts : List ℕ) (v : ℕ) (t : Tallied counts v) (h : v < length owners) (us : List ℕ) (q : us ≡ neighbors_of offsets neighbors v) (o : ℕ) (own : o ≡ at owners v) where
    row_is : length us ≡ degree rows v
    row_is = ap length (q ∙ sym (row-always offsets neighbors v))

    -- no count wraps
    pub tallied-fits : o < 256 → at counts o + length us < 18446744073709551616
    tallied-fits l =
        let each : (u : ℕ) → degree rows u ≤ 131072 = λ u. omega (arith, degree-few offsets neighbors u, g.short) in
        omega (arith, ap (λ (x : List ℕ). at x o) t, get_or-table (entries_to rows owners v) 256 o l, entries-few rows owners 131072 v o each, row_is, each v, g.few)

    pub tallied-more : Tallied (set counts o (at counts o + length us)) (v + 1)
    tallied-more = rw (own, row_is, t) (entries-more rows owners v)

  pub tallied-done : (counts : List ℕ) (v : ℕ) → Tallied counts v → v ≡ length owners → counts ≡ table (local_entries (rows_of offsets neighbors) owners) 256
  tallied-done counts v t e =
      let all : v ≡ length rows = e ∙ g.sized ∙ sym (length-rows offsets neighbors) in
      t ∙ ap (λ (w : ℕ). table (entries_to rows owners w) 256) all ∙ entries-all rows owners

-- ---- where all ranks own the same

module _ (offsets neighbors : List ℕ) (k : ℕ) (owners : List ℕ) (p : Passed offsets neighbors k owners) where
  even-ratio : (c : ℕ) → ((q : ℕ) → q < k → owned owners q ≡ c) → ratio (most_owned owners k) (vertex_count offsets) k ≡ float 1
  unfolding most_owned
  even-ratio c h =
      let own = passed-owners offsets neighbors k owners p in
      let at_place : (a : ℕ) → a < length (range 0 k) → owned owners (at (range 0 k) a) ≡ c =
      λ a l. let b : a < k = omega (arith, length-range 0 k) in ap (owned owners) (at-range k a b) ∙ h a b in
      let most : most_owned owners k ≡ c =
      greatest-is (owned owners) (range 0 k) c 0 (λ a l. omega (arith, at_place a l)) (omega (arith, length-range 0 k, own.some)) (at_place 0 (omega (arith, length-range 0 k, own.some))) in
      let all : vertex_count offsets ≡ c * k =
      sym p.sized
      ∙ sym (owned-all k owners own.ranked)
      ∙ total_ext 0 k (owned owners) (λ q. c) (λ q a b. h q (omega arith))
      ∙ total-same 0 k c
      ∙ mul_comm k c in
      let few = passed-lists offsets neighbors k owners p in
      rw most (ratio-even c (vertex_count offsets) k all (omega (arith, own.some, own.enough, p.sized)) (omega (arith, few.few, p.sized)))

-- ---- the answer

module _ (offsets neighbors : List ℕ) (k : ℕ) (owners : List ℕ) where
  pub told-refused
      : (r : Result PartitionTelemetry Refusal) (refusal : Refusal)
      → IsErrAnd r (λ y. y ≡ refusal)
      → refusal_number refusal ≡ telemetry_cause offsets neighbors k owners
      → TelemetryTold offsets neighbors k owners r
  unfolding telemetry_for
  told-refused (Ok x) refusal is e = absurd is
  told-refused (Err y) refusal is e =
      let number : refusal_number y ≡ telemetry_cause offsets neighbors k owners = ap refusal_number is ∙ e in
      let none = ne_eqb (telemetry_cause offsets neighbors k owners) 0 (λ z. refusal-some refusal (e ∙ z)) in
      record { answer = rw none; number = number; even = λ z. absurd (refusal-some y z) }

  pub told-measured
      : telemetry_cause offsets neighbors k owners ≡ 0
      → (t : PartitionTelemetry)
      → t ≡ telemetry_of offsets neighbors k owners
      → TelemetryTold offsets neighbors k owners (Ok t)
  unfolding telemetry_for telemetry_of
  told-measured z t e =
      record {
        answer = rw (eq-eqb (telemetry_cause offsets neighbors k owners) 0 z, e);
        number = sym z;
        even = λ q c h. even-ratio offsets neighbors k owners (passed offsets neighbors k owners z) c h;
      }
