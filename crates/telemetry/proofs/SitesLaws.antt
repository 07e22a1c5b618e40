-- Several sites: where each lies, its tests, what it counts, and the sums over the first i. Assumes nothing.
use Rattle.std.proofs.Common.{◌≡◌, ℕ, zero, suc, ◌+◌, ◌-◌, ◌*◌, ◌/◌, ◌%◌, ◌<◌, ◌≤◌, Bool, true, false, cond, not, ◌||◌, eqb, ltb, ◌≢◌, List, [], ◌∷◌, ◌++◌, map, length, sym, refl, ap, ◌∙◌, mul-le-mul, add-one, arith, ltb-false, lt-ltb, eq-eqb, ne_eqb, eqb-true}
use mathlib.Core.List.{map-append}
use mathlib.Core.Option.{some}
use borrow.Author.Tests.{eqb-false}
use Rattle.links.specs.Lists.{at, range, sum, greatest, best}
use Rattle.links.specs.Loads.{saturating}
use Rattle.links.specs.Graph.{vertex_count, rows_of, owned, links_cut, cut_entries, OwnedLists}
use Rattle.links.proofs.ListLaws.{split, or_l, or_r, sum-append, all_in, elem-range, greatest-bounds, greatest-least, count-length}
use Rattle.links.proofs.CutLaws.{cut_twice, cut-few, cut_fits}
use Rattle.links.proofs.OwnerLaws.{Assigned}
use Rattle.links.proofs.PartLaws.{length_part}
use Rattle.links.proofs.RangeLaws.{range_snoc}
use Rattle.telemetry.specs.Telemetry.{most_owned, telemetry_cause}
use Rattle.telemetry.specs.Sites.{Sites, site_count, bad_sizes, stated_vertices, stated_entries, stated_ranks, stated_owners, offsets_to, neighbors_to, owners_to, site_offsets, site_neighbors, site_owners, ends_early, cause_at, first_cause, sites_cause, cut_at, share_at, higher_share, named_site, totals_of, balance_of, Largest, SitesTold}
use Rattle.telemetry.specs.SitesCode.{counts_of, counts_at, with_site, sum_to, SmallSum, SmallCounts, AllPass}
use Rattle.telemetry.specs.declared.sites.Sum.{Sum}
use Rattle.telemetry.specs.declared.sites.SiteCounts.{SiteCounts}
use Rattle.telemetry.specs.declared.sites.Totals.{Totals}
use Rattle.std.specs.Prelude.{Result, Ok, Err}
use Rattle.std.specs.Result.{IsErrAnd}
use Rattle.links.specs.Refusals.{refusal_number}
use Rattle.links.specs.declared.refusal.Refusal.{Refusal}
use Rattle.links.proofs.RefusalLaws.{refusal-some}
use Rattle.telemetry.proofs.SiteLaws.{Passed, passed, passed-lists, passed-owners}
use Rattle.telemetry.proofs.ShareLaws.{best-more, Top, top-first, top-more}

sum_more : (f : ℕ → ℕ) (i : ℕ) → sum (map f (range 0 (i + 1))) ≡ sum (map f (range 0 i)) + f i
sum_more f i =
    let e : range 0 (i + 1) ≡ range 0 i ++ (i ∷ []) = rw add-one (range_snoc 0 i i (omega arith)) in
    ap (λ (l : List ℕ). sum (map f l)) e
    ∙ ap sum (map-append f (range 0 i) (i ∷ []))
    ∙ sum-append (map f (range 0 i)) (f i ∷ [])
    ∙ omega arith

-- ---- 22

pub sizes-passed : (sizes : List ℕ) → bad_sizes sizes ≡ false → (1 ≤ length sizes / 4) × (length sizes / 4 ≤ 16)
unfolding bad_sizes
sizes-passed sizes e =
    let a = not (eqb (length sizes % 4) 0) in
    let b = eqb (length sizes / 4) 0 in
    let d = ltb 16 (length sizes / 4) in
    let some = eqb-false (length sizes / 4) 0 (or_r a b (or_l (a || b) d e)) in
    (omega arith, ltb-false 16 (length sizes / 4) (or_r (a || b) d e))

-- ---- where the sites lie

module _ (sizes : List ℕ) (i : ℕ) where
  pub offsets-more : offsets_to sizes (i + 1) ≡ offsets_to sizes i + (stated_vertices sizes i + 1)
  unfolding offsets_to
  offsets-more = sum_more (λ j. stated_vertices sizes j + 1) i

  pub neighbors-more : neighbors_to sizes (i + 1) ≡ neighbors_to sizes i + stated_entries sizes i
  unfolding neighbors_to
  neighbors-more = sum_more (stated_entries sizes) i

  pub owners-more : owners_to sizes (i + 1) ≡ owners_to sizes i + stated_owners sizes i
  unfolding owners_to
  owners-more = sum_more (stated_owners sizes) i

-- and ends no earlier
pub offsets_rise : (sizes : List ℕ) (i : ℕ) → offsets_to sizes i ≤ offsets_to sizes (i + 1)
offsets_rise sizes i = omega (arith, offsets-more sizes i)

pub neighbors_rise : (sizes : List ℕ) (i : ℕ) → neighbors_to sizes i ≤ neighbors_to sizes (i + 1)
neighbors_rise sizes i = omega (arith, neighbors-more sizes i)

pub owners_rise : (sizes : List ℕ) (i : ℕ) → owners_to sizes i ≤ owners_to sizes (i + 1)
owners_rise sizes i = omega (arith, owners-more sizes i)

-- ---- the tests of site i

-- no slice ends before it does
pub record Fits (s : Sites) (i : ℕ) : Type 0 where
  pub offsets : offsets_to s.sizes (i + 1) ≤ length s.offsets
  pub neighbors : neighbors_to s.sizes (i + 1) ≤ length s.neighbors
  pub owners : owners_to s.sizes (i + 1) ≤ length s.owners

module _ (s : Sites) (i : ℕ) where
  -- what a site is that passes
  module _ (z : cause_at s i ≡ 0) where
    pub in-time : ends_early s i ≡ false
    unfolding cause_at
    in-time = split (ends_early s i)
        (λ p. let x : ◌≡◌ {A = ℕ} 5 0 = rw p at z in absurd (omega arith))
        (λ p. p)

    pub site-tested : telemetry_cause (site_offsets s i) (site_neighbors s i) (stated_ranks s.sizes i) (site_owners s i) ≡ 0
    unfolding cause_at
    site-tested = rw in-time at z

    pub site-fits : Fits s i
    unfolding ends_early
    site-fits =
        let a = ltb (length s.offsets) (offsets_to s.sizes (i + 1)) in
        let b = ltb (length s.neighbors) (neighbors_to s.sizes (i + 1)) in
        let d = ltb (length s.owners) (owners_to s.sizes (i + 1)) in
        record {
          offsets = ltb-false (length s.offsets) (offsets_to s.sizes (i + 1)) (or_l a b (or_l (a || b) d in-time));
          neighbors = ltb-false (length s.neighbors) (neighbors_to s.sizes (i + 1)) (or_r a b (or_l (a || b) d in-time));
          owners = ltb-false (length s.owners) (owners_to s.sizes (i + 1)) (or_r (a || b) d in-time);
        }

    site-passed : Passed (site_offsets s i) (site_neighbors s i) (stated_ranks s.sizes i) (site_owners s i)
    site-passed = passed (site_offsets s i) (site_neighbors s i) (stated_ranks s.sizes i) (site_owners s i) site-tested

    -- its offsets are of the stated vertices
    vertices-are : vertex_count (site_offsets s i) ≡ stated_vertices s.sizes i
    vertices-are =
        let more = offsets-more s.sizes i in
        omega (arith, length_part s.offsets (offsets_to s.sizes i) (offsets_to s.sizes (i + 1)) (omega arith) site-fits.offsets, more)

-- ---- the first refusal, from i on

module _ (f : ℕ → ℕ) (i n : ℕ) (h : i < n) where
  pub first-hit : f i ≢ 0 → first_cause (map f (range i (n - i))) ≡ f i
  first-hit d =
      let e : n - i ≡ suc (n - (i + 1)) = omega arith in
      rw (e, ne_eqb (f i) 0 d)

  pub first-miss : f i ≡ 0 → first_cause (map f (range (i + 1) (n - (i + 1)))) ≡ first_cause (map f (range i (n - i)))
  first-miss z =
      let e : n - i ≡ suc (n - (i + 1)) = omega arith in
      rw (e, add-one, eq-eqb (f i) 0 z)

pub first_done : (f : ℕ → ℕ) (i n : ℕ) → n ≤ i → 0 ≡ first_cause (map f (range i (n - i)))
first_done f i n h = let e : n - i ≡ 0 = omega arith in rw e

first-none : (f : ℕ → ℕ) (a n : ℕ) → first_cause (map f (range a n)) ≡ 0 → (i : ℕ) → a ≤ i → i < a + n → f i ≡ 0
first-none f a zero z i h k = absurd (omega arith)
first-none f a (suc n) z i h k = split (eqb (f a) 0)
    (λ p. split (eqb i a)
    (λ q. ap f (eqb-true i a q) ∙ eqb-true (f a) 0 p)
    (λ q. let d = eqb-false i a q in first-none f (suc a) n (rw p at z) i (omega arith) (omega arith)))
    (λ p. absurd (eqb-false (f a) 0 p (rw p at z)))

pub cause-sizes : (s : Sites) → bad_sizes s.sizes ≡ true → 22 ≡ sites_cause s
unfolding sites_cause
cause-sizes s e = rw e

pub cause-first : (s : Sites) → bad_sizes s.sizes ≡ false → first_cause (map (cause_at s) (range 0 (site_count s))) ≡ sites_cause s
unfolding sites_cause
cause-first s e = rw e

-- where none is refused
pub all_pass : (s : Sites) → sites_cause s ≡ 0 → AllPass s
unfolding sites_cause
all_pass s z = split (bad_sizes s.sizes)
    (λ p. let x : ◌≡◌ {A = ℕ} 22 0 = rw p at z in absurd (omega arith))
    (λ p.
    let n = sizes-passed s.sizes p in
    record { some = n.0; few = n.1; pass = λ i h. first-none (cause_at s) 0 (site_count s) (rw p at z) i (omega arith) (omega arith) })

-- ---- what a site counts

module _ (offsets neighbors : List ℕ) (k : ℕ) (owners : List ℕ) (z : telemetry_cause offsets neighbors k owners ≡ 0) where
  pub owned-lists : OwnedLists offsets neighbors owners
  owned-lists = passed-lists offsets neighbors k owners (passed offsets neighbors k owners z)

  pub few-ranks : k ≤ 256
  few-ranks = (passed-owners offsets neighbors k owners (passed offsets neighbors k owners z)).few

  -- half of the entries with two owners
  pub half-cut : (x : ℕ) → x ≡ saturating (cut_entries (rows_of offsets neighbors) owners) → x / 2 ≡ links_cut (rows_of offsets neighbors) owners
  half-cut x e = omega (arith, cut_fits offsets neighbors owners owned-lists x e, cut_twice (rows_of offsets neighbors) owned-lists.lists.sound owners)

  few-cuts : links_cut (rows_of offsets neighbors) owners ≤ 131072 * 16384
  few-cuts = omega (arith, cut_twice (rows_of offsets neighbors) owned-lists.lists.sound owners, cut-few offsets neighbors owners owned-lists)

  few-most : most_owned owners k ≤ 16384
  unfolding most_owned owned
  few-most = omega (arith, greatest-least (owned owners) (range 0 k) (length owners) (λ a h. count-length (eqb (at (range 0 k) a)) owners), owned-lists.few)

  pub counts-are : (c : SiteCounts) → c.vertices ≡ length owners → c.ranks ≡ k → c.cut_links ≡ links_cut (rows_of offsets neighbors) owners → c.most ≡ most_owned owners k
      → c ≡ counts_of offsets neighbors k owners
  unfolding counts_of
  counts-are c v r u m = rw (v, r, u, m, owned-lists.sized)

  small-counts : SmallCounts (counts_of offsets neighbors k owners)
  unfolding counts_of
  small-counts =
      record { vertices = omega (arith, owned-lists.sized, owned-lists.few); ranks = few-ranks; cuts = few-cuts; most = few-most }

-- ---- the sums over the first sites

either : (b : Bool) (x y m : ℕ) → x ≤ m → y ≤ m → cond b x y ≤ m
either true x y m h k = h
either false x y m h k = k

-- the share that is kept: none yet, or that of the site named among those so far
pub record Held (s : Sites) (i : ℕ) (u : Sum) : Type 0 where
  pub best-is : best (higher_share s) (range 0 i) ≡ some u.site
  pub share-is : u.share ≡ share_at s u.site
  pub size_is : u.size ≡ stated_vertices s.sizes u.site
  pub top : Top (share_at s) (stated_vertices s.sizes) i u.site

pub record Summed (s : Sites) (i : ℕ) (u : Sum) : Type 0 where
  pub vertices : u.vertices ≡ sum (map (stated_vertices s.sizes) (range 0 i))
  pub ranks : u.ranks ≡ sum (map (stated_ranks s.sizes) (range 0 i))
  pub cuts : u.cut_links ≡ sum (map (cut_at s) (range 0 i))
  pub small : SmallSum u i
  pub none : i ≡ 0 → (u.share ≡ 0) × (u.size ≡ 1)
  pub held : 1 ≤ i → Held s i u

module _ (s : Sites) (a : AllPass s) where
  -- site i, of which what it counts is at hand
  module _ (i : ℕ) (h : i < site_count s) where
    here : telemetry_cause (site_offsets s i) (site_neighbors s i) (stated_ranks s.sizes i) (site_owners s i) ≡ 0
    here = site-tested s i (a.pass i h)

    pub small_at : SmallCounts (counts_at s i)
    unfolding counts_at
    small_at = small-counts (site_offsets s i) (site_neighbors s i) (stated_ranks s.sizes i) (site_owners s i) here

    at-vertices : (counts_at s i).vertices ≡ stated_vertices s.sizes i
    unfolding counts_at counts_of
    at-vertices = vertices-are s i (a.pass i h)

    at-ranks : (counts_at s i).ranks ≡ stated_ranks s.sizes i
    unfolding counts_at counts_of
    at-ranks = refl

    at-cuts : (counts_at s i).cut_links ≡ cut_at s i
    unfolding counts_at counts_of cut_at
    at-cuts = refl

    at-share : (counts_at s i).most * (counts_at s i).ranks ≡ share_at s i
    unfolding counts_at counts_of share_at
    at-share = refl

    own : Assigned (stated_ranks s.sizes i) (site_owners s i)
    own = passed-owners (site_offsets s i) (site_neighbors s i) (stated_ranks s.sizes i) (site_owners s i) (site-passed s i (a.pass i h))

    -- a site has a vertex, and its share is not 0
    some-vertex : 1 ≤ stated_vertices s.sizes i
    some-vertex = omega (arith, own.some, own.enough, (site-passed s i (a.pass i h)).sized, vertices-are s i (a.pass i h))

    some_share : 1 ≤ share_at s i
    unfolding share_at most_owned
    some_share =
        let k = stated_ranks s.sizes i in
        let o = site_owners s i in
        let first : 1 ≤ owned o 0 = own.filled 0 (omega (arith, own.some)) in
        let bound : owned o 0 ≤ greatest (map (owned o) (range 0 k)) = all_in (λ x. owned o x ≤ greatest (map (owned o) (range 0 k))) (range 0 k) 0 (greatest-bounds (owned o) (range 0 k)) (elem-range 0 0 k (omega arith) (omega (arith, own.some))) in
        mul-le-mul {n₁ = 1} {m₁ = 1} {n₂ = greatest (map (owned o) (range 0 k))} {m₂ = k} (omega (arith, first, bound)) own.some

  -- one site more
  module _ (i : ℕ) (h : i < site_count s) (u : Sum) (t : Summed s i u) where
    abbrev c : SiteCounts
    c = counts_at s i

    abbrev larger : Bool
    larger = ltb (u.share * c.vertices) (c.most * c.ranks * u.size)

    first-held : i ≡ 0 → Held s (i + 1) (with_site u i c)
    unfolding with_site
    first-held e =
        let o = t.none e in
        let low : u.share * c.vertices ≡ 0 = ap (λ (x : ℕ). x * c.vertices) o.0 ∙ omega arith in
        let high : c.most * c.ranks * u.size ≡ share_at s i = ap (λ (x : ℕ). c.most * c.ranks * x) o.1 ∙ omega (arith, (at-share i h)) in
        let p : larger ≡ true = lt-ltb (u.share * c.vertices) (c.most * c.ranks * u.size) (omega (arith, low, high, (some_share i h))) in
        let one : i + 1 ≡ 1 = omega arith in
        rw (p, one) (record { best-is = rw e; share-is = (at-share i h); size_is = (at-vertices i h); top = rw e (top-first (share_at s) (stated_vertices s.sizes)) })

    later-held : 1 ≤ i → Held s (i + 1) (with_site u i c)
    unfolding with_site higher_share
    later-held l =
        let o = t.held l in
        let w = u.site in
        let n = stated_vertices s.sizes in
        let same : larger ≡ ltb (share_at s w * n i) (share_at s i * n w) = rw (o.share-is, o.size_is, (at-vertices i h), (at-share i h)) in
        let pos : (j : ℕ) → j < i → 1 ≤ n j = λ j k. some-vertex j (omega arith) in
        let next = top-more (share_at s) n i w pos o.top in
        let chosen = best-more (higher_share s) i w o.best-is in
        split larger
        (λ p. let q : ltb (share_at s w * n i) (share_at s i * n w) ≡ true = sym same ∙ p in
        rw p (record { best-is = rw q at chosen; share-is = (at-share i h); size_is = (at-vertices i h); top = rw q at next }))
        (λ p. let q : ltb (share_at s w * n i) (share_at s i * n w) ≡ false = sym same ∙ p in
        rw p (record { best-is = rw q at chosen; share-is = o.share-is; size_is = o.size_is; top = rw q at next }))

    held_next : Held s (i + 1) (with_site u i c)
    held_next = split (eqb i 0) (λ p. first-held (eqb-true i 0 p)) (λ p. let d = eqb-false i 0 p in later-held (omega arith))

    pub summed-more : Summed s (i + 1) (with_site u i c)
    unfolding with_site
    summed-more =
        let g = small_at i h in
        record {
          vertices = omega (arith, t.vertices, at-vertices i h, sum_more (stated_vertices s.sizes) i);
          ranks = omega (arith, t.ranks, at-ranks i h, sum_more (stated_ranks s.sizes) i);
          cuts = omega (arith, t.cuts, at-cuts i h, sum_more (cut_at s) i);
          small = record {
            vertices = omega (arith, t.small.vertices, g.vertices);
            ranks = omega (arith, t.small.ranks, g.ranks);
            cuts = omega (arith, t.small.cuts, g.cuts);
            share = either larger (c.most * c.ranks) u.share 4194304 (mul-le-mul {n₁ = c.most} {m₁ = c.ranks} {n₂ = 16384} {m₂ = 256} g.most g.ranks) t.small.share;
            size = either larger c.vertices u.size 16384 g.vertices t.small.size;
          };
          none = λ e. absurd (omega arith);
          held = λ l. held_next;
        }

  pub summed : (i : ℕ) → i ≤ site_count s → Summed s i (sum_to s i)
  unfolding sum_to
  summed zero h = record {
    vertices = refl;
    ranks = refl;
    cuts = refl;
    small = record { vertices = omega arith; ranks = omega arith; cuts = omega arith; share = omega arith; size = omega arith };
    none = λ e. (refl, refl);
    held = λ l. absurd (omega arith);
  }
  summed (suc i) h =
      let e : i + 1 ≡ suc i = omega arith in
      rw e at (summed-more i (omega arith) (sum_to s i) (summed i (omega arith)))

  pub sum-next : (i : ℕ) → with_site (sum_to s i) i (counts_at s i) ≡ sum_to s (i + 1)
  unfolding sum_to
  sum-next i = rw add-one

  -- what they come to
  end : Summed s (site_count s) (sum_to s (site_count s))
  end = summed (site_count s) (omega arith)

  named-is : named_site s ≡ (sum_to s (site_count s)).site
  unfolding named_site
  named-is = rw (end.held a.some).best-is

  pub totals-are : (t : Totals) → (let u = sum_to s (site_count s) in t ≡ record { vertices = u.vertices; ranks = u.ranks; cut_links = u.cut_links; site = u.site }) → t ≡ totals_of s
  unfolding totals_of
  totals-are t e = e ∙ rw (end.vertices, end.ranks, end.cuts, named-is)

  pub named-largest : Largest s (named_site s)
  named-largest =
      let top = (end.held a.some).top in
      rw named-is (record { is-site = top.there; largest = top.largest; earlier = top.earlier })

-- ---- the answer

module _ (s : Sites) where
  pub told-refused : (r : Result Totals Refusal) (refusal : Refusal) → IsErrAnd r (λ y. y ≡ refusal) → refusal_number refusal ≡ sites_cause s → SitesTold s r
  unfolding balance_of
  told-refused (Ok x) refusal is e = absurd is
  told-refused (Err y) refusal is e =
      let number : refusal_number y ≡ sites_cause s = ap refusal_number is ∙ e in
      let none = ne_eqb (sites_cause s) 0 (λ z. refusal-some refusal (e ∙ z)) in
      record { answer = rw none; number = number; named = λ z. absurd (refusal-some y z) }

  pub told-added : sites_cause s ≡ 0 → (t : Totals) → t ≡ totals_of s → SitesTold s (Ok t)
  unfolding balance_of
  told-added z t e =
      record { answer = rw (z, e); number = sym z; named = λ q. named-largest s (all_pass s z) }
