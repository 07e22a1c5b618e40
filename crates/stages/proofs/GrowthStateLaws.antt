-- What parking and claiming do to a good memory. Assumes nothing.
use mathlib.Core.Path.{◌≡◌, refl, sym, ap, ap₂, ◌∙◌, subst}
use mathlib.Core.Logic.{◌≢◌}
use mathlib.Core.Bool.{Bool, true, false}
use mathlib.Core.List.{List, [], ◌∷◌, ◌++◌, append-nil}
use Prim.Native.Nat.{ℕ, suc, ◌+◌, ◌-◌, ◌≤◌, ◌<◌}
use native.Mathlib.Omega.{arith}
use lib.Dec.{eqb}
use lib.ListN.{length, set, drop, length-set, length-append}
use lib.Seq.{get_or-set_same, get_or-set_other, drop-append-le, drop-nil}
use borrow.Author.Tests.{eqb-true, eqb-false}
use Rattle.links.specs.Lists.{at, unassigned, elem, concat_map}
use Rattle.links.specs.Graph.{row, load}
use Rattle.links.proofs.ListLaws.{split, all_append}
use Rattle.stages.specs.FrontierCode.{cells, front, Chain, Going, Distinct, last, Below, Memory, memory, cells_of, front_of, Good, parked, owning, begun, appended, vacant_in}
use Rattle.stages.proofs.GrowthLaws.{vacant-set}
use Rattle.stages.proofs.FrontierLaws.{load-claim, load-other}
use Rattle.stages.proofs.ChainLaws.{cells-off, last-in, cells-push, cells-length, elem-one, elem-snoc, elem-drop, distinct_snoc, distinct-drop, last_snoc, last-drop, last-below, concat-snoc}

-- a change of rank r's chain
pub record Step (rows : List (List ℕ)) (weights : List ℕ) (k : ℕ) (m m' : Memory) (r : ℕ) : Type 0 where
  pub owners-all : length m'.owners ≡ length m.owners
  pub links-all : length m'.links ≡ length m.links
  pub loads-all : length m'.loads ≡ length m.loads
  pub heads-all : length m'.heads ≡ length m.heads
  pub tails-all : length m'.tails ≡ length m.tails
  pub places-all : length m'.places ≡ length m.places
  pub counts_all : length m'.counts ≡ length m.counts
  pub loads-are : (d : ℕ) → d < k → at m'.loads d ≡ load weights m'.owners d
  pub chain-here : Chain rows m'.links (length rows) (at m'.heads r) (at m'.places r) (at m'.counts r)
  pub distinct-here : Distinct (cells_of m' r)
  pub owned-here : (x : ℕ) → elem x (cells_of m' r) ≡ true → at m'.owners x ≡ r
  pub lasts-here : 0 < at m'.counts r → at m'.tails r ≡ last (cells_of m' r)
  pub short-here : at m'.counts r + vacant_in m'.owners ≤ length rows
  pub heads-there : (d : ℕ) → (d ≡ r → ⊥) → at m'.heads d ≡ at m.heads d
  pub tails-there : (d : ℕ) → (d ≡ r → ⊥) → at m'.tails d ≡ at m.tails d
  pub places-there : (d : ℕ) → (d ≡ r → ⊥) → at m'.places d ≡ at m.places d
  pub counts-there : (d : ℕ) → (d ≡ r → ⊥) → at m'.counts d ≡ at m.counts d
  pub cells-there : (d : ℕ) → d < k → (d ≡ r → ⊥) → cells_of m' d ≡ cells_of m d
  pub owners-stay : (x d : ℕ) → d < k → at m.owners x ≡ d → at m'.owners x ≡ d
  pub vacant-less : vacant_in m'.owners ≤ vacant_in m.owners

module _ {rows : List (List ℕ)} {weights : List ℕ} {k : ℕ} {m m' : Memory} {r : ℕ} (g : Good rows weights k m) (s : Step rows weights k m m' r) where
  by : (P : ℕ → Type 0) → P r → ((d : ℕ) → d < k → (d ≡ r → ⊥) → P d) → (d : ℕ) → d < k → P d
  by P a b d l = split (eqb d r) (λ p. subst P (sym (eqb-true d r p)) a) (λ p. b d l (eqb-false d r p))

  chain-there : (d : ℕ) → d < k → (d ≡ r → ⊥) → Chain rows m'.links (length rows) (at m'.heads d) (at m'.places d) (at m'.counts d)
  chain-there d l o = record {
    inside = rw (s.cells-there d l o) (g.chains d l).inside;
    place_in = rw (s.heads-there d o, s.places-there d o, s.counts-there d o) (g.chains d l).place_in;
  }

  pub good-step : Good rows weights k m'
  good-step = record {
    owners-all = s.owners-all ∙ g.owners-all;
    links-all = s.links-all ∙ g.links-all;
    loads-all = s.loads-all ∙ g.loads-all;
    heads-all = s.heads-all ∙ g.heads-all;
    tails-all = s.tails-all ∙ g.tails-all;
    places-all = s.places-all ∙ g.places-all;
    counts_all = s.counts_all ∙ g.counts_all;
    loads-are = s.loads-are;
    chains = by (λ d. Chain rows m'.links (length rows) (at m'.heads d) (at m'.places d) (at m'.counts d)) s.chain-here chain-there;
    distinct = by (λ d. Distinct (cells_of m' d)) s.distinct-here (λ d l o. rw (s.cells-there d l o) (g.distinct d l));
    owned = λ d x l. by (λ e. elem x (cells_of m' e) ≡ true → at m'.owners x ≡ e) (s.owned-here x)
        (λ e h o t. s.owners-stay x e h (g.owned e x h (rw (s.cells-there e h o) at t))) d l;
    lasts = by (λ d. 0 < at m'.counts d → at m'.tails d ≡ last (cells_of m' d)) s.lasts-here
        (λ d l o z. s.tails-there d o ∙ g.lasts d l (omega (arith, s.counts-there d o)) ∙ sym (ap last (s.cells-there d l o)));
    short = by (λ d. at m'.counts d + vacant_in m'.owners ≤ length rows) s.short-here
        (λ d l o. omega (arith, s.counts-there d o, s.vacant-less, g.short d l));
  }

  pub front-there : (d : ℕ) → d < k → (d ≡ r → ⊥) → front_of rows m' d ≡ front_of rows m d
  unfolding front_of front
  front-there d l o = ap₂ (λ (i : ℕ) (cs : List ℕ). drop i (concat_map (row rows) cs)) (s.places-there d o) (s.cells-there d l o)

-- ---- parking

module _ {rows : List (List ℕ)} {weights : List ℕ} {k : ℕ} {m : Memory} {r : ℕ} (g : Good rows weights k m) (l : r < k) {ok : ℕ → Bool} {h p n : ℕ}
    (t : Going rows m.links ok (length rows) (at m.heads r) (at m.places r) (at m.counts r) h p n) where
  eh : at (set m.heads r h) r ≡ h
  eh = get_or-set_same m.heads r h 0 (rw g.heads-all l)

  ep : at (set m.places r p) r ≡ p
  ep = get_or-set_same m.places r p 0 (rw g.places-all l)

  en : at (set m.counts r n) r ≡ n
  en = get_or-set_same m.counts r n 0 (rw g.counts_all l)

  cells-here : cells m.links h n ≡ drop (at m.counts r - n) (cells_of m r)
  cells-here = t.cells_are

  pub park-step : Step rows weights k m (parked m r h p n) r
  unfolding parked memory
  park-step = record {
    owners-all = refl;
    links-all = refl;
    loads-all = refl;
    heads-all = length-set m.heads r h;
    tails-all = refl;
    places-all = length-set m.places r p;
    counts_all = length-set m.counts r n;
    loads-are = g.loads-are;
    chain-here = rw (eh, ep, en) (record { inside = t.inside; place_in = t.place_in });
    distinct-here = rw (eh, en, cells-here) (distinct-drop (at m.counts r - n) (cells_of m r) (g.distinct r l));
    owned-here = λ x. rw (eh, en, cells-here) (λ q. g.owned r x l (elem-drop x (at m.counts r - n) (cells_of m r) q));
    lasts-here = rw (eh, en) (λ z.
        g.lasts r l (omega (arith, t.fewer))
        ∙ sym (ap last cells-here ∙ last-drop (at m.counts r - n) (cells_of m r) (omega (arith, ap length cells-here, cells-length m.links h n))));
    short-here = omega (arith, en, t.fewer, g.short r l);
    heads-there = λ d o. get_or-set_other m.heads r d h 0 o;
    tails-there = λ d o. refl;
    places-there = λ d o. get_or-set_other m.places r d p 0 o;
    counts-there = λ d o. get_or-set_other m.counts r d n 0 o;
    cells-there = λ d q o. rw (get_or-set_other m.heads r d h 0 o, get_or-set_other m.counts r d n 0 o);
    owners-stay = λ x d q e. e;
    vacant-less = omega arith;
  }

  pub park-front : front_of rows (parked m r h p n) r ≡ front rows m.links h p n
  unfolding parked memory front_of
  park-front = rw (eh, ep, en)

-- ---- claiming

module _ {rows : List (List ℕ)} {weights : List ℕ} {k : ℕ} {m : Memory} {r v : ℕ} (g : Good rows weights k m) (l : r < k) (kn : k < unassigned)
    (u : at m.owners v ≡ unassigned) (b : v < length rows) where
  rn : r ≢ unassigned
  rn q = omega arith

  abbrev os : List ℕ
  os = set m.owners v r

  abbrev ld : List ℕ
  ld = set m.loads r (at m.loads r + at weights v)

  new-loads : (d : ℕ) → d < k → at ld d ≡ load weights os d
  new-loads d q = split (eqb d r)
      (λ p. let e : d ≡ r = eqb-true d r p in
      subst (λ (j : ℕ). at ld j ≡ load weights os j) (sym e)
      (get_or-set_same m.loads r (at m.loads r + at weights v) 0 (rw g.loads-all l)
      ∙ ap (λ (x : ℕ). x + at weights v) (g.loads-are r l)
      ∙ sym (load-claim weights m.owners v r u rn (rw g.owners-all b))))
      (λ p. let o = eqb-false d r p in
      get_or-set_other m.loads r d (at m.loads r + at weights v) 0 o
      ∙ g.loads-are d q
      ∙ sym (load-other weights m.owners v r d u (λ z. omega arith) o))

  stay : (x d : ℕ) → d < k → at m.owners x ≡ d → at os x ≡ d
  stay x d q e = get_or-set_other m.owners v x r 0 (λ z. let c : d ≡ unassigned = sym e ∙ ap (at m.owners) z ∙ u in omega arith) ∙ e

  mine : at os v ≡ r
  mine = get_or-set_same m.owners v r 0 (rw g.owners-all b)

  fewer : suc (vacant_in os) ≡ vacant_in m.owners
  fewer = vacant-set m.owners v r u rn

  fresh : elem v (cells_of m r) ≡ false
  fresh = split (elem v (cells_of m r)) (λ p. absurd (rn (sym (g.owned r v l p) ∙ u))) (λ p. p)

  pub begin-step : at m.counts r ≡ 0 → Step rows weights k m (begun (owning m r v (at weights v)) r v) r
  unfolding begun owning memory cells last
  begin-step z =
      let eh = get_or-set_same m.heads r v 0 (rw g.heads-all l) in
      let et = get_or-set_same m.tails r v 0 (rw g.tails-all l) in
      let ep = get_or-set_same m.places r 0 0 (rw g.places-all l) in
      let en = get_or-set_same m.counts r 1 0 (rw g.counts_all l) in
      record {
        owners-all = length-set m.owners v r;
        links-all = refl;
        loads-all = length-set m.loads r (at m.loads r + at weights v);
        heads-all = length-set m.heads r v;
        tails-all = length-set m.tails r v;
        places-all = length-set m.places r 0;
        counts_all = length-set m.counts r 1;
        loads-are = new-loads;
        chain-here = rw (eh, ep, en) (record { inside = (b, tt); place_in = λ q. omega arith });
        distinct-here = rw (eh, en) (refl, tt);
        owned-here = λ x. rw (eh, en) (λ q. ap (at os) (eqb-true x v (sym (elem-one x v) ∙ q)) ∙ mine);
        lasts-here = rw (eh, en, et) (λ q. refl);
        short-here = omega (arith, en, fewer, g.short r l);
        heads-there = λ d o. get_or-set_other m.heads r d v 0 o;
        tails-there = λ d o. get_or-set_other m.tails r d v 0 o;
        places-there = λ d o. get_or-set_other m.places r d 0 0 o;
        counts-there = λ d o. get_or-set_other m.counts r d 1 0 o;
        cells-there = λ d q o. rw (get_or-set_other m.heads r d v 0 o, get_or-set_other m.counts r d 1 0 o);
        owners-stay = stay;
        vacant-less = omega (arith, fewer);
      }

  pub begin-front : at m.counts r ≡ 0 → front_of rows (begun (owning m r v (at weights v)) r v) r ≡ front_of rows m r ++ row rows v
  unfolding begun owning memory front_of front cells
  begin-front z =
      rw (get_or-set_same m.heads r v 0 (rw g.heads-all l), get_or-set_same m.places r 0 0 (rw g.places-all l), get_or-set_same m.counts r 1 0 (rw g.counts_all l), z)
      (append-nil (row rows v) ∙ sym (ap (λ (t : List ℕ). t ++ row rows v) (drop-nil (at m.places r))))

  module _ (c : ℕ) (z : at m.counts r ≡ suc c) where
    is_last : at m.tails r ≡ last (cells m.links (at m.heads r) (suc c))
    is_last = rw z at (g.lasts r l (rw z (omega arith)))

    pub tail-facts : (at m.tails r < length rows) × (elem (at m.tails r) (cells_of m r) ≡ true)
    unfolding cells
    tail-facts =
        let h₀ = at m.heads r in
        let w = cells m.links (at m.links h₀) c in
        let i : Below (length rows) (h₀ ∷ w) = rw z at (g.chains r l).inside in
        (rw is_last (last-below (length rows) h₀ w i), rw (is_last, z) (last-in h₀ w))

    now-here : cells (set m.links (at m.tails r) v) (at m.heads r) (suc (suc c)) ≡ cells m.links (at m.heads r) (suc c) ++ (v ∷ [])
    now-here = cells-push m.links (at m.tails r) v (at m.heads r) c (rw g.links-all tail-facts.0) is_last (rw z at (g.distinct r l))

    now-there : (d : ℕ) → d < k → (d ≡ r → ⊥) → cells (set m.links (at m.tails r) v) (at m.heads d) (at m.counts d) ≡ cells_of m d
    now-there d q o = cells-off m.links (at m.tails r) v (at m.heads d) (at m.counts d)
        (split (elem (at m.tails r) (cells_of m d))
        (λ p. absurd (o (sym (g.owned d (at m.tails r) q p) ∙ g.owned r (at m.tails r) l tail-facts.1)))
        (λ p. p))

    count-now : at (set m.counts r (at m.counts r + 1)) r ≡ suc (suc c)
    count-now = get_or-set_same m.counts r (at m.counts r + 1) 0 (rw g.counts_all l) ∙ omega (arith, z)

    tail-now : at (set m.tails r v) r ≡ v
    tail-now = get_or-set_same m.tails r v 0 (rw g.tails-all l)

    old : cells m.links (at m.heads r) (suc c) ≡ cells_of m r
    old = ap (cells m.links (at m.heads r)) (sym z)

    pub append-step : Step rows weights k m (appended (owning m r v (at weights v)) r v) r
    unfolding appended owning memory
    append-step = record {
      owners-all = length-set m.owners v r;
      links-all = length-set m.links (at m.tails r) v;
      loads-all = length-set m.loads r (at m.loads r + at weights v);
      heads-all = refl;
      tails-all = length-set m.tails r v;
      places-all = refl;
      counts_all = length-set m.counts r (at m.counts r + 1);
      loads-are = new-loads;
      chain-here = rw count-now (record {
        inside = rw (now-here, old) (all_append (λ x. x < length rows) (cells_of m r) (v ∷ []) (g.chains r l).inside (b, tt));
        place_in = λ q. (g.chains r l).place_in (omega (arith, z));
      });
      distinct-here = rw (count-now, now-here, old) (distinct_snoc (cells_of m r) v (g.distinct r l) fresh);
      owned-here = λ x. rw (count-now, now-here, old, elem-snoc x (cells_of m r) v) (λ q. split (elem x (cells_of m r))
          (λ p. stay x r l (g.owned r x l p))
          (λ p. ap (at os) (eqb-true x v (rw p at q)) ∙ mine));
      lasts-here = rw (count-now, now-here, tail-now, last_snoc) (λ q. refl);
      short-here = omega (arith, count-now, z, fewer, g.short r l);
      heads-there = λ d o. refl;
      tails-there = λ d o. get_or-set_other m.tails r d v 0 o;
      places-there = λ d o. refl;
      counts-there = λ d o. get_or-set_other m.counts r d (at m.counts r + 1) 0 o;
      cells-there = λ d q o. rw (get_or-set_other m.counts r d (at m.counts r + 1) 0 o) (now-there d q o);
      owners-stay = stay;
      vacant-less = omega (arith, fewer);
    }

    later : List ℕ
    later = concat_map (row rows) (cells m.links (at m.links (at m.heads r)) c)

    first-row : concat_map (row rows) (cells m.links (at m.heads r) (suc c)) ≡ row rows (at m.heads r) ++ later
    unfolding cells later
    first-row = refl

    long : at m.places r ≤ length (concat_map (row rows) (cells_of m r))
    long =
        omega (arith, (g.chains r l).place_in (omega (arith, z)), ap (λ (x : List ℕ). length (concat_map (row rows) x)) old, ap length first-row, length-append (row rows (at m.heads r)) later)

    pub append-front : front_of rows (appended (owning m r v (at weights v)) r v) r ≡ front_of rows m r ++ row rows v
    unfolding appended owning memory front_of front
    append-front =
        let cs = cells_of m r in
        let e : concat_map (row rows) (cells (set m.links (at m.tails r) v) (at m.heads r) (suc (suc c))) ≡ concat_map (row rows) cs ++ row rows v =
        ap (concat_map (row rows)) (now-here ∙ ap (λ (x : List ℕ). x ++ (v ∷ [])) old) ∙ concat-snoc (row rows) cs v in
        rw count-now (ap (drop (at m.places r)) e ∙ drop-append-le (at m.places r) (concat_map (row rows) cs) (row rows v) long)
