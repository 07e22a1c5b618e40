-- Rule 7's listing in the work slice: a vertex is offered to the list of each other rank among its neighbors' owners, once. Assumes nothing.
use Prim.Native.Nat.{ℕ, zero, suc, ◌+◌, ◌-◌, ◌*◌, ◌≤◌, ◌<◌}
use mathlib.Core.Path.{◌≡◌, refl, sym, ap, ◌∙◌}
use mathlib.Core.Bool.{Bool, true, false, not, cond, true≢false}
use mathlib.Core.List.{List, map}
use mathlib.Core.Logic.{◌⊎◌, inl, inr, ⊎_elim}
use native.Mathlib.Omega.{arith}
use native.Mathlib.Nat.{mul-le-mul_right}
use lib.Dec.{eqb, ltb}
use lib.ListN.{length, set, take, length-set}
use lib.Seq.{get_or-set_same, get_or-set_other}
use borrow.Author.Tests.{eq-eqb, ne_eqb, eqb-true, eqb-false, ltb-true, ltb-false, lt-ltb, le-ltb}
use Rattle.links.specs.Lists.{at, any, insert}
use Rattle.links.specs.Parts.{part, put_back, Kept}
use Rattle.links.specs.Graph.{row, links_in, links_to}
use Rattle.links.proofs.ListLaws.{split, tally, any_of, to-any, elem-map}
use Rattle.links.proofs.PartLaws.{get_or-part, length_part, part-put_back, kept_refl, kept_trans, kept-wide, kept_set, kept-put_back, kept-part-before, kept-part-after}
use Rattle.stages.specs.Level.{offsets_at, neighbors_at, rows_at, owners_at}
use Rattle.stages.specs.Swaps.{candidates}
use Rattle.stages.specs.Keys.{candidate, key_of, higher, filled, Falling}
use Rattle.stages.specs.MovesCode.{Clear, Tallied}
use Rattle.stages.specs.SwapsCode.{list_place, list_at, Given, AllSorted, FewTallied, bordering, Offered, Waiting, Met, Offering, OfferedEntry, Listed, Holding}
use Rattle.stages.specs.declared.swaps.SwapRoom.{SwapRoom}
use Rattle.stages.proofs.TallyLaws.{any-cons, links-cons, links-none, links-some}
use Rattle.stages.proofs.LevelLaws.{length-neighbors, all-vertices, neighbors-kept, row-part, row_ends, rows-kept, owners-kept, beneath}
use Rattle.stages.proofs.SwapListLaws.{offer-other, offer-none, offer-some, listed_to, listed_more, links-few, listed-all}
use Rattle.stages.proofs.SwapsSliceLaws.{rows_short, rows_few, vertices-are}
use Rattle.stages.proofs.SwapStepLaws.{given-after}

-- ---- the places of k × k lists

pub pair-below : (a b k : ℕ) → a < k → b < k → a * k + b < k * k
pair-below a b k h m =
    let z : (a + 1) * k ≤ k * k = mul-le-mul_right k (omega arith) in
    omega arith

-- different ranks have different lists
pub pair-apart : (a b c d k : ℕ) → b < k → d < k → a * k + b ≡ c * k + d → (a ≡ c) × (b ≡ d)
pair-apart a b c d k h m e = split (ltb a c)
    (λ p.
    let q : a < c = ltb-true a c p in
    let z : (a + 1) * k ≤ c * k = mul-le-mul_right k (omega arith) in
    absurd (omega arith))
    (λ p.
    let q : c ≤ a = ltb-false a c p in
    split (ltb c a)
    (λ p.
    let q : c < a = ltb-true c a p in
    let z : (c + 1) * k ≤ a * k = mul-le-mul_right k (omega arith) in
    absurd (omega arith))
    (λ p.
    let r : a ≤ c = ltb-false c a p in
    let f : a ≡ c = omega arith in
    let g : a * k ≡ c * k = ap (λ (i : ℕ). i * k) f in
    (f, omega arith)))

module _ {w w' : List ℕ} (s : SwapRoom) where
  -- a list stays where something before the lists changed, or another list
  part-kept
      : {x e : ℕ} → Kept x e w' w → e ≤ s.lists → (a b : ℕ)
      → part w' (list_place s a b) (list_place s a b + s.list_length) ≡ part w (list_place s a b) (list_place s a b + s.list_length)
  part-kept {x} {e} k h a b = kept-part-after x e w' w k (list_place s a b) (list_place s a b + s.list_length) (omega arith)

  pub list-kept : {x e : ℕ} → Kept x e w' w → e ≤ s.lists → (a b : ℕ) → list_at w' s a b ≡ list_at w s a b
  list-kept k h a b = ap filled (part-kept k h a b)

  pub sorted-kept : {x e : ℕ} → Kept x e w' w → e ≤ s.lists → AllSorted w s → AllSorted w' s
  sorted-kept k h o a b p q = rw (part-kept k h a b) (o a b p q)

  part-other
      : s.list_length ≤ 12
      → (a b : ℕ)
      → Kept (list_place s a b) (list_place s a b + s.list_length) w' w
      → (c d : ℕ)
      → b < s.limits.ranks
      → d < s.limits.ranks
      → ((c ≡ a) × (d ≡ b) → ⊥)
      → part w' (list_place s c d) (list_place s c d + s.list_length) ≡ part w (list_place s c d) (list_place s c d + s.list_length)
  part-other few a b k c d h m f =
      let p = a * s.limits.ranks + b in
      let q = c * s.limits.ranks + d in
      split (ltb q p)
      (λ l.
      let z : q < p = ltb-true q p l in
      kept-part-before (list_place s a b) (list_place s a b + s.list_length) w' w k (list_place s c d) (list_place s c d + s.list_length) (omega arith))
      (λ l.
      let z : p ≤ q = ltb-false q p l in
      let y : p < q = split (ltb p q) (λ i. ltb-true p q i) (λ i. let j : q ≤ p = ltb-false p q i in absurd (f (pair-apart c d a b s.limits.ranks m h (omega arith)))) in
      kept-part-after (list_place s a b) (list_place s a b + s.list_length) w' w k (list_place s c d) (list_place s c d + s.list_length) (omega arith))

  pub list-other
      : s.list_length ≤ 12
      → (a b : ℕ)
      → Kept (list_place s a b) (list_place s a b + s.list_length) w' w
      → (c d : ℕ)
      → b < s.limits.ranks
      → d < s.limits.ranks
      → ((c ≡ a) × (d ≡ b) → ⊥)
      → list_at w' s c d ≡ list_at w s c d
  list-other few a b k c d h m f = ap filled (part-other few a b k c d h m f)

  -- where one list changed and is sorted, and the others were
  pub sorted-other
      : s.list_length ≤ 12
      → (a b : ℕ)
      → Kept (list_place s a b) (list_place s a b + s.list_length) w' w
      → b < s.limits.ranks
      → Falling (part w' (list_place s a b) (list_place s a b + s.list_length))
      → AllSorted w s
      → AllSorted w' s
  sorted-other few a b k h here o c d p q = split (eqb c a)
      (λ x. split (eqb d b)
      (λ y. let e : c ≡ a = eqb-true c a x in let f : d ≡ b = eqb-true d b y in rw (e, f) here)
      (λ y. let n = eqb-false d b y in rw (part-other few a b k c d h q (λ z. n z.1)) (o c d p q)))
      (λ x. let n = eqb-false c a x in rw (part-other few a b k c d h q (λ z. n z.0)) (o c d p q))

-- empty lists are sorted
pub sorted-empty : {w : List ℕ} {s : SwapRoom} → Given w s → Clear w s.lists (12 * (s.limits.ranks * s.limits.ranks)) → AllSorted w s
sorted-empty {w} {s} g z a b p q i j h k =
    let l = list_place s a b in
    let few : s.list_length ≤ 12 = g.few-listed in
    let m = pair-below a b s.limits.ranks p q in
    let n : j < s.list_length = omega (arith, length_part w l (l + s.list_length) (omega arith) (omega (arith, g.lists-in))) in
    let e : s.lists + (12 * (a * s.limits.ranks + b) + j) ≡ l + j = omega arith in
    let y : at (part w l (l + s.list_length)) j ≡ 0 = get_or-part w l (l + s.list_length) j (omega arith) ∙ (rw e at (z (12 * (a * s.limits.ranks + b) + j) (omega arith))) in
    omega arith

-- the room stays where something from the used flags on changed
module _ {w w' : List ℕ} {s : SwapRoom} {x e : ℕ} (g : Given w s) (k : Kept x e w' w) (h : s.used ≤ x) where
  pub owners-same : owners_at w' s.level ≡ owners_at w s.level
  owners-same = owners-kept g.ready k h

  pub rows_same : rows_at w' s.level ≡ rows_at w s.level
  rows_same = rows-kept g.ready k (beneath g.ready (omega (arith, g.ready.laid.owners-in)))

  pub given-kept : Given w' s
  given-kept = given-after x e g k (omega (arith, g.ready.laid.owners-in)) (λ v m. rw owners-same (g.ranked v m))

pub positive : (n : ℕ) → (n ≡ 0 → ⊥) → 0 < n
positive zero f = absurd (f refl)
positive (suc n) f = omega arith

-- ---- one vertex

module _ {w₀ : List ℕ} {s : SwapRoom} {a v : ℕ} (g : Given w₀ s) (h : v < s.level.vertices) (av : a ≡ at (owners_at w₀ s.level) v) where
  abbrev os : List ℕ
  os = owners_at w₀ s.level

  abbrev ns : List ℕ
  ns = neighbors_at w₀ s.level

  abbrev to : ℕ
  to = at (offsets_at w₀ s.level) (v + 1)

  abbrev count : ℕ → ℕ
  count b = links_to (rows_at w₀ s.level) os v b

  is-a : eqb (at os v) a ≡ true
  is-a = eq-eqb (at os v) a (sym av)

  a_in : a < s.limits.ranks
  a_in = rw av (g.ranked v h)

  pub offering-start
      : Tallied w₀ s.level s.tallies s.limits.ranks v → Offering w₀ w₀ s a v (at (offsets_at w₀ s.level) v) to
  offering-start t = record {
    kept = kept_refl s.tallies (length w₀) w₀;
    home = t a a_in;
    others = λ c b p q d. refl;
    each = λ b p d. inl (record {
      tallied = t b p;
      unmet = ap (λ (us : List ℕ). links_in us os b) (sym (row-part g.ready v h));
      same = refl;
    });
  }

  -- an entry less: rank b waits on if another owns it
  module _ {w : List ℕ} {i : ℕ} (o : Offering w₀ w s a v i to) (l : i < to) (c : ℕ) (ec : c ≡ at os (at ns i)) where
    passed : (b : ℕ) → (c ≡ b → ⊥) → links_in (part ns (i + 1) to) os b ≡ links_in (part ns i to) os b
    passed b d =
        let n = links-cons ns os i to b l (omega (arith, row_ends g.ready v h, length-neighbors g.ready)) in
        let z : tally (eqb (at os (at ns i)) b) ≡ 0 = ap tally (ne_eqb (at os (at ns i)) b (λ q. d (ec ∙ q))) in
        omega arith

    waits-on : (b : ℕ) → (c ≡ b → ⊥) → Waiting w₀ w s a b v i to ⊎ Met w₀ w s a b v → Waiting w₀ w s a b v (i + 1) to ⊎ Met w₀ w s a b v
    waits-on b d = ⊎_elim
        (λ (x : Waiting w₀ w s a b v i to). inl (record { tallied = x.tallied; unmet = passed b d ∙ x.unmet; same = x.same }))
        (λ (x : Met w₀ w s a b v). inr x)

    -- it is a's own
    pub offering-own : c ≡ a → Offering w₀ w s a v (i + 1) to
    offering-own e = record {
      kept = o.kept;
      home = o.home;
      others = o.others;
      each = λ b p d. waits-on b (λ q. d (sym q ∙ e)) (o.each b p d);
    }

    -- its owner was met before
    pub offering-met : (c ≡ a → ⊥) → at w (s.tallies + c) ≡ 0 → Offering w₀ w s a v (i + 1) to
    offering-met f z = record {
      kept = o.kept;
      home = o.home;
      others = o.others;
      each = λ b p d. split (eqb c b)
          (λ q.
          let e : c ≡ b = eqb-true c b q in
          let y : at w (s.tallies + b) ≡ 0 = rw (← e) z in
          ⊎_elim
          (λ (x : Waiting w₀ w s a b v i to).
          let n : ltb 0 (count b) ≡ false = le-ltb 0 (count b) (omega (arith, x.tallied)) in
          inr (record { cleared = y; offered = x.same ∙ sym (offer-none s.list_length (rows_at w₀ s.level) os a b (list_at w₀ s a b) v n) }))
          (λ (x : Met w₀ w s a b v). inr x)
          (o.each b p d))
          (λ q. waits-on b (eqb-false c b q) (o.each b p d));
    }

    -- its owner is met now
    pub offering-new
        : (c ≡ a → ⊥)
        → c < s.limits.ranks
        → (t m : ℕ)
        → t ≡ at w (s.tallies + c)
        → (t ≡ 0 → ⊥)
        → m ≡ at w (s.tallies + a)
        → (w₁ w₂ : List ℕ)
        → w₁ ≡ set w (s.tallies + c) 0
        → Offered w₁ w₂ (list_place s a c) s.list_length (key_of (candidate t m v))
        → Offering w₀ w₂ s a v (i + 1) to
    offering-new f cr t m et nz em w₁ w₂ e₁ d =
        let k = s.limits.ranks in
        let len : length w ≡ length w₀ = o.kept.same_length in
        let room : s.lists + 12 * (k * k) ≤ length w₀ = g.lists-in in
        let tin : s.tallies + k ≤ s.lists = g.tallies-in in
        let few : s.list_length ≤ 12 = g.few-listed in
        let kept₁ : Kept s.tallies s.lists w₁ w =
        rw e₁ (kept_set s.tallies s.lists w w (s.tallies + c) 0 (kept_refl s.tallies s.lists w) (omega arith) (omega arith)) in
        let q : a * k + c < k * k = pair-below a c k a_in cr in
        let l₁ = kept₁.same_length in
        let tallies₂ : (b : ℕ) → b < k → at w₂ (s.tallies + b) ≡ at w₁ (s.tallies + b) = λ b p. d.kept.below (s.tallies + b) (omega arith) in
        let other₁ : (b : ℕ) → (c ≡ b → ⊥) → at w₁ (s.tallies + b) ≡ at w (s.tallies + b) =
        λ b p. ap (λ (z : List ℕ). at z (s.tallies + b)) e₁ ∙ get_or-set_other w (s.tallies + c) (s.tallies + b) 0 0 (λ z. p (omega arith)) in
        let zero₁ : at w₁ (s.tallies + c) ≡ 0 =
        ap (λ (z : List ℕ). at z (s.tallies + c)) e₁ ∙ get_or-set_same w (s.tallies + c) 0 0 (omega arith) in
        let list₁ : (x y : ℕ) → list_at w₁ s x y ≡ list_at w s x y = λ x y. list-kept s kept₁ (omega arith) x y in
        let list₂ : (x y : ℕ) → y < k → ((x ≡ a) × (y ≡ c) → ⊥) → list_at w₂ s x y ≡ list_at w s x y =
        λ x y p r. list-other s few a c d.kept x y cr p r ∙ list₁ x y in
        record {
          kept = kept_trans s.tallies (length w₀) w₂ w₁ w₀
              (kept-wide (list_place s a c) (list_place s a c + s.list_length) s.tallies (length w₀) w₂ w₁ (omega arith) (omega arith) d.kept)
              (kept_trans s.tallies (length w₀) w₁ w w₀ (kept-wide s.tallies s.lists s.tallies (length w₀) w₁ w (omega arith) (omega arith) kept₁) o.kept);
          home = tallies₂ a a_in ∙ other₁ a f ∙ o.home;
          others = λ x y p r n. list₂ x y r (λ z. n z.0) ∙ o.others x y p r n;
          each = λ b p n. split (eqb c b)
              (λ r.
              let e : c ≡ b = eqb-true c b r in
              ⊎_elim
              (λ (x : Waiting w₀ w s a b v i to).
              let tc : t ≡ count b = et ∙ rw e x.tallied in
              let same : key_of (candidate t m v) ≡ key_of (candidate (count b) (count a) v) = rw (tc, em ∙ o.home) in
              let yes : ltb 0 (count b) ≡ true = lt-ltb 0 (count b) (positive (count b) (λ z. nz (tc ∙ z))) in
              inr (record {
                cleared = rw (← e) (tallies₂ c cr ∙ zero₁);
                offered =
                    ap (list_at w₂ s a) (sym e)
                    ∙ d.here
                    ∙ ap (λ (z : List ℕ). take s.list_length (insert higher (key_of (candidate t m v)) z)) (list₁ a c ∙ ap (list_at w s a) e ∙ x.same)
                    ∙ ap (λ (z : ℕ). take s.list_length (insert higher z (list_at w₀ s a b))) same
                    ∙ sym (offer-some s.list_length (rows_at w₀ s.level) os a b (list_at w₀ s a b) v is-a yes);
              }))
              (λ (x : Met w₀ w s a b v). absurd (nz (et ∙ rw e x.cleared)))
              (o.each b p n))
              (λ r.
              let ne = eqb-false c b r in
              ⊎_elim
              (λ (x : Waiting w₀ w s a b v i to). inl (record {
                tallied = tallies₂ b p ∙ other₁ b ne ∙ x.tallied;
                unmet = passed b ne ∙ x.unmet;
                same = list₂ a b p (λ z. ne (sym z.1)) ∙ x.same;
              }))
              (λ (x : Met w₀ w s a b v). inr (record {
                cleared = tallies₂ b p ∙ other₁ b ne ∙ x.cleared;
                offered = list₂ a b p (λ z. ne (sym z.1)) ∙ x.offered;
              }))
              (o.each b p n));
        }

  -- no tally is above 16,384
  pub offering-few : {w : List ℕ} {i e : ℕ} → Offering w₀ w s a v i e → FewTallied w s
  offering-few {w} {i} {e} o r p =
      let few : (b : ℕ) → count b ≤ 16384 = λ b. links-few (rows_at w₀ s.level) (rows_few g) (rows_short g) os v b (rw (vertices-are g) h) in
      split (eqb r a)
      (λ q. let f : r ≡ a = eqb-true r a q in rw (f, o.home) (few a))
      (λ q. ⊎_elim
      (λ (x : Waiting w₀ w s a r v i e). rw x.tallied (few r))
      (λ (x : Met w₀ w s a r v). rw x.cleared (omega arith))
      (o.each r p (eqb-false r a q)))

  -- when all entries are passed, each rank was met
  pub offering-end : {w : List ℕ} → Offering w₀ w s a v to to → (b : ℕ) → b < s.limits.ranks → (b ≡ a → ⊥) → Met w₀ w s a b v
  offering-end {w} o b p d = ⊎_elim
      (λ (x : Waiting w₀ w s a b v to to).
      let z : count b ≡ 0 = sym x.unmet ∙ links-none ns os to b in
      let n : ltb 0 (count b) ≡ false = le-ltb 0 (count b) (omega arith) in
      record { cleared = x.tallied ∙ z; offered = x.same ∙ sym (offer-none s.list_length (rows_at w₀ s.level) os a b (list_at w₀ s a b) v n) })
      (λ (x : Met w₀ w s a b v). x)
      (o.each b p d)

-- v's tallies are made, v is offered, and the last tally is cleared
pub listed
    : {w : List ℕ} {s : SwapRoom} {v : ℕ}
    → Given w s
    → v < s.level.vertices
    → (a : ℕ)
    → a ≡ at (owners_at w s.level) v
    → (w₁ w₂ w₃ : List ℕ)
    → Kept s.tallies (s.tallies + s.limits.ranks) w₁ w
    → Offering w₁ w₂ s a v (at (offsets_at w₁ s.level) (v + 1)) (at (offsets_at w₁ s.level) (v + 1))
    → AllSorted w₂ s
    → w₃ ≡ set w₂ (s.tallies + a) 0
    → Listed w w₃ s v
listed {w} {s} {v} g h a av w₁ w₂ w₃ k₁ o sorted₂ e₃ =
    let k = s.limits.ranks in
    let l = s.level in
    let tin : s.tallies + k ≤ s.lists = g.tallies-in in
    let lin : s.lists + 12 * (k * k) ≤ length w = g.lists-in in
    let uin : s.used ≤ s.tallies = omega (arith, g.used-in, g.loads-in) in
    let g₁ : Given w₁ s = given-kept g k₁ uin in
    let os : owners_at w₁ l ≡ owners_at w l = owners-same g k₁ uin in
    let rs : rows_at w₁ l ≡ rows_at w l = rows_same g k₁ uin in
    let av₁ : a ≡ at (owners_at w₁ l) v = av ∙ ap (λ (z : List ℕ). at z v) (sym os) in
    let ar : a < k = rw av (g.ranked v h) in
    let n₁ = k₁.same_length in
    let n₂ = o.kept.same_length in
    let k₃ : Kept s.tallies s.lists w₃ w₂ =
    rw e₃ (kept_set s.tallies s.lists w₂ w₂ (s.tallies + a) 0 (kept_refl s.tallies s.lists w₂) (omega arith) (omega arith)) in
    record {
      kept = kept_trans s.tallies (length w) w₃ w₂ w
          (kept-wide s.tallies s.lists s.tallies (length w) w₃ w₂ (omega arith) (omega arith) k₃)
          (kept_trans s.tallies (length w) w₂ w₁ w (kept-wide s.tallies (length w₁) s.tallies (length w) w₂ w₁ (omega arith) (omega arith) o.kept)
          (kept-wide s.tallies (s.tallies + k) s.tallies (length w) w₁ w (omega arith) (omega arith) k₁));
      clear = λ r p. split (eqb r a)
          (λ q. let e : r ≡ a = eqb-true r a q in
          rw (e₃, e) (get_or-set_same w₂ (s.tallies + a) 0 0 (omega arith)))
          (λ q. let d = eqb-false r a q in
          rw e₃ (get_or-set_other w₂ (s.tallies + a) (s.tallies + r) 0 0 (λ z. d (omega arith)) ∙ (offering-end g₁ h av₁ o r p d).cleared));
      sorted = sorted-kept s k₃ (omega arith) sorted₂;
      lists = λ x y p q d.
          list-kept s k₃ (omega arith) x y
          ∙ split (eqb x a)
          (λ r. let e : x ≡ a = eqb-true x a r in
          rw (e, ← rs, ← os, ← list-kept s k₁ tin a y) (offering-end g₁ h av₁ o y q (λ z. d (e ∙ sym z))).offered)
          (λ r. let n = eqb-false x a r in
          o.others x y p q n ∙ list-kept s k₁ tin x y
          ∙ sym (offer-other s.list_length (rows_at w l) (owners_at w l) x y (list_at w s x y) v (ne_eqb _ _ (λ z. n (sym (av ∙ z))))));
    }

-- ---- a vertex on no border

-- a neighbor is of another rank than v
abbrev foreign : List ℕ → SwapRoom → ℕ → ℕ → Bool
foreign w s v u = not (eqb (at (owners_at w s.level) u) (at (owners_at w s.level) v))

-- and one of those from entry i on
abbrev pub border_from : List ℕ → SwapRoom → ℕ → ℕ → Bool
border_from w s v i = any (foreign w s v) (part (neighbors_at w s.level) i (at (offsets_at w s.level) (v + 1)))

abbrev pub border_at : List ℕ → SwapRoom → ℕ → Bool
border_at w s v = bordering (rows_at w s.level) (owners_at w s.level) v

module _ {w : List ℕ} {s : SwapRoom} {v : ℕ} (g : Given w s) (h : v < s.level.vertices) where
  -- a turn
  module _
      (home i r : ℕ) (a : home ≡ at (owners_at w s.level) v) (to : i < at (offsets_at w s.level) (v + 1))
      (c : r ≡ at (owners_at w s.level) (at (neighbors_at w s.level) i)) (t : border_from w s v i ≡ border_at w s v) where
    one : border_from w s v i ≡ cond (not (eqb r home)) true (border_from w s v (i + 1))
    one =
        any-cons (foreign w s v) (neighbors_at w s.level) i (at (offsets_at w s.level) (v + 1)) to
        (omega (arith, row_ends g.ready v h, length-neighbors g.ready))
        ∙ rw (a, c)

    pub border-here : (r ≡ home → ⊥) → true ≡ border_at w s v
    border-here d = sym (one ∙ rw (ne_eqb r home d)) ∙ t

    pub border-next : r ≡ home → border_from w s v (i + 1) ≡ border_at w s v
    border-next e = sym (one ∙ rw (eq-eqb r home e)) ∙ t

  -- it has no neighbor in another rank
  no-links
      : border_at w s v ≡ false
      → (b : ℕ)
      → (at (owners_at w s.level) v ≡ b → ⊥)
      → ltb 0 (links_to (rows_at w s.level) (owners_at w s.level) v b) ≡ false
  unfolding bordering
  no-links f b d =
      let rows = rows_at w s.level in
      let os = owners_at w s.level in
      let n = links_to rows os v b in
      split (ltb 0 n)
      (λ p.
      let u = any_of (λ u. eqb b (at os u)) (row rows v) (sym (elem-map b (at os) (row rows v)) ∙ links-some (row rows v) os b (ltb-true 0 n p)) in
      let e : b ≡ at os u.0 = eqb-true b (at os u.0) u.2 in
      let y : foreign w s v u.0 ≡ true = rw (ne_eqb (at os u.0) (at os v) (λ q. d (sym (e ∙ q)))) in
      absurd (true≢false (sym (to-any (foreign w s v) (row rows v) u.0 u.1 y) ∙ f)))
      (λ p. p)

  -- it is listed nowhere
  pub unlisted : (r : Bool) → r ≡ border_at w s v → r ≡ false → Clear w s.tallies s.limits.ranks → AllSorted w s → Listed w w s v
  unlisted r e f z o = record {
    kept = kept_refl s.tallies (length w) w;
    clear = z;
    sorted = o;
    lists = λ a b p q d.
        let os = owners_at w s.level in
        split (eqb (at os v) a)
        (λ x. let y : at os v ≡ a = eqb-true (at os v) a x in
        sym (offer-none s.list_length (rows_at w s.level) os a b (list_at w s a b) v (no-links (sym e ∙ f) b (λ n. d (sym y ∙ n)))))
        (λ x. sym (offer-other s.list_length (rows_at w s.level) os a b (list_at w s a b) v x));
  }

-- ---- what the code's steps come to

-- a list lent as a part
pub offered-part
    : (w ys : List ℕ) (a n x : ℕ)
    → a + n ≤ length w
    → length ys ≡ a + n - a
    → filled ys ≡ take n (insert higher x (filled (part w a (a + n))))
    → Falling ys
    → Offered w (put_back w a (a + n) ys) a n x
offered-part w ys a n x h l e o = record {
  here = ap filled (part-put_back w a (a + n) ys (omega arith) h l) ∙ e;
  sorted = rw (part-put_back w a (a + n) ys (omega arith) h l) o;
  kept = kept-put_back w a (a + n) ys (omega arith) h l;
}

-- an entry's owner, before v was offered anywhere
first-owner
    : {w w₀ : List ℕ} {s : SwapRoom} {e : ℕ} (c i : ℕ)
    → Given w₀ s
    → Kept s.tallies e w w₀
    → c ≡ at (owners_at w s.level) (at (neighbors_at w s.level) i)
    → c ≡ at (owners_at w₀ s.level) (at (neighbors_at w₀ s.level) i)
first-owner c i g k ec =
    rw (owners-same g k (omega (arith, g.used-in, g.loads-in)), neighbors-kept g.ready k (beneath g.ready (omega (arith, g.used-in, g.loads-in, g.ready.laid.owners-in)))) at ec

-- the list that a vertex is offered to is sorted when its tally has been cleared
pub entry-sorted
    : {w : List ℕ} {s : SwapRoom} (a c : ℕ)
    → Given w s
    → a < s.limits.ranks
    → c < s.limits.ranks
    → AllSorted w s
    → (p : ℕ)
    → p ≡ list_place s a c
    → Falling (part (set w (s.tallies + c) 0) p (p + s.list_length))
entry-sorted {w} {s} a c g ar cr o p e =
    let k = kept_set s.tallies s.lists w w (s.tallies + c) 0 (kept_refl s.tallies s.lists w) (omega arith) (omega (arith, g.tallies-in)) in
    rw e (sorted-kept s k (omega arith) o a c ar cr)

module _ {w : List ℕ} {s : SwapRoom} {a v i : ℕ} (c : ℕ) (ec : c ≡ at (owners_at w s.level) (at (neighbors_at w s.level) i)) where
  pub entry-own : AllSorted w s → c ≡ a → OfferedEntry w w s a v i
  entry-own q e = record {
    kept = kept_refl s.tallies (length w) w;
    sorted = q;
    turn = λ w₀ g h av l o. offering-own g h av o l c (first-owner c i g o.kept ec) e;
  }

  pub entry-met : AllSorted w s → (c ≡ a → ⊥) → at w (s.tallies + c) ≡ 0 → OfferedEntry w w s a v i
  entry-met q f z = record {
    kept = kept_refl s.tallies (length w) w;
    sorted = q;
    turn = λ w₀ g h av l o. offering-met g h av o l c (first-owner c i g o.kept ec) f z;
  }

  pub entry_new
      : Given w s
      → AllSorted w s
      → a < s.limits.ranks
      → c < s.limits.ranks
      → (c ≡ a → ⊥)
      → (at w (s.tallies + c) ≡ 0 → ⊥)
      → (w₂ : List ℕ) (p x : ℕ)
      → p ≡ list_place s a c
      → x ≡ key_of (candidate (at w (s.tallies + c)) (at w (s.tallies + a)) v)
      → Offered (set w (s.tallies + c) 0) w₂ p s.list_length x
      → OfferedEntry w w₂ s a v i
  entry_new g o ar cr f nz w₂ p x ep ex d =
      let k = s.limits.ranks in
      let w₁ = set w (s.tallies + c) 0 in
      let few : s.list_length ≤ 12 = g.few-listed in
      let d' : Offered w₁ w₂ (list_place s a c) s.list_length (key_of (candidate (at w (s.tallies + c)) (at w (s.tallies + a)) v)) = rw (ep, ex) at d in
      let n₁ : length w₁ ≡ length w = length-set w (s.tallies + c) 0 in
      let q : a * k + c < k * k = pair-below a c k ar cr in
      let tin : s.tallies + k ≤ s.lists = g.tallies-in in
      let lin : s.lists + 12 * (k * k) ≤ length w = g.lists-in in
      record {
        kept = kept_trans s.tallies (length w) w₂ w₁ w
            (kept-wide (list_place s a c) (list_place s a c + s.list_length) s.tallies (length w) w₂ w₁ (omega arith) (omega arith) d'.kept)
            (kept_set s.tallies (length w) w w (s.tallies + c) 0 (kept_refl s.tallies (length w) w) (omega arith) (omega arith));
        sorted = sorted-other s few a c d'.kept cr d'.sorted
            (sorted-kept s (kept_set s.tallies s.lists w w (s.tallies + c) 0 (kept_refl s.tallies s.lists w) (omega arith) (omega arith)) (omega arith) o);
        turn = λ w₀ g₀ h av l o.
            offering-new g₀ h av o l c (first-owner c i g₀ o.kept ec) f cr (at w (s.tallies + c)) (at w (s.tallies + a)) refl nz refl w₁ w₂ refl d';
      }

-- one more vertex, and all of them
module _ {w₀ w : List ℕ} {s : SwapRoom} (g : Given w₀ s) (k : Kept s.tallies (length w₀) w w₀) where
  used-below : s.used ≤ s.tallies
  used-below = omega (arith, g.used-in, g.loads-in)

  pub given-listed : Given w s
  given-listed = given-kept g k used-below

  pub listed-turn
      : (v : ℕ) (w' : List ℕ)
      → Listed w w' s v
      → ((a b : ℕ) → a < s.limits.ranks → b < s.limits.ranks → (a ≡ b → ⊥)
      → list_at w s a b ≡ listed_to s.list_length (rows_at w₀ s.level) (owners_at w₀ s.level) a b v)
      → (a b : ℕ)
      → a < s.limits.ranks
      → b < s.limits.ranks
      → (a ≡ b → ⊥)
      → list_at w' s a b ≡ listed_to s.list_length (rows_at w₀ s.level) (owners_at w₀ s.level) a b (v + 1)
  listed-turn v w' d f a b p q n =
      d.lists a b p q n
      ∙ rw (rows_same g k used-below, owners-same g k used-below, f a b p q n)
      (sym (listed_more s.list_length (rows_at w₀ s.level) (owners_at w₀ s.level) a b v))

  pub listed-end
      : ((a b : ℕ) → a < s.limits.ranks → b < s.limits.ranks → (a ≡ b → ⊥)
      → list_at w s a b ≡ listed_to s.list_length (rows_at w₀ s.level) (owners_at w₀ s.level) a b s.level.vertices)
      → Holding w s (owners_at w₀ s.level)
  listed-end f a b p q n =
      f a b p q n
      ∙ ap (listed_to s.list_length (rows_at w₀ s.level) (owners_at w₀ s.level) a b) (sym (all-vertices g.ready))
      ∙ listed-all (rows_at w₀ s.level) (rows_few g) (rows_short g) s.list_length (owners_at w₀ s.level) a b
      ∙ ap (λ (z : List (List ℕ)). map key_of (candidates s.list_length z (owners_at w₀ s.level) a b)) (sym (rows_same g k used-below))
