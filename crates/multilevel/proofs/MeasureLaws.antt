-- Laws of the volume: one vertex more of a row, and the volume counted vertex by vertex; and what a level is to the count of its cut. Assumes nothing.
use Prim.Native.Nat.{ℕ, ◌+◌, ◌-◌, ◌*◌, ◌≤◌, ◌<◌}
use mathlib.Core.Path.{◌≡◌, refl, sym, ap, ◌∙◌}
use mathlib.Core.Bool.{Bool, true, false, not, ◌&&◌, ◌||◌, cond}
use mathlib.Core.List.{List, [], ◌∷◌, map}
use native.Mathlib.Omega.{arith}
use lib.ListN.{length, set, take, length-map}
use lib.Seq.{get_or-set_same, get_or-set_other}
use lib.Dec.{eqb}
use borrow.Author.Tests.{eq-eqb, ne_eqb, eqb-true, eqb-false, not-true, not-false}
use Rattle.links.specs.Lists.{at, any, range, elem}
use Rattle.links.specs.Parts.{part, Kept}
use Rattle.links.specs.Graph.{row, vertices, cut_entries, foreign_neighbors, volume, Sound, OwnedLists}
use Rattle.links.proofs.ListLaws.{split, eqb-sym, and_l, and_r, and_i, or-true, or-false, iff-eq, tally, count, count-length, all_in, all-range, length-range, any_of, to-any, elem-range, elem-map, elem-take, none-filter, total, total_ext, total-add, total-point, total_left, total-done, sum-total, and-false, and-true, count-range, total-swap}
use Rattle.links.proofs.RangeLaws.{filter-ext}
use Rattle.links.proofs.PartLaws.{length_part, get_or-part, kept_refl, kept_trans, kept_set}
use Rattle.links.proofs.RowLaws.{all-place}
use Rattle.stages.specs.Level.{offsets_at, neighbors_at, rows_at, owners_at, Ready}
use Rattle.stages.specs.declared.level.HierarchyLevel.{HierarchyLevel}
use Rattle.multilevel.proofs.RoomLaws.{same-level, owner-lies, offset-in, offset-rises, row_lies, at_map}
use Rattle.multilevel.specs.declared.measure.Measures.{Measures}
use Rattle.multilevel.specs.Measure.{Below, other_ranks, ranks_met, Marked, unmarked, Met, Legible, row_owners, RowMet, Measurable, VertexMet, VolumeMet, Measured}
use Rattle.stages.proofs.LevelLaws.{length-neighbors, length-owners, count-vertices, all-vertices, ready-kept, neighbors-below}

-- ---- the volume, counted vertex by vertex

module _ (rows : List (List ℕ)) (s : Sound rows) (owners : List ℕ) where
  -- u stands in the row of a vertex that r owns: r owns one of u's row
  stands-met
      : (u r : ℕ)
      → u < length rows
      → any (λ v. eqb (at owners v) r && elem u (row rows v)) (vertices rows) ≡ elem r (map (at owners) (row rows u))
  stands-met u r h =
      let n = length rows in
      let stands : ℕ → Bool = λ v. eqb (at owners v) r && elem u (row rows v) in
      let owns : ℕ → Bool = λ v. eqb r (at owners v) in
      let mets : elem r (map (at owners) (row rows u)) ≡ any owns (row rows u) = elem-map r (at owners) (row rows u) in
      let there : any stands (vertices rows) ≡ true → any owns (row rows u) ≡ true =
      λ e.
      let w = any_of stands (vertices rows) e in
      let v = w.0 in
      let k : v < n = all_in (λ x. x < n) (range 0 n) v (all-range (λ x. x < n) 0 n (λ x a b. omega arith)) w.1 in
      to-any owns (row rows u) v
      (s.symmetric u v h k ∙ and_r (eqb (at owners v) r) (elem u (row rows v)) w.2)
      (eqb-sym r (at owners v) ∙ and_l (eqb (at owners v) r) (elem u (row rows v)) w.2) in
      let back : any owns (row rows u) ≡ true → any stands (vertices rows) ≡ true =
      λ e.
      let w = any_of owns (row rows u) e in
      let v = w.0 in
      let k : v < n = all_in (λ x. x < n) (row rows u) v (s.below u h) w.1 in
      to-any stands (vertices rows) v (elem-range v 0 n (omega arith) (omega arith))
      (and_i (eqb (at owners v) r) (elem u (row rows v)) (eqb-sym (at owners v) r ∙ w.2) (sym (s.symmetric u v h k) ∙ w.1)) in
      iff-eq (any stands (vertices rows)) (any owns (row rows u)) there back ∙ sym mets

  pub volume-total : (k : ℕ) → volume rows owners k ≡ total 0 (length rows) (λ u. length (ranks_met rows owners k u))
  unfolding volume foreign_neighbors other_ranks
  volume-total k =
      let n = length rows in
      let foreign : ℕ → ℕ → Bool = λ r u. not (eqb (at owners u) r) && any (λ v. eqb (at owners v) r && elem u (row rows v)) (vertices rows) in
      let met : ℕ → ℕ → Bool = λ u r. not (eqb (at owners u) r) && elem r (map (at owners) (row rows u)) in
      sum-total (λ r. length (foreign_neighbors rows owners r)) 0 k
      ∙ total_ext 0 k (λ r. length (foreign_neighbors rows owners r)) (λ r. total 0 n (λ u. tally (foreign r u))) (λ r a b. count-range (foreign r) 0 n)
      ∙ total-swap 0 k 0 n (λ r u. tally (foreign r u))
      ∙ total_ext 0 n (λ u. total 0 k (λ r. tally (foreign r u))) (λ u. length (ranks_met rows owners k u))
      (λ u a b.
      total_ext 0 k (λ r. tally (foreign r u)) (λ r. tally (met u r))
      (λ r c d. ap (λ (t : Bool). tally (not (eqb (at owners u) r) && t)) (stands-met u r (omega arith)))
      ∙ sym (count-range (met u) 0 k))

-- ---- one vertex more of a row

-- one more passes
count-one
    : (p q : ℕ → Bool) (i n b : ℕ)
    → i ≤ b
    → b < i + n
    → p b ≡ false
    → q b ≡ true
    → ((r : ℕ) → eqb r b ≡ false → q r ≡ p r)
    → count q (range i n) ≡ count p (range i n) + 1
count-one p q i n b h k before after other =
    let one : (r : ℕ) → tally (q r) ≡ tally (p r) + cond (eqb r b) 1 0 =
    λ r. split (eqb r b)
    (λ e. let z : r ≡ b = eqb-true r b e in rw (e, z, before, after))
    (λ e. rw (e, other r e) (omega arith)) in
    omega (
      arith,
      count-range q i n,
      count-range p i n,
      total_ext i n (λ r. tally (q r)) (λ r. tally (p r) + cond (eqb r b) 1 0) (λ r a c. one r),
      total-add i n (λ r. tally (p r)) (λ r. cond (eqb r b) 1 0),
      total-point i n b (λ r. 1) h k,
    )

-- the first j of a row's vertices are met
pub record Meeting (w₀ : List ℕ) (own seen ranks a e home mark : ℕ) (w : List ℕ) (x j : ℕ) : Type 0 where
  pub frame : Kept seen (seen + ranks) w w₀
  pub marks : (r : ℕ) → r < ranks → eqb (at w (seen + r)) mark ≡ (not (eqb home r) && elem r (take j (row_owners w₀ own a e)))
  pub low : Marked w seen ranks mark
  pub counted : x ≡ length (other_ranks ranks home (take j (row_owners w₀ own a e)))

-- no more ranks are met than there are
pub met-few : (ranks home : ℕ) (bs : List ℕ) → length (other_ranks ranks home bs) ≤ ranks
unfolding other_ranks
met-few ranks home bs = omega (arith, count-length (λ r. not (eqb home r) && elem r bs) (range 0 ranks), length-range 0 ranks)

pub meeting-few
    : (w₀ : List ℕ) (own seen ranks a e home mark : ℕ) (w : List ℕ) (x j : ℕ) → Meeting w₀ own seen ranks a e home mark w x j → x ≤ ranks
meeting-few w₀ own seen ranks a e home mark w x j m = rw m.counted (met-few ranks home (take j (row_owners w₀ own a e)))

-- a rank that is home, or has its mark, or gets it
module _ (w : List ℕ) (rank home seen mark : ℕ) where
  module _ (d : rank ≡ home → ⊥) (place : ℕ) (e : place ≡ rank) where
    pub met-marked : at w (seen + place) ≡ mark → Met w w rank home seen mark 0
    met-marked f =
        let y = ne_eqb rank home d in
        let z : eqb (at w (seen + rank)) mark ≡ true = eq-eqb (at w (seen + rank)) mark (rw e at f) in
        record { marked = rw (y, z); counted = rw (y, z) }

    pub met-new : (at w (seen + place) ≡ mark → ⊥) → Met w (set w (seen + place) mark) rank home seen mark 1
    met-new f =
        let y = ne_eqb rank home d in
        let z : eqb (at w (seen + rank)) mark ≡ false = ne_eqb (at w (seen + rank)) mark (λ q. f (rw e q)) in
        record { marked = rw (y, z, e); counted = rw (y, z) }

pub met-once : (w w' : List ℕ) (rank home seen mark r : ℕ) → Met w w' rank home seen mark r → r ≤ 1
met-once w w' rank home seen mark r t = rw t.counted (split (unmarked w rank home seen mark) (λ y. rw y (omega arith)) (λ y. rw y (omega arith)))

module _ (w₀ : List ℕ) (own seen ranks a e home mark : ℕ) (p : Legible w₀ own seen ranks a e mark) where
  pub meeting-none : Meeting w₀ own seen ranks a e home mark w₀ 0 (a - a)
  unfolding other_ranks
  meeting-none =
      let z : a - a ≡ 0 = omega arith in
      record {
        frame = kept_refl seen (seen + ranks) w₀;
        marks = λ r h. rw (z, and-false (not (eqb home r))) (ne_eqb (at w₀ (seen + r)) mark (λ q. omega (arith, p.unmarked-yet r h)));
        low = λ r h. omega (arith, p.unmarked-yet r h);
        counted = rw z (sym (ap length (none-filter (λ r. not (eqb home r) && elem r []) (range 0 ranks) (all-range (λ r. (not (eqb home r) && elem r []) ≡ false) 0 ranks (λ r h k. and-false (not (eqb home r)))))));
      }

  row_sized : length (row_owners w₀ own a e) ≡ e - a
  row_sized = length-map (part w₀ a e) (λ u. at w₀ (own + u)) ∙ length_part w₀ a e p.from-to (omega (arith, p.under, p.inside))

  module _ (w : List ℕ) (x i : ℕ) (m : Meeting w₀ own seen ranks a e home mark w x (i - a)) (h : a ≤ i) (k : i < e) where
    -- what is read
    vertex-read : at w i ≡ at w₀ i
    vertex-read = m.frame.below i (omega (arith, p.under))

    owner-read : at w (own + at w i) ≡ at w₀ (own + at w₀ i)
    owner-read = ap (λ (u : ℕ). at w (own + u)) vertex-read ∙ m.frame.below (own + at w₀ i) (p.owners-under i h k)

    pub owner-in : own + at w i < seen
    owner-in = rw vertex-read (p.owners-under i h k)

    pub rank-in : at w (own + at w i) < ranks
    rank-in = rw owner-read (p.owners-ranks i h k)

    owner_at : at (row_owners w₀ own a e) (i - a) ≡ at w (own + at w i)
    owner_at =
        let z : a + (i - a) ≡ i = omega arith in
        at_map (λ u. at w₀ (own + u)) (part w₀ a e) (i - a) (rw (length_part w₀ a e p.from-to (omega (arith, p.under, p.inside))) (omega arith))
        ∙ ap (λ (u : ℕ). at w₀ (own + u)) (get_or-part w₀ a e (i - a) (omega arith) ∙ ap (at w₀) z)
        ∙ sym owner-read

    -- a rank other than this one is met as before
    other-met
        : (q : ℕ)
        → eqb q (at w (own + at w i)) ≡ false
        → (not (eqb home q) && elem q (take (i - a + 1) (row_owners w₀ own a e))) ≡ (not (eqb home q) && elem q (take (i - a) (row_owners w₀ own a e)))
    other-met q z =
        let bs = row_owners w₀ own a e in
        ap (λ (y : Bool). not (eqb home q) && y)
        (elem-take q bs (i - a) (rw row_sized (omega arith))
        ∙ ap (λ (y : ℕ). elem q (take (i - a) bs) || eqb q y) owner_at
        ∙ rw (z, or-false (elem q (take (i - a) bs))))

    -- and this one, if it is not home
    this-met
        : (not (eqb home (at w (own + at w i))) && elem (at w (own + at w i)) (take (i - a + 1) (row_owners w₀ own a e))) ≡ not (eqb home (at w (own + at w i)))
    this-met =
        let bs = row_owners w₀ own a e in
        let b = at w (own + at w i) in
        ap (λ (y : Bool). not (eqb home b) && y)
        (elem-take b bs (i - a) (rw row_sized (omega arith))
        ∙ ap (λ (y : ℕ). elem b (take (i - a) bs) || eqb b y) owner_at
        ∙ rw (eq-eqb b b refl, or-true (elem b (take (i - a) bs))))
        ∙ and-true (not (eqb home b))

    meeting-stale
        : unmarked w (at w (own + at w i)) home seen mark ≡ false → Meeting w₀ own seen ranks a e home mark w (x + 0) (i - a + 1)
    unfolding other_ranks
    meeting-stale f =
        let bs = row_owners w₀ own a e in
        let j = i - a in
        let b = at w (own + at w i) in
        let before : (not (eqb home b) && elem b (take j bs)) ≡ not (eqb home b) =
        split (eqb b home)
        (λ y. let z : eqb home b ≡ true = eqb-sym home b ∙ y in rw z)
        (λ y.
        let z : eqb (at w (seen + b)) mark ≡ true = not-false (eqb (at w (seen + b)) mark) (rw y at f) in
        let g : (not (eqb home b) && elem b (take j bs)) ≡ true = sym (m.marks b rank-in) ∙ z in
        g ∙ sym (and_l (not (eqb home b)) (elem b (take j bs)) g)) in
        let same : (q : ℕ) → (not (eqb home q) && elem q (take (j + 1) bs)) ≡ (not (eqb home q) && elem q (take j bs)) =
        λ q. split (eqb q b) (λ y. let z : q ≡ b = eqb-true q b y in rw z (this-met ∙ sym before)) (other-met q) in
        let z : x + 0 ≡ x = omega arith in
        record {
          frame = m.frame;
          marks = λ q l. m.marks q l ∙ sym (same q);
          low = m.low;
          counted =
              z
              ∙ m.counted
              ∙ ap length (filter-ext (λ q. not (eqb home q) && elem q (take j bs)) (λ q. not (eqb home q) && elem q (take (j + 1) bs)) 0 ranks (λ q l n. sym (same q)));
        }

    meeting-fresh
        : unmarked w (at w (own + at w i)) home seen mark ≡ true
        → Meeting w₀ own seen ranks a e home mark (set w (seen + at w (own + at w i)) mark) (x + 1) (i - a + 1)
    unfolding other_ranks
    meeting-fresh f =
        let bs = row_owners w₀ own a e in
        let j = i - a in
        let b = at w (own + at w i) in
        let away : eqb home b ≡ false = eqb-sym home b ∙ not-true (eqb b home) (and_l (not (eqb b home)) (not (eqb (at w (seen + b)) mark)) f) in
        let before : (not (eqb home b) && elem b (take j bs)) ≡ false =
        sym (m.marks b rank-in) ∙ not-true (eqb (at w (seen + b)) mark) (and_r (not (eqb b home)) (not (eqb (at w (seen + b)) mark)) f) in
        let now : (not (eqb home b) && elem b (take (j + 1) bs)) ≡ true = this-met ∙ rw away in
        let inside : seen + b < length w = omega (arith, rank-in, m.frame.same_length, p.inside) in
        let set_at : (q : ℕ) → eqb q b ≡ true → at (set w (seen + b) mark) (seen + q) ≡ mark =
        λ q y. let z : q ≡ b = eqb-true q b y in rw z (get_or-set_same w (seen + b) mark 0 inside) in
        let set-off : (q : ℕ) → eqb q b ≡ false → at (set w (seen + b) mark) (seen + q) ≡ at w (seen + q) =
        λ q y. let d = eqb-false q b y in get_or-set_other w (seen + b) (seen + q) mark 0 (λ z. d (omega arith)) in
        record {
          frame = kept_set seen (seen + ranks) w w₀ (seen + b) mark m.frame (omega arith) (omega (arith, rank-in));
          marks = λ q l. split (eqb q b)
              (λ y. let z : q ≡ b = eqb-true q b y in eq-eqb (at (set w (seen + b) mark) (seen + q)) mark (set_at q y) ∙ sym (rw z now))
              (λ y. rw (set-off q y) (m.marks q l ∙ sym (other-met q y)));
          low = λ q l. split (eqb q b) (λ y. omega (arith, set_at q y)) (λ y. omega (arith, set-off q y, m.low q l));
          counted =
              omega (
                arith,
                m.counted,
                count-one (λ q. not (eqb home q) && elem q (take j bs)) (λ q. not (eqb home q) && elem q (take (j + 1) bs)) 0 ranks b (omega arith) (omega (arith, rank-in)) before now other-met,
              );
        }

    pub meeting-more
        : (w' : List ℕ) (r : ℕ)
        → Met w w' (at w (own + at w i)) home seen mark r
        → Meeting w₀ own seen ranks a e home mark w' (x + r) (i + 1 - a)
    meeting-more w' r t =
        let f = unmarked w (at w (own + at w i)) home seen mark in
        let next : i + 1 - a ≡ i - a + 1 = omega arith in
        split f
        (λ y. rw (t.marked, t.counted, next, y) (meeting-fresh y))
        (λ y. rw (t.marked, t.counted, next, y) (meeting-stale y))

-- ---- a vertex and its row in the work slice

map-under : (f g : ℕ → ℕ) (n : ℕ) (xs : List ℕ) → Below xs n → ((x : ℕ) → x < n → f x ≡ g x) → map f xs ≡ map g xs
map-under f g n [] a e = refl
map-under f g n (x ∷ xs) a e = rw (e x a.0, map-under f g n xs a.1 e)

pub level-owned : (w : List ℕ) (l : HierarchyLevel) (end : ℕ) → Ready w l end → OwnedLists (offsets_at w l) (neighbors_at w l) (owners_at w l)
level-owned w l end r =
    record {
      lists = r.lists;
      sized = length-owners r ∙ sym (count-vertices r);
      few = rw (length-owners r) r.few;
      short = rw (length-neighbors r) r.short;
    }

-- where the row of v starts, and where it ends
abbrev pub row_from : List ℕ → HierarchyLevel → ℕ → ℕ
row_from w l v = l.neighbors + at w (l.offsets + v)

module _ (w : List ℕ) (l : HierarchyLevel) (seen ranks : ℕ) (g : Measurable w l seen ranks) (v : ℕ) (h : v < l.vertices) where
  -- an entry of the row is a vertex
  entry-under : (i : ℕ) → row_from w l v ≤ i → i < row_from w l (v + 1) → at w i < l.vertices
  entry-under i a b =
      let r = g.ready in
      let from = row_from w l v in
      let to = row_from w l (v + 1) in
      let fits : to ≤ length w = omega (arith, offset-in w l seen r (v + 1) (omega arith), r.laid.neighbors-in, r.laid.weights-in, r.laid.map-in, r.laid.owners-in, r.inside) in
      let sized : length (row (rows_at w l) v) ≡ to - from = ap length (sym (row_lies w l seen r v h)) ∙ length_part w from to (omega (arith, offset-rises w l seen r v h)) fits in
      let z : from + (i - from) ≡ i = omega arith in
      let e : at (row (rows_at w l) v) (i - from) ≡ at w i =
      ap (λ (y : List ℕ). at y (i - from)) (sym (row_lies w l seen r v h)) ∙ get_or-part w from to (i - from) (omega arith) ∙ ap (at w) z in
      rw e at (all-place (λ u. u < l.vertices) (row (rows_at w l) v) (i - from) (neighbors-below r v h) (rw sized (omega arith)))

  pub vertex-legible : Marked w seen ranks v → Legible w l.owners seen ranks (row_from w l v) (row_from w l (v + 1)) (v + 1)
  vertex-legible marks =
      let r = g.ready in
      let d = r.laid in
      record {
        from-to = omega (arith, offset-rises w l seen r v h);
        under = omega (arith, offset-in w l seen r (v + 1) (omega arith), d.neighbors-in, d.weights-in, d.map-in, d.owners-in);
        inside = g.inside;
        owners-under = λ i a b. omega (arith, entry-under i a b, d.owners-in);
        owners-ranks = λ i a b.
            rw (owner-lies w l seen r (at w i) (entry-under i a b))
            (all-place (λ u. u < ranks) (owners_at w l) (at w i) g.owned (rw (length-owners r) (entry-under i a b)));
        unmarked-yet = λ q k. omega (arith, marks q k);
      }

  pub vertex-met
      : (w' : List ℕ) (x : ℕ)
      → RowMet w w' l.owners seen ranks (row_from w l v) (row_from w l (v + 1)) (at w (l.owners + v)) (v + 1) x
      → VertexMet w w' l seen ranks v x
  vertex-met w' x t =
      let r = g.ready in
      let owners = owners_at w l in
      let us = row (rows_at w l) v in
      let same : row_owners w l.owners (row_from w l v) (row_from w l (v + 1)) ≡ map (at owners) us =
      ap (map (λ u. at w (l.owners + u))) (row_lies w l seen r v h)
      ∙ map-under (λ u. at w (l.owners + u)) (at owners) l.vertices us (neighbors-below r v h) (owner-lies w l seen r) in
      record {
        counted = t.counted ∙ rw (same, owner-lies w l seen r v h);
        marks = t.marks;
        frame = t.frame;
      }

-- ---- the volume, as it is summed up

-- a level below the marks is measured the same after them
pub measurable-kept
    : (w w₀ : List ℕ) (l : HierarchyLevel) (seen ranks : ℕ)
    → Kept seen (seen + ranks) w w₀
    → Measurable w₀ l seen ranks
    → Measurable w l seen ranks
measurable-kept w w₀ l seen ranks k g =
    let s = same-level w w₀ seen (seen + ranks) k l seen (omega arith) g.ready.laid in
    record {
      ready = ready-kept g.ready k (omega (arith, g.ready.laid));
      owned = rw s.owners-same g.owned;
      few-ranks = g.few-ranks;
      inside = omega (arith, k.same_length, g.inside);
    }

-- the first v vertices are counted
pub record Summing (w₀ : List ℕ) (l : HierarchyLevel) (seen ranks : ℕ) (w : List ℕ) (x v : ℕ) : Type 0 where
  pub frame : Kept seen (seen + ranks) w w₀
  pub marks : Marked w seen ranks v
  pub left
      : x + total v (l.vertices - v) (λ u. length (ranks_met (rows_at w₀ l) (owners_at w₀ l) ranks u))
      ≡ volume (rows_at w₀ l) (owners_at w₀ l) ranks
  pub small : x ≤ 256 * v

module _ (w₀ : List ℕ) (l : HierarchyLevel) (seen ranks : ℕ) (g : Measurable w₀ l seen ranks) where
  pub summing-none : Marked w₀ seen ranks 0 → Summing w₀ l seen ranks w₀ 0 0
  summing-none marks =
      let n : length (rows_at w₀ l) ≡ l.vertices = all-vertices g.ready in
      let z : l.vertices - 0 ≡ l.vertices = omega arith in
      record {
        frame = kept_refl seen (seen + ranks) w₀;
        marks = marks;
        left = rw z (omega (arith, rw n at (volume-total (rows_at w₀ l) g.ready.lists.sound (owners_at w₀ l) ranks)));
        small = omega arith;
      }

  module _ (w : List ℕ) (x v : ℕ) (t : Summing w₀ l seen ranks w x v) where
    pub summing-more : v < l.vertices → (w' : List ℕ) (r : ℕ) → VertexMet w w' l seen ranks v r → Summing w₀ l seen ranks w' (x + r) (v + 1)
    summing-more h w' r q =
        let s = same-level w w₀ seen (seen + ranks) t.frame l seen (omega arith) g.ready.laid in
        let f : ℕ → ℕ = λ u. length (ranks_met (rows_at w₀ l) (owners_at w₀ l) ranks u) in
        let here : r ≡ f v = q.counted ∙ rw (s.offsets-same, s.neighbors-same, s.owners-same) in
        record {
          frame = kept_trans seen (seen + ranks) w' w w₀ q.frame t.frame;
          marks = q.marks;
          left = omega (arith, t.left, total_left f v l.vertices h, here);
          small = omega (arith, t.small, here, met-few ranks (at (owners_at w₀ l) v) (map (at (owners_at w₀ l)) (row (rows_at w₀ l) v)), g.few-ranks);
        }

    pub summing-done : l.vertices ≤ v → VolumeMet w₀ w l seen ranks x
    summing-done h =
        record {
          counted = omega (arith, t.left, total-done (λ u. length (ranks_met (rows_at w₀ l) (owners_at w₀ l) ranks u)) v l.vertices h);
          frame = t.frame;
        }

-- ---- the whole

pub measured
    : (w w₁ w₂ : List ℕ) (l : HierarchyLevel) (seen ranks : ℕ) (r : Measures)
    → Measurable w l seen ranks
    → Kept seen (seen + ranks) w₁ w
    → r.cut ≡ cut_entries (rows_at w l) (owners_at w l)
    → VolumeMet w₁ w₂ l seen ranks r.volume
    → Measured w w₂ l seen ranks r
measured w w₁ w₂ l seen ranks r g k c t =
    let s = same-level w₁ w seen (seen + ranks) k l seen (omega arith) g.ready.laid in
    record {
      cut-counted = c;
      volume-counted = t.counted ∙ rw (s.offsets-same, s.neighbors-same, s.owners-same);
      frame = kept_trans seen (seen + ranks) w₂ w₁ w t.frame k;
    }
