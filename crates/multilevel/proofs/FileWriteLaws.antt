-- Laws of what the reader writes: an end, a row, all rows, the workloads. Assumes nothing.
use Prim.Native.Nat.{ℕ, zero, suc, ◌+◌, ◌-◌, ◌*◌, ◌≤◌, ◌<◌}
use mathlib.Core.Path.{◌≡◌, refl, sym, ap, ◌∙◌}
use mathlib.Core.Bool.{true}
use mathlib.Core.List.{List, [], ◌∷◌, ◌++◌, append-nil}
use native.Mathlib.Omega.{arith}
use native.Mathlib.Nat.{zero-add}
use native.Mathlib.Numerals.{add-one}
use lib.ListN.{length, take, drop, set, length-append}
use lib.Seq.{sets, length-sets, sets-eq, take-suc, take_all, drop-set-lt}
use borrow.Author.Tests.{eq-eqb, ne_eqb}
use Rattle.links.specs.Lists.{at}
use Rattle.links.specs.Graph.{row, offsets_from, packed}
use Rattle.links.proofs.RangeLaws.{concat-append}
use Rattle.links.proofs.PartLaws.{copy_more}
use Rattle.links.proofs.PackLaws.{length-offsets, up_to, offset_at, up_to-suc, up_to-most}
use Rattle.multilevel.specs.File.{low_end, high_end, good_links, vertex_count_of, link_count_of, file_row, file_rows, file_offsets, file_neighbors, other_end, row_up_to, Written, RowsWritten}
use Rattle.multilevel.proofs.FileRowLaws.{row_more, row_made, row_of, length-file, length-entries}

-- ---- v's other end

module _ (b : List ℕ) (v i : ℕ) where
  pub other-low : low_end b i ≡ v → other_end b v i ≡ high_end b i ∷ []
  unfolding other_end
  other-low e = rw (eq-eqb (low_end b i) v e)

  pub other-high : (low_end b i ≡ v → ⊥) → high_end b i ≡ v → other_end b v i ≡ low_end b i ∷ []
  unfolding other_end
  other-high d e = rw (ne_eqb (low_end b i) v d, eq-eqb (high_end b i) v e)

  pub other_none : (low_end b i ≡ v → ⊥) → (high_end b i ≡ v → ⊥) → other_end b v i ≡ []
  unfolding other_end
  other_none d e = rw (ne_eqb (low_end b i) v d, ne_eqb (high_end b i) v e)

pub written_one : (xs : List ℕ) (from : ℕ) (s : List ℕ) (x y : ℕ) → xs ≡ y ∷ [] → x ≡ y → Written xs from s (set s from x) (from + 1)
written_one xs from s x y e q = record { end_is = omega (arith, ap length e); is = rw (e, q) }

pub written_none : (xs : List ℕ) (from : ℕ) (s : List ℕ) → xs ≡ [] → Written xs from s s from
written_none xs from s e = record { end_is = omega (arith, ap length e); is = rw e }

-- ---- one list after another

sets-append : (l : List ℕ) (i : ℕ) (xs ys : List ℕ) (j : ℕ) → j ≡ i + length xs → sets (sets l i xs) j ys ≡ sets l i (xs ++ ys)
sets-append l i [] ys j e = let z : j ≡ i = omega arith in rw z
sets-append l i (x ∷ xs) ys j e = sets-append (set l i x) (suc i) xs ys j (omega arith)

pub written-more
    : (xs ys : List ℕ) (from : ℕ) (s s₁ s₂ : List ℕ) (m r : ℕ) → Written xs from s s₁ m → Written ys m s₁ s₂ r → Written (xs ++ ys) from s s₂ r
written-more xs ys from s s₁ s₂ m r p q =
    record {
      end_is = omega (arith, p.end_is, q.end_is, length-append xs ys);
      is = q.is ∙ ap (λ (z : List ℕ). sets z m ys) p.is ∙ sets-append s from xs ys m p.end_is;
    }

pub written-length : (xs : List ℕ) (from : ℕ) (s s₁ : List ℕ) (m : ℕ) → Written xs from s s₁ m → length s₁ ≡ length s
written-length xs from s s₁ m p = ap length p.is ∙ length-sets s from xs

-- ---- a row, link by link

module _ (b : List ℕ) (g : good_links b ≡ true) (v : ℕ) where
  grows : (i d : ℕ) → length (row_up_to b v i) ≤ length (row_up_to b v (i + d))
  grows i zero = let e : i + 0 ≡ i = omega arith in rw e (omega arith)
  grows i (suc d) =
      let e : i + suc d ≡ suc (i + d) = omega arith in
      rw e (omega (arith, grows i d, ap length (row_more b g v (i + d)), length-append (row_up_to b v (i + d)) (other_end b v (i + d))))

  -- the next end has room
  pub end_fits
      : (from at i size : ℕ)
      → i < link_count_of b
      → at ≡ from + length (row_up_to b v i)
      → from + length (file_row b v) ≤ size
      → at + length (other_end b v i) ≤ size
  end_fits from at i size h e k =
      let d : suc i + (link_count_of b - suc i) ≡ link_count_of b = omega arith in
      let q : length (row_up_to b v (suc i)) ≤ length (file_row b v) = rw (d, row_made b g v) at (grows (suc i) (link_count_of b - suc i)) in
      omega (arith, ap length (row_more b g v i), length-append (row_up_to b v i) (other_end b v i))

  pub row_next
      : (from i : ℕ) (s s₁ s₂ : List ℕ) (m r : ℕ)
      → Written (row_up_to b v i) from s s₁ m
      → Written (other_end b v i) m s₁ s₂ r
      → Written (row_up_to b v (i + 1)) from s s₂ r
  row_next from i s s₁ s₂ m r p q = rw (add-one, row_more b g v i) (written-more (row_up_to b v i) (other_end b v i) from s s₁ s₂ m r p q)

  pub row-end
      : (from i : ℕ) (s s₁ : List ℕ) (m : ℕ) → i ≡ link_count_of b → Written (row_up_to b v i) from s s₁ m → Written (file_row b v) from s s₁ m
  row-end from i s s₁ m e p = rw (ap (row_up_to b v) e ∙ row_made b g v) at p

pub row-start : (b : List ℕ) (v from : ℕ) (s : List ℕ) → Written (row_up_to b v 0) from s s from
unfolding row_up_to
row-start b v from s = written_none [] from s refl

-- ---- a list from the front, number by number

-- of f the first i numbers are written over o
module _ (f o o' : List ℕ) (i : ℕ) (w : o' ≡ take i f ++ drop i o) where
  pub front-next : (x : ℕ) → i < length f → i < length o → x ≡ at f i → set o' i x ≡ take (suc i) f ++ drop (suc i) o
  front-next x h k e = rw (w, e) (rw add-one at (copy_more f o i h k))

  pub front-end : i ≡ length f → o' ≡ f ++ drop i o
  front-end e = w ∙ ap (λ (l : List ℕ). l ++ drop i o) (take_all i f (omega arith))

-- ---- all rows

-- v rows are written: at is where the next one starts
pub record Rowing (b o o' s s' : List ℕ) (at v : ℕ) : Type 0 where
  pub neighbors-so-far : Written (packed (take v (file_rows b))) 0 s s' at
  pub offsets-so-far : o' ≡ take (suc v) (file_offsets b) ++ drop (suc v) o

take-one : (a : ℕ) (rs : List (List ℕ)) → take 1 (offsets_from a rs) ≡ a ∷ []
take-one a [] = refl
take-one a (r ∷ rs) = refl

first-zero : (o : List ℕ) → 1 ≤ length o → set o 0 0 ≡ (0 ∷ []) ++ drop 1 (set o 0 0)
first-zero [] h = absurd (omega arith)
first-zero (x ∷ o) h = refl

pub rowing_start : (b o s : List ℕ) → 1 ≤ length o → Rowing b (set o 0 0) (set o 0 0) s s 0 0
rowing_start b o s h =
    record {
      neighbors-so-far = written_none [] 0 s refl;
      offsets-so-far = first-zero o h ∙ ap (λ (l : List ℕ). l ++ drop 1 (set o 0 0)) (sym (take-one 0 (file_rows b)));
    }

packed-suc : (rs : List (List ℕ)) (v : ℕ) → v < length rs → packed (take (suc v) rs) ≡ packed (take v rs) ++ row rs v
packed-suc rs v h =
    ap packed (take-suc rs v [] h)
    ∙ concat-append (λ r. r) (take v rs) (row rs v ∷ [])
    ∙ ap (λ (l : List ℕ). packed (take v rs) ++ l) (append-nil (row rs v))

module _ (b : List ℕ) (g : good_links b ≡ true) (o o' s s' : List ℕ) (m v : ℕ) (w : Rowing b o o' s s' m v) where
  pub rowing-at : m ≡ up_to (file_rows b) v
  rowing-at = omega (arith, w.neighbors-so-far.end_is)

  pub rowing-neighbors : length s' ≡ length s
  rowing-neighbors = written-length (packed (take v (file_rows b))) 0 s s' m w.neighbors-so-far

  module _ (h : v < vertex_count_of b) where
    inside : v < length (file_rows b)
    inside = rw (length-file b g) h

    -- where the row ends
    next : up_to (file_rows b) (suc v) ≡ m + length (file_row b v)
    next = omega (arith, rowing-at, up_to-suc (file_rows b) v inside, ap length (row_of b g v h))

    pub row_fits : 2 * link_count_of b ≤ length s → m + length (file_row b v) ≤ length s'
    row_fits k = omega (arith, next, up_to-most (file_rows b) (suc v), length-entries b g, rowing-neighbors)

    pub end-small : m + length (file_row b v) ≤ 2 * link_count_of b
    end-small = omega (arith, next, up_to-most (file_rows b) (suc v), length-entries b g)

    pub rowing-next : (s'' : List ℕ) (r : ℕ) → suc v < length o → Written (file_row b v) m s' s'' r → Rowing b o (set o' (v + 1) r) s s'' r (v + 1)
    rowing-next s'' r k q =
        let e : packed (take v (file_rows b)) ++ file_row b v ≡ packed (take (suc v) (file_rows b)) =
        ap (λ (l : List ℕ). packed (take v (file_rows b)) ++ l) (sym (row_of b g v h)) ∙ sym (packed-suc (file_rows b) v inside) in
        let more : Written (packed (take (suc v) (file_rows b))) 0 s s'' r =
        rw e at (written-more (packed (take v (file_rows b))) (file_row b v) 0 s s' s'' m r w.neighbors-so-far q) in
        let f : suc v < length (file_offsets b) = omega (arith, length-offsets 0 (file_rows b), inside) in
        let x : r ≡ at (file_offsets b) (suc v) = omega (arith, more.end_is, offset_at 0 (file_rows b) (suc v) inside) in
        rw add-one
        (record {
          neighbors-so-far = more;
          offsets-so-far = front-next (file_offsets b) o o' (suc v) w.offsets-so-far r f k x;
        })

pub rowing-end
    : (b : List ℕ) (g : good_links b ≡ true) (o o' s s' : List ℕ) (m v : ℕ)
    → v ≡ vertex_count_of b
    → 2 * link_count_of b ≤ length s
    → Rowing b (set o 0 0) o' s s' m v
    → RowsWritten b o s o' s'
rowing-end b g o o' s s' m v e k w =
    let n : length (file_rows b) ≡ v = length-file b g ∙ sym e in
    let t : take v (file_rows b) ≡ file_rows b = take_all v (file_rows b) (omega arith) in
    let more : suc v ≡ vertex_count_of b + 1 = omega arith in
    let d : drop (suc v) (set o 0 0) ≡ drop (vertex_count_of b + 1) o = drop-set-lt (suc v) o 0 0 (omega arith) ∙ ap (λ (z : ℕ). drop z o) more in
    let z : length (file_neighbors b) ≡ 2 * link_count_of b = length-entries b g in
    record {
      offsets_are = front-end (file_offsets b) (set o 0 0) o' (suc v) w.offsets-so-far (omega (arith, length-offsets 0 (file_rows b))) ∙ rw d;
      neighbors-are =
          w.neighbors-so-far.is
          ∙ ap (λ (l : List (List ℕ)). sets s 0 (packed l)) t
          ∙ sets-eq (file_neighbors b) s 0 (omega arith)
          ∙ ap (λ (x : ℕ). file_neighbors b ++ drop x s) (zero-add (length (file_neighbors b)) ∙ z);
    }
