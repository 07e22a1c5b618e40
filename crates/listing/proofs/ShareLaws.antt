-- Laws on the way from a link file to its text: what the reader and the division told, as texts. Assumes nothing.
use Prim.Native.Nat.{ℕ, ◌+◌, ◌*◌, ◌/◌, ◌≤◌}
use mathlib.Core.Path.{◌≡◌, sym, ap, ◌∙◌}
use mathlib.Core.List.{List, ◌++◌}
use native.Mathlib.Omega.{arith}
use lib.ListN.{length, take, drop, length-append}
use lib.Seq.{take_at, length-take-le}
use lib.Dec.{eqb, ltb}
use borrow.Author.Tests.{le-ltb, eq-eqb, eqb-true}
use Rattle.io.specs.Counts.{IsPrefixLen}
use Rattle.std.specs.Prelude.{Result, Ok, Err}
use Rattle.links.specs.Refusals.{refusal_number, number_of}
use Rattle.links.specs.declared.refusal.Refusal.{Refusal}
use Rattle.links.specs.declared.options.AbtmMultilevelStats.{AbtmMultilevelStats}
use Rattle.links.proofs.RefusalLaws.{refusal-some}
use Rattle.links.proofs.ListLaws.{split}
use Rattle.links.proofs.PackLaws.{length-offsets}
use Rattle.multilevel.specs.Causes.{Call}
use Rattle.multilevel.specs.Division.{Outcome, refused, divided, division}
use Rattle.multilevel.specs.Demand3.{site_rows}
use Rattle.multilevel.specs.Contract.{Answers, owners_after, Partitioned}
use Rattle.multilevel.specs.File.{sizes_of, vertex_count_of, link_count_of, file_rows, file_offsets, file_neighbors, file_workloads, file_cause, reader_cause, FileRead}
use Rattle.multilevel.specs.declared.file.Sizes.{Sizes}
use Rattle.multilevel.proofs.CutLaws.{half-told}
use Rattle.multilevel.proofs.FileLaws.{accepted}
use Rattle.multilevel.proofs.FileRowLaws.{length-file, length-entries}
use Rattle.multilevel.proofs.FileWorkloadLaws.{length-workloads}
use Rattle.listing.specs.Text.{Told}
use Rattle.listing.specs.Listing.{site_text, refusal_text}
use Rattle.listing.specs.Share.{outcome_text, call_text, file_text}

-- ---- a text told

module _ {xs t t₁ : List ℕ} {room m : ℕ} (p : Told xs room t t₁ m) where
  -- of a slice with more room than is asked for, more may be asked
  pub with-room : (more : ℕ) → room ≤ more → more ≤ length t → Told xs more t t₁ m
  with-room more h k =
      record {
        size = rw (le-ltb (length t) more k) (rw (le-ltb (length t) room (omega arith)) at p.size);
        is = rw (le-ltb (length t) more k) (rw (le-ltb (length t) room (omega arith)) at p.is);
      }

  within : m ≤ length t₁
  within =
      split (ltb (length t) room)
      (λ e. let z : m ≡ 0 = rw e at p.size in omega arith)
      (λ e.
      let s : m ≡ length xs = rw e at p.size in
      let q : t₁ ≡ xs ++ drop (length xs) t = rw e at p.is in
      omega (arith, ap length q, length-append xs (drop (length xs) t)))

  pub counts : IsPrefixLen m t₁
  counts = (within, sym (length-take-le m t₁ within))

-- ---- what a division told

outcome-divided
    : (o : Outcome) (a : Result AbtmMultilevelStats Refusal) (s : AbtmMultilevelStats) → Answers o a → a ≡ Ok s → (w : List ℕ) × (o ≡ divided w s)
outcome-divided (refused number) a s p e = let z : ⊥ = cc (p.1) in absurd z
outcome-divided (divided w s₁) a s p e = (w, cc)

outcome-refused
    : (o : Outcome) (a : Result AbtmMultilevelStats Refusal) (e : Refusal) → Answers o a → a ≡ Err e → o ≡ refused (refusal_number e)
outcome-refused (refused n) a e p k = cc
outcome-refused (divided w s) a e p k = cc

module _ {c : Call} {owners owners' work work' : List ℕ} {a : Result AbtmMultilevelStats Refusal} (p : Partitioned c owners owners' work work' a) where
  -- the first n owners are the division's
  pub owners-told
      : (s : AbtmMultilevelStats) (n : ℕ)
      → a ≡ Ok s
      → length c.offsets ≡ n + 1
      → (n ≡ length (take n owners')) × ((division c).outcome ≡ divided (take n owners') s)
  owners-told s n e h =
      let d = outcome-divided (division c).outcome a s p.answer-is e in
      let size : length d.0 ≡ n = (p.demand3.shares d.0 s d.1).size ∙ omega arith in
      let all : owners' ≡ d.0 ++ drop (length d.0) owners = p.owners-are ∙ ap (λ (o : Outcome). owners_after o owners) d.1 in
      let first : take n owners' ≡ d.0 = ap (take n) all ∙ take_at d.0 (drop (length d.0) owners) n size in
      (sym (ap length first ∙ size), d.1 ∙ ap (λ (w : List ℕ). divided w s) (sym first))

  pub refusal-told : (e : Refusal) (number : ℕ) → a ≡ Err e → number ≡ number_of a → (division c).outcome ≡ refused number
  refusal-told e number k q = rw (q, k) (outcome-refused (division c).outcome a e p.answer-is k)

module _ (c : Call) where
  -- with half of the stats' cut, which is the cut links
  pub divided-text
      : (w : List ℕ) (s : AbtmMultilevelStats)
      → (division c).outcome ≡ divided w s
      → site_text c.ranks w (s.final_cut_nnz / 2) s ≡ outcome_text (site_rows c) c.ranks (division c).outcome
  unfolding outcome_text
  divided-text w s e = rw (e, half-told c w s e)

  pub refused-text
      : (number : ℕ) → (division c).outcome ≡ refused number → refusal_text number ≡ outcome_text (site_rows c) c.ranks (division c).outcome
  unfolding outcome_text
  refused-text number e = rw e

-- ---- what the reader told

-- a file that was read: its sizes, and the parts of the three slices that hold its lists and its workloads
pub record SiteRead (b offsets neighbors workloads : List ℕ) (s : Sizes) : Type 0 where
  pub accepts : file_cause b ≡ 0
  pub sizes : s ≡ sizes_of b
  pub few : s.vertices ≤ 64
  pub offsets-fit : s.vertices + 1 ≤ length offsets
  pub neighbors-fit : 2 * s.links ≤ length neighbors
  pub workloads-fit : s.vertices ≤ length workloads
  pub offsets_are : take (s.vertices + 1) offsets ≡ file_offsets b
  pub neighbors-are : take (2 * s.links) neighbors ≡ file_neighbors b
  pub workloads-are : take s.vertices workloads ≡ file_workloads b

reader-file : (b : List ℕ) (l m n : ℕ) → reader_cause b l m n ≡ 0 → file_cause b ≡ 0
unfolding reader_cause
reader-file b l m n z =
    split (eqb (file_cause b) 0)
    (λ p. eqb-true (file_cause b) 0 p)
    (λ p. rw p at z)

-- 65 offsets, 256 neighbors and 64 workloads are enough for any file
reader-enough : (b : List ℕ) → reader_cause b 65 256 64 ≡ file_cause b
unfolding reader_cause
reader-enough b =
    split (eqb (file_cause b) 0)
    (λ p.
    let z = eqb-true (file_cause b) 0 p in
    let a = accepted b z in
    rw (
      p,
      le-ltb 65 (vertex_count_of b + 1) (omega (arith, a.vertices)),
      le-ltb 256 (2 * link_count_of b) (omega (arith, a.sized.few)),
      le-ltb 64 (vertex_count_of b) (omega (arith, a.vertices)),
    ) (sym z))
    (λ p. rw p)

module _ {b o n w o' n' w' : List ℕ} {r : Result Sizes Refusal} (f : FileRead b o n w o' n' w' r) where
  reader-zero : (s : Sizes) → r ≡ Ok s → (reader_cause b (length o) (length n) (length w) ≡ 0) × (s ≡ sizes_of b)
  reader-zero s e =
      let z : reader_cause b (length o) (length n) (length w) ≡ 0 = sym (rw e at f.number) in
      (z, cc (f.answer z))

  pub site-read : (s : Sizes) → r ≡ Ok s → SiteRead b o' n' w' s
  unfolding sizes_of
  site-read s e =
      let d = reader-zero s e in
      let z = reader-file b (length o) (length n) (length w) d.0 in
      let a = accepted b z in
      let ev : s.vertices ≡ vertex_count_of b = ap (λ (x : Sizes). x.vertices) d.1 in
      let el : s.links ≡ link_count_of b = ap (λ (x : Sizes). x.links) d.1 in
      let lo : length (file_offsets b) ≡ s.vertices + 1 = omega (arith, length-offsets 0 (file_rows b), length-file b a.links) in
      let ln : length (file_neighbors b) ≡ 2 * s.links = omega (arith, length-entries b a.links) in
      let eo = f.offsets-written d.0 in
      let en = f.neighbors-written d.0 in
      let ew = f.workloads-written d.0 in
      let lw : length (file_workloads b) ≡ s.vertices = length-workloads b ∙ sym ev in
      record {
        accepts = z;
        sizes = d.1;
        few = omega (arith, a.vertices);
        offsets-fit = omega (arith, ap length eo, length-append (file_offsets b) (drop (vertex_count_of b + 1) o));
        neighbors-fit = omega (arith, ap length en, length-append (file_neighbors b) (drop (2 * link_count_of b) n));
        workloads-fit = omega (arith, ap length ew, length-append (file_workloads b) (drop (vertex_count_of b) w));
        offsets_are = ap (take (s.vertices + 1)) eo ∙ take_at (file_offsets b) (drop (vertex_count_of b + 1) o) (s.vertices + 1) lo;
        neighbors-are = ap (take (2 * s.links)) en ∙ take_at (file_neighbors b) (drop (2 * link_count_of b) n) (2 * s.links) ln;
        workloads-are = ap (take s.vertices) ew ∙ take_at (file_workloads b) (drop (vertex_count_of b) w) s.vertices lw;
      }

  -- with enough lent, a refusal is the file's own
  pub file-refused
      : (e : Refusal) (number : ℕ) → r ≡ Err e → number ≡ number_of r → length o ≡ 65 → length n ≡ 256 → length w ≡ 64 → refusal_text number ≡ file_text b
  unfolding file_text
  file-refused e number q k ho hn hw =
      let same : reader_cause b (length o) (length n) (length w) ≡ file_cause b = rw (ho, hn, hw) (reader-enough b) in
      let i : number_of r ≡ file_cause b = f.number ∙ same in
      split (eqb (file_cause b) 0)
      (λ p. absurd (refusal-some e (rw q at i ∙ eqb-true (file_cause b) 0 p)))
      (λ p. rw (k, p, i))

pub site-text
    : {b offsets neighbors workloads : List ℕ} {s : Sizes}
    → SiteRead b offsets neighbors workloads s
    → call_text (take (s.vertices + 1) offsets) (take (2 * s.links) neighbors) (take s.vertices workloads) s ≡ file_text b
unfolding file_text
site-text {b} r = rw (r.offsets_are, r.neighbors-are, r.workloads-are, r.sizes, eq-eqb (file_cause b) 0 r.accepts)
