-- Laws of the reader's answers. Assumes nothing.
use Prim.Native.Nat.{ℕ, ◌+◌, ◌*◌, ◌≤◌, ◌<◌}
use mathlib.Core.Path.{◌≡◌, refl, sym, ◌∙◌}
use mathlib.Core.Bool.{◌||◌}
use mathlib.Core.List.{List, ◌++◌}
use native.Mathlib.Omega.{arith}
use lib.ListN.{length, drop}
use lib.Dec.{ltb, eqb}
use borrow.Author.Tests.{lt-ltb, le-ltb, eq-eqb, ne_eqb, eqb-true, eqb-false, ltb-false}
use Rattle.links.proofs.ListLaws.{split, or_l, or_r}
use Rattle.multilevel.specs.File.{vertex_count_of, link_count_of, sizes_of, file_workloads, file_cause, reader_cause, FileRead, RowsWritten}
use Rattle.std.specs.Prelude.{Result, Ok, Err}
use Rattle.links.specs.Refusals.{refusal_number}
use Rattle.links.specs.declared.refusal.Refusal.{Refusal}
use Rattle.links.proofs.RefusalLaws.{refusal-some}
use Rattle.multilevel.specs.declared.file.Sizes.{Sizes}
use Rattle.multilevel.proofs.FileLaws.{Accepted, accepted}
use Rattle.multilevel.proofs.FileRowLaws.{file-lists, linked-rows}

-- ---- the number

module _ (b : List ℕ) (o s w : ℕ) where
  pub cause-file : (x : ℕ) → x ≡ file_cause b → (x ≡ 0 → ⊥) → x ≡ reader_cause b o s w
  unfolding reader_cause
  cause-file x e d = rw (ne_eqb (file_cause b) 0 (λ z. d (e ∙ z))) e

  module _ (z : file_cause b ≡ 0) where
    pub cause-offsets : o < vertex_count_of b + 1 → 5 ≡ reader_cause b o s w
    unfolding reader_cause
    cause-offsets h = rw (eq-eqb (file_cause b) 0 z, lt-ltb o (vertex_count_of b + 1) h)

    module _ (h : vertex_count_of b + 1 ≤ o) where
      pub cause-neighbors : s < 2 * link_count_of b → 5 ≡ reader_cause b o s w
      unfolding reader_cause
      cause-neighbors k = rw (eq-eqb (file_cause b) 0 z, le-ltb o (vertex_count_of b + 1) h, lt-ltb s (2 * link_count_of b) k)

      module _ (k : 2 * link_count_of b ≤ s) where
        pub cause-workloads : w < vertex_count_of b → 5 ≡ reader_cause b o s w
        unfolding reader_cause
        cause-workloads l =
            rw (eq-eqb (file_cause b) 0 z, le-ltb o (vertex_count_of b + 1) h, le-ltb s (2 * link_count_of b) k, lt-ltb w (vertex_count_of b) l)

        pub cause-none : vertex_count_of b ≤ w → 0 ≡ reader_cause b o s w
        unfolding reader_cause
        cause-none l =
            rw (eq-eqb (file_cause b) 0 z, le-ltb o (vertex_count_of b + 1) h, le-ltb s (2 * link_count_of b) k, le-ltb w (vertex_count_of b) l)

  -- what its 0 is worth
  pub record Roomy : Type 0 where
    pub file : Accepted b
    pub offsets : vertex_count_of b + 1 ≤ o
    pub neighbors : 2 * link_count_of b ≤ s
    pub workloads : vertex_count_of b ≤ w

  pub roomy : reader_cause b o s w ≡ 0 → Roomy
  unfolding reader_cause
  roomy e = split (eqb (file_cause b) 0)
      (λ p. split (ltb o (vertex_count_of b + 1) || ltb s (2 * link_count_of b) || ltb w (vertex_count_of b))
      (λ q. let z : ◌≡◌ {A = ℕ} 5 0 = rw (p, q) at e in absurd (omega arith))
      (λ q.
      let both = or_l (ltb o (vertex_count_of b + 1) || ltb s (2 * link_count_of b)) (ltb w (vertex_count_of b)) q in
      record {
        file = accepted b (eqb-true (file_cause b) 0 p);
        offsets = ltb-false o (vertex_count_of b + 1) (or_l (ltb o (vertex_count_of b + 1)) (ltb s (2 * link_count_of b)) both);
        neighbors = ltb-false s (2 * link_count_of b) (or_r (ltb o (vertex_count_of b + 1)) (ltb s (2 * link_count_of b)) both);
        workloads = ltb-false w (vertex_count_of b) (or_r (ltb o (vertex_count_of b + 1) || ltb s (2 * link_count_of b)) (ltb w (vertex_count_of b)) q);
      }))
      (λ p. let z : file_cause b ≡ 0 = rw p at e in absurd (eqb-false (file_cause b) 0 p z))

-- ---- the answer

module _ (b o s w : List ℕ) where
  -- a refusal leaves all as it was
  pub read-bad : (r : Result Sizes Refusal) (e : Refusal) → r ≡ Err e → refusal_number e ≡ reader_cause b (length o) (length s) (length w) → FileRead b o s w o s w r
  read-bad r e is number =
      let d : reader_cause b (length o) (length s) (length w) ≡ 0 → ⊥ = λ z. refusal-some e (number ∙ z) in
      rw is record {
        answer = λ z. absurd (d z);
        number = number;
        sizes = rw (ne_eqb _ 0 d);
        refused = λ n. (refl, refl, refl);
        offsets-written = λ z. absurd (d z);
        neighbors-written = λ z. absurd (d z);
        workloads-written = λ z. absurd (d z);
        sound = λ z. file-lists b (accepted b z).links;
        workloads-pass = λ z. (accepted b z).workloads;
        linked = λ z. linked-rows b (accepted b z).links (accepted b z).linked;
      }

  pub read_all
      : reader_cause b (length o) (length s) (length w) ≡ 0
      → (o' s' : List ℕ)
      → RowsWritten b o s o' s'
      → (w' : List ℕ)
      → w' ≡ file_workloads b ++ drop (vertex_count_of b) w
      → FileRead b o s w o' s' w' (Ok (sizes_of b))
  read_all e o' s' rows w' ws =
      record {
        answer = λ z. refl;
        number = sym e;
        sizes = rw e;
        refused = λ n. absurd (n e);
        offsets-written = λ q. rows.offsets_are;
        neighbors-written = λ q. rows.neighbors-are;
        workloads-written = λ q. ws;
        sound = λ z. file-lists b (accepted b z).links;
        workloads-pass = λ z. (accepted b z).workloads;
        linked = λ z. linked-rows b (accepted b z).links (accepted b z).linked;
      }
