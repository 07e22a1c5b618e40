-- Laws of a file's workloads: one for each vertex, read from either length. Assumes nothing.
use Prim.Native.Nat.{ℕ, ◌+◌, ◌*◌, ◌≤◌, ◌<◌}
use mathlib.Core.Path.{◌≡◌, sym, ◌∙◌}
use mathlib.Core.Bool.{Bool, true}
use mathlib.Core.List.{List}
use native.Mathlib.Omega.{arith}
use lib.ListN.{length, length-map, length-replicate, get_or-replicate}
use lib.Dec.{eqb}
use borrow.Author.Tests.{eq-eqb, ne_eqb, eqb-true, eqb-false}
use Rattle.links.specs.Lists.{at, any, range}
use Rattle.links.specs.Workloads.{bad_workload, bad_workloads}
use Rattle.links.proofs.ListLaws.{split, length-range}
use Rattle.links.proofs.RowLaws.{get_or-map-range}
use Rattle.multilevel.specs.File.{number, vertex_count_of, link_count_of, good_length, file_workloads}

module _ (b : List ℕ) where
  pub length-workloads : length (file_workloads b) ≡ vertex_count_of b
  unfolding file_workloads
  length-workloads =
      let n = vertex_count_of b in
      let from = 7 + 2 * link_count_of b in
      split (eqb (length b) (28 + 8 * link_count_of b))
      (λ p. rw p (length-replicate n 1))
      (λ p. rw p (length-map (range from n) (number b) ∙ length-range from n))

  -- they are as many as the vertices, so cause 13 is of one of them
  pub workloads-told : (r : Bool) → r ≡ any bad_workload (file_workloads b) → r ≡ bad_workloads (vertex_count_of b) (file_workloads b)
  unfolding bad_workloads
  workloads-told r q = rw (eq-eqb (length (file_workloads b)) (vertex_count_of b) length-workloads) q

  -- ---- either length

  length-is : good_length b ≡ true → (length b ≡ 28 + 8 * link_count_of b → ⊥) → length b ≡ 28 + 8 * link_count_of b + 4 * vertex_count_of b
  unfolding good_length
  length-is g d =
      eqb-true (length b) (28 + 8 * link_count_of b + 4 * vertex_count_of b) (rw (ne_eqb (length b) (28 + 8 * link_count_of b) d) at g)

  pub links-within : good_length b ≡ true → 28 + 8 * link_count_of b ≤ length b
  links-within g = split (eqb (length b) (28 + 8 * link_count_of b))
      (λ p. omega (arith, eqb-true (length b) (28 + 8 * link_count_of b) p))
      (λ p. omega (arith, length-is g (eqb-false (length b) (28 + 8 * link_count_of b) p)))

  module _ (e v : ℕ) (q : e ≡ link_count_of b) (h : v < vertex_count_of b) where
    pub workload-one : length b ≡ 28 + 8 * e → 1 ≡ at (file_workloads b) v
    unfolding file_workloads
    workload-one l = rw (eq-eqb (length b) (28 + 8 * link_count_of b) (rw q at l)) (sym (get_or-replicate (vertex_count_of b) v 1 0 h))

    module _ (d : length b ≡ 28 + 8 * e → ⊥) where
      pub workload-carried : at (file_workloads b) v ≡ number b (7 + 2 * e + v)
      unfolding file_workloads
      workload-carried =
          rw (ne_eqb (length b) (28 + 8 * link_count_of b) (λ l. d (rw q l)), q)
          (get_or-map-range 0 (number b) (7 + 2 * link_count_of b) (vertex_count_of b) v h)

      pub workload-within : good_length b ≡ true → 4 * (7 + 2 * e + v) + 4 ≤ length b
      workload-within g = omega (arith, length-is g (λ l. d (rw q l)))
