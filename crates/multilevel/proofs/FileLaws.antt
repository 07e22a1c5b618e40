-- Laws of the link file's tests, each as the code meets it. Assumes nothing.
use Prim.Native.Nat.{ℕ, ◌+◌, ◌-◌, ◌≤◌, ◌<◌}
use mathlib.Core.Path.{◌≡◌, refl, sym, ◌∙◌}
use mathlib.Core.Bool.{Bool, true, false, ◌&&◌, ◌||◌, cond}
use mathlib.Core.List.{List}
use native.Mathlib.Omega.{arith}
use lib.ListN.{length}
use lib.Dec.{ltb}
use borrow.Author.Tests.{ltb-false, lt-ltb, le-ltb}
use Rattle.links.specs.Lists.{any, all, range}
use Rattle.links.specs.Options.{bad_list_length, bad_swaps}
use Rattle.links.specs.Workloads.{bad_workload, bad_workloads}
use Rattle.links.proofs.ListLaws.{split, and_l, and_r, or_l, or_r, any-range, to-any, elem-range}
use Rattle.multilevel.specs.File.{number, sizes_of, good_links, vertex_count_of, link_count_of, over_program_limits, good_length, file_workloads, lone_in, has_lone, file_cause, Sized}
use Rattle.multilevel.proofs.FileWorkloadLaws.{workloads-told, links-within}

-- a test of all links, as a loop over them meets it first
pub every-link : (b : List ℕ) (e : ℕ) → Sized b e → (p : ℕ → Bool) → all p (range 0 (e - 0)) ≡ all p (range 0 (link_count_of b))
every-link b e s p = let z : e - 0 ≡ link_count_of b = omega (arith, s.links) in rw z

-- ---- lone vertices

-- the vertices gone through from the last down
pub lone-next
    : (b : List ℕ) (n v : ℕ)
    → 0 < v
    → v ≤ n
    → any (lone_in b) (range v (n - v)) ≡ false
    → lone_in b (v - 1) ≡ false
    → any (lone_in b) (range (v - 1) (n - (v - 1))) ≡ false
lone-next b n v p k s f = let z : (v - 1) + 1 ≡ v = omega arith in any-range (lone_in b) (v - 1) n (omega arith) ∙ rw (f, z) s

module _ (b : List ℕ) (n : ℕ) (e : n ≡ vertex_count_of b) where
  pub lone-few : n < 2 → false ≡ has_lone b
  unfolding has_lone
  lone-few h = rw (le-ltb 1 (vertex_count_of b) (omega arith))

  pub lone-many : 2 ≤ n → any (lone_in b) (range 0 n) ≡ has_lone b
  unfolding has_lone
  lone-many h = rw (lt-ltb 1 (vertex_count_of b) (omega arith), e)

  module _ (h : 2 ≤ n) where
    pub lone-found : (v : ℕ) → v < n → lone_in b v ≡ true → true ≡ has_lone b
    lone-found v k l = sym (to-any (lone_in b) (range 0 n) v (elem-range v 0 n (omega arith) (omega arith)) l) ∙ lone-many h

    pub lone-none : (v : ℕ) → v ≡ 0 → any (lone_in b) (range v (n - v)) ≡ false → false ≡ has_lone b
    lone-none v p s = let z : n - v ≡ n = omega arith in sym (rw (z, p) at s) ∙ lone-many h

-- ---- the check's answers

-- what the program's limits leave
pub limits : (b : List ℕ) → over_program_limits b ≡ false → (vertex_count_of b ≤ 64) × (link_count_of b ≤ 128) × (number b 2 ≤ 8) × (number b 3 ≤ 12)
unfolding over_program_limits
limits b q =
    let v = ltb 64 (number b 0) in
    let e = ltb 128 (number b 1) in
    let k = ltb 8 (number b 2) in
    let l = ltb 12 (number b 3) in
    let three = or_l (v || e || k) l q in
    let two = or_l (v || e) k three in (
      ltb-false 64 (number b 0) (or_l v e two),
      ltb-false 128 (number b 1) (or_r v e two),
      ltb-false 8 (number b 2) (or_r (v || e) k three),
      ltb-false 12 (number b 3) (or_r (v || e || k) l q),
    )

module _ (b : List ℕ) where
  pub file-short : length b < 28 → 10 ≡ file_cause b
  unfolding file_cause
  file-short h = rw (lt-ltb (length b) 28 h)

  module _ (h : 28 ≤ length b) where
    pub file-over : true ≡ over_program_limits b → 3 ≡ file_cause b
    unfolding file_cause
    file-over e = rw (le-ltb (length b) 28 h, ← e)

    module _ (k : false ≡ over_program_limits b) where
      pub file-length : false ≡ good_length b → 10 ≡ file_cause b
      unfolding file_cause
      file-length g = rw (le-ltb (length b) 28 h, ← k, ← g)

      module _ (g : true ≡ good_length b) where
        pub file-links : false ≡ good_links b → 10 ≡ file_cause b
        unfolding file_cause
        file-links l = rw (le-ltb (length b) 28 h, ← k, ← g, ← l)

        module _ (l : true ≡ good_links b) where
          pub file-workloads : true ≡ any bad_workload (file_workloads b) → 13 ≡ file_cause b
          unfolding file_cause
          file-workloads q = rw (le-ltb (length b) 28 h, ← k, ← g, ← l, ← workloads-told b true q)

          pub file-lone : false ≡ any bad_workload (file_workloads b) → (r : Bool) → r ≡ has_lone b → cond r 14 0 ≡ file_cause b
          unfolding file_cause
          file-lone q r e = rw (le-ltb (length b) 28 h, ← k, ← g, ← l, ← workloads-told b false q, e)

        -- what the check goes on with
        pub file-sized : (e : ℕ) → e ≡ link_count_of b → Sized b e
        file-sized e q =
            record { links = q; few = omega (arith, (limits b (sym k)).1); bytes = omega (arith, links-within b (sym g)) }

-- no file is refused by 17: what it does not say has its default
pub file-swaps : (b : List ℕ) → bad_swaps (sizes_of b).options ≡ false
unfolding sizes_of bad_swaps bad_list_length
file-swaps b = refl

-- ---- what the check's 0 is worth

pub record Accepted (b : List ℕ) : Type 0 where
  pub long : 28 ≤ length b
  pub within : over_program_limits b ≡ false
  pub vertices : vertex_count_of b ≤ 64
  pub sized : Sized b (link_count_of b)
  pub whole : good_length b ≡ true
  pub links : good_links b ≡ true
  pub workloads : bad_workloads (vertex_count_of b) (file_workloads b) ≡ false
  pub linked : has_lone b ≡ false

pub accepted : (b : List ℕ) → file_cause b ≡ 0 → Accepted b
unfolding file_cause
accepted b z = split (ltb (length b) 28)
    (λ p. let q : ◌≡◌ {A = ℕ} 10 0 = rw p at z in absurd (omega arith))
    (λ p. split (over_program_limits b)
    (λ q. let r : ◌≡◌ {A = ℕ} 3 0 = rw (p, q) at z in absurd (omega arith))
    (λ q. split (good_length b && good_links b)
    (λ r. split (bad_workloads (vertex_count_of b) (file_workloads b))
    (λ w. let s : ◌≡◌ {A = ℕ} 13 0 = rw (p, q, r, w) at z in absurd (omega arith))
    (λ w. split (has_lone b)
    (λ l. let s : ◌≡◌ {A = ℕ} 14 0 = rw (p, q, r, w, l) at z in absurd (omega arith))
    (λ l.
    let h = ltb-false (length b) 28 p in
    let g = and_l (good_length b) (good_links b) r in
    record {
      long = h;
      within = q;
      vertices = (limits b q).0;
      sized = file-sized b h (sym q) (sym g) (link_count_of b) refl;
      whole = g;
      links = and_r (good_length b) (good_links b) r;
      workloads = w;
      linked = l;
    })))
    (λ r. let s : ◌≡◌ {A = ℕ} 10 0 = rw (p, q, r) at z in absurd (omega arith))))
