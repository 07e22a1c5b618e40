-- What the program lends a division is enough for every accepted file: none is refused by 5. Assumes nothing.
use Prim.Native.Nat.{ℕ, ◌+◌, ◌*◌, ◌≤◌}
use mathlib.Core.Path.{◌≡◌}
use mathlib.Core.Bool.{false}
use mathlib.Core.List.{List}
use native.Mathlib.Omega.{arith}
use native.Mathlib.Nat.{mul-le-mul}
use lib.ListN.{length}
use borrow.Author.Tests.{le-ltb}
use Rattle.links.specs.Graph.{vertex_count}
use Rattle.links.proofs.PackLaws.{length-offsets}
use Rattle.multilevel.specs.Causes.{call_of, work_need, too_short}
use Rattle.multilevel.specs.File.{number, sizes_of, file_rows, file_offsets, file_neighbors, file_workloads, file_cause}
use Rattle.multilevel.proofs.FileLaws.{limits, accepted}
use Rattle.multilevel.proofs.FileRowLaws.{length-file, length-entries}
use Rattle.listing.specs.Share.{lent_owners, lent_work}

need-most : (n m k l : ℕ) → n ≤ 64 → m ≤ 256 → k ≤ 8 → l ≤ 12 → work_need n m k l ≤ 15396
unfolding work_need
need-most n m k l hn hm hk hl =
    let levels : (l + 6) * (4 * n + 2 * m + 2) ≤ 18 * 770 =
    mul-le-mul {n₁ = l + 6} {m₁ = 4 * n + 2 * m + 2} {n₂ = 18} {m₂ = 770} (omega arith) (omega arith) in
    let pairs : (24 * k) * k ≤ 192 * 8 = mul-le-mul {n₁ = 24 * k} {m₁ = k} {n₂ = 192} {m₂ = 8} (omega arith) (omega arith) in
    omega arith

pub lent-enough
    : (b : List ℕ)
    → file_cause b ≡ 0
    → too_short (call_of (file_offsets b) (file_neighbors b) (file_workloads b) (sizes_of b).ranks (sizes_of b).options lent_owners lent_work) ≡ false
unfolding too_short sizes_of
lent-enough b z =
    let a = accepted b z in
    let few = limits b a.within in
    let n : vertex_count (file_offsets b) ≤ 64 = omega (arith, a.vertices, length-offsets 0 (file_rows b), length-file b a.links) in
    let m : length (file_neighbors b) ≤ 256 = omega (arith, length-entries b a.links, a.sized.few) in
    let need = work_need (vertex_count (file_offsets b)) (length (file_neighbors b)) (number b 2) (number b 3) in
    rw (
      le-ltb lent_owners (vertex_count (file_offsets b)) n,
      le-ltb lent_work need (need-most (vertex_count (file_offsets b)) (length (file_neighbors b)) (number b 2) (number b 3) n m few.2 few.3),
    )
