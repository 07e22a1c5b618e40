-- An input longer than any file: what stands in its first 1,309 bytes decides its text. The program `share` reads no more. Assumes nothing.
use Prim.Native.Nat.{ℕ, ◌+◌, ◌*◌, ◌≤◌, ◌<◌}
use mathlib.Core.Path.{◌≡◌}
use mathlib.Core.Bool.{cond}
use mathlib.Core.List.{List}
use native.Mathlib.Omega.{arith}
use lib.ListN.{length, take}
use lib.Seq.{get_or-take, length-take-le}
use borrow.Author.Tests.{le-ltb, ne_eqb}
use Rattle.links.proofs.ListLaws.{split}
use Rattle.multilevel.proofs.FileLaws.{limits}
use Rattle.multilevel.specs.File.{number, over_program_limits, vertex_count_of, link_count_of, good_length, file_cause}
use Rattle.listing.specs.Listing.{refusal_text}
use Rattle.listing.specs.Share.{file_text}

prefix-number : (b : List ℕ) (n i : ℕ) → 4 * i + 3 < n → number (take n b) i ≡ number b i
unfolding number
prefix-number b n i h =
    rw (
      get_or-take n b (4 * i) 0 (omega arith),
      get_or-take n b (4 * i + 1) 0 (omega arith),
      get_or-take n b (4 * i + 2) 0 (omega arith),
      get_or-take n b (4 * i + 3) 0 (omega arith),
    )

-- no file has so many bytes
long-cause : (b : List ℕ) → 1309 ≤ length b → file_cause b ≡ cond (over_program_limits b) 3 10
unfolding file_cause good_length
long-cause b h =
    split (over_program_limits b)
    (λ p. rw (le-ltb (length b) 28 (omega arith), p))
    (λ p.
    let few = limits b p in
    rw (
      le-ltb (length b) 28 (omega arith),
      p,
      ne_eqb (length b) (28 + 8 * link_count_of b) (λ e. omega arith),
      ne_eqb (length b) (28 + 8 * link_count_of b + 4 * vertex_count_of b) (λ e. omega arith),
    ))

long-text : (b : List ℕ) → 1309 ≤ length b → file_text b ≡ refusal_text (cond (over_program_limits b) 3 10)
unfolding file_text
long-text b h = rw (long-cause b h) (split (over_program_limits b) (λ p. rw p) (λ p. rw p))

prefix-limits : (b : List ℕ) → over_program_limits (take 1309 b) ≡ over_program_limits b
unfolding over_program_limits
prefix-limits b =
    rw (
      prefix-number b 1309 0 (omega arith),
      prefix-number b 1309 1 (omega arith),
      prefix-number b 1309 2 (omega arith),
      prefix-number b 1309 3 (omega arith),
    )

pub prefix-text : (b : List ℕ) → 1309 ≤ length b → file_text (take 1309 b) ≡ file_text b
prefix-text b h =
    let l : 1309 ≤ length (take 1309 b) = rw (length-take-le 1309 b h) (omega arith) in
    rw (long-text b h, long-text (take 1309 b) l, prefix-limits b)
