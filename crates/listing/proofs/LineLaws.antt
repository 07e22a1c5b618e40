-- Laws of a listing's lines. Assumes nothing.
use Prim.Native.Nat.{ℕ, ◌+◌}
use mathlib.Core.Path.{◌≡◌, refl, sym, ap, ◌∙◌}
use mathlib.Core.List.{List, [], ◌∷◌, ◌++◌, append-nil, append_assoc}
use native.Mathlib.Omega.{arith}
use native.Mathlib.Numerals.{add-one}
use Rattle.links.specs.Lists.{at, range, concat_map}
use Rattle.links.proofs.RangeLaws.{range_snoc, concat-append}
use Rattle.links.specs.declared.options.AbtmMultilevelStats.{AbtmMultilevelStats}
use Rattle.listing.specs.Text.{bytes, decimal}
use Rattle.listing.specs.Listing.{head_text, line_text, lines_text, coarse_text, fine_text}

two : (a x b y c : List ℕ) → ((a ++ x) ++ (b ++ y)) ++ c ≡ a ++ x ++ b ++ y ++ c
two a x b y c = simp append_assoc

four : (a w b x c y d z : List ℕ) → (((a ++ w) ++ (b ++ x)) ++ (c ++ y)) ++ (d ++ z) ≡ a ++ w ++ b ++ x ++ c ++ y ++ d ++ z
four a w b x c y d z = simp append_assoc

pub lines_none : (owners : List ℕ) → lines_text owners 0 ≡ []
unfolding lines_text
lines_none owners = refl

pub lines_more : (owners : List ℕ) (v : ℕ) → lines_text owners v ++ line_text v (at owners v) ≡ lines_text owners (v + 1)
unfolding lines_text
lines_more owners v =
    let f : ℕ → List ℕ = λ u. line_text u (at owners u) in
    let e : range 0 (v + 1) ≡ range 0 v ++ (v ∷ []) = rw add-one (range_snoc 0 v v (omega arith)) in
    sym (ap (concat_map f) e ∙ concat-append f (range 0 v) (v ∷ []) ∙ rw append-nil)

-- ---- lines piece by piece

pub head-text
    : (n k k' : ℕ) → k' ≡ k → ((bytes "turbines " ++ decimal n) ++ (bytes " crews " ++ decimal k')) ++ bytes "\n" ≡ head_text n k
unfolding head_text
head-text n k k' e = rw e (two (bytes "turbines ") (decimal n) (bytes " crews ") (decimal k) (bytes "\n"))

pub coarse-text
    : (s : AbtmMultilevelStats)
    → (((bytes "levels " ++ decimal s.levels_built) ++ (bytes " coarsest " ++ decimal s.coarsest_vertices))
    ++ (bytes " pairs " ++ decimal s.matched_pairs))
    ++ (bytes " singles " ++ decimal s.singleton_aggregates)
    ≡ coarse_text s
unfolding coarse_text
coarse-text s =
    four
    (bytes "levels ")
    (decimal s.levels_built)
    (bytes " coarsest ")
    (decimal s.coarsest_vertices)
    (bytes " pairs ")
    (decimal s.matched_pairs)
    (bytes " singles ")
    (decimal s.singleton_aggregates)

pub fine-text
    : (cut : ℕ) (s : AbtmMultilevelStats)
    → (((bytes " restarts " ++ decimal s.coarse_restarts) ++ (bytes " moves " ++ decimal s.refinement_moves))
    ++ (bytes " cut " ++ decimal cut))
    ++ (bytes " volume " ++ decimal s.final_communication_volume)
    ≡ fine_text cut s
unfolding fine_text
fine-text cut s =
    four
    (bytes " restarts ")
    (decimal s.coarse_restarts)
    (bytes " moves ")
    (decimal s.refinement_moves)
    (bytes " cut ")
    (decimal cut)
    (bytes " volume ")
    (decimal s.final_communication_volume)
