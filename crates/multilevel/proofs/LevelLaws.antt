-- A level of a division is fair: its moves and swaps account for its cut links. Assumes nothing.
use Prim.Native.Nat.{ℕ, ◌+◌}
use mathlib.Core.Path.{◌≡◌, sym, ◌∙◌}
use mathlib.Core.List.{List, [], ◌∷◌}
use native.Mathlib.Omega.{arith}
use lib.ListN.{length}
use Rattle.links.specs.Lists.{foldl}
use Rattle.links.specs.Loads.{Balance}
use Rattle.links.specs.Graph.{Sound, links_cut}
use Rattle.stages.specs.Moves.{Step, after, refine_by_cut}
use Rattle.multilevel.specs.Division.{Level, steps_of}
use Rattle.multilevel.specs.Demand3.{moved, gains, FairLevel}
use Rattle.stages.proofs.CutLaws.{step_cut}
use Rattle.stages.proofs.StepLaws.{Along, along-at, along-append, along-prefix, along-to, length-after, length-steps, Gainful, Swapped, Moved, swapped-gainful, moved-gainful, steps-cut, moves-made, moves-settled, stays-best}

-- cut links at the start = cut links now + gains so far
pub account-of
    : (rows : List (List ℕ))
    → Sound rows
    → (ss : List Step) (own : List ℕ)
    → length own ≡ length rows
    → Along (Gainful rows) after own ss
    → links_cut rows own ≡ links_cut rows (foldl after own ss) + gains rows own ss
unfolding gains
account-of rows so [] own n a = omega arith
account-of rows so (s ∷ ss) own n a =
    omega (arith, step_cut rows so own s n a.0.0 a.0.1, account-of rows so ss (after own s) (length-after own s ∙ n) a.1)

-- a level whose moves are rule 6's, and whose swaps gain, is fair
pub level-fair
    : (b : Balance) (passes : ℕ) (l : Level)
    → Sound l.rows
    → length l.start ≡ length l.rows
    → l.moves ≡ (refine_by_cut b l.rows l.weights passes l.start).steps
    → l.settled ≡ (refine_by_cut b l.rows l.weights passes l.start).settled
    → Along (Swapped b.cap l.rows l.weights) after (moved l) l.swaps
    → FairLevel b passes l
level-fair b passes l s n em es w =
    let rows = l.rows in
    let m : Along (Moved b.cap rows l.weights) after l.start l.moves = rw em (moves-made b rows l.weights passes l.start) in
    let valid : Along (Gainful rows) after l.start (steps_of l) =
    along-append (Gainful rows) after l.moves l.swaps l.start
    (along-to (Moved b.cap rows l.weights) (Gainful rows) after (moved-gainful b.cap rows l.weights) l.moves l.start m)
    (along-to (Swapped b.cap rows l.weights) (Gainful rows) after (swapped-gainful b.cap rows l.weights) l.swaps (moved l) w) in
    record {
      moves-are = em;
      settled_is = es;
      account = λ done left e.
          account-of rows s done l.start n (along-prefix (Gainful rows) after done left l.start (rw e at valid));
      gainful = λ done left t e. (along-at (Gainful rows) after done left (steps_of l) l.start t valid e).1;
      bounded = omega (arith, steps-cut rows s (steps_of l) l.start n valid);
      settling = λ e v r h k leaves joins.
          stays-best b rows l.weights s (moved l) (length-steps l.moves l.start ∙ n)
          (rw em (moves-settled b rows l.weights passes l.start (sym es ∙ e))) v r h k leaves joins;
    }
