-- Rule 6: moves; and the steps that moves and swaps are made of. Assumes nothing.
use Rattle.std.specs.Prelude.{ℕ, zero, suc, ◌+◌, ◌-◌, Bool, true, false, ◌&&◌, cond, List, [], ◌∷◌, ◌++◌, set, leb, ltb}
use Rattle.std.proofs.Math.Option.{Option, none}
use Rattle.links.specs.Lists.{at, filter, foldl, best, range, elem, empty, option, above}
use Rattle.links.specs.Loads.{Balance}
use Rattle.links.specs.Graph.{row, vertices, links_to, load}

-- a vertex goes to a rank, or two vertices change places
pub data Step : Type 0 where
  move : ℕ → ℕ → Step
  swap : ℕ → ℕ → Step

-- the owners that a step leaves
unfoldable pub after : List ℕ → Step → List ℕ
after owners (move v r) = set owners v r
after owners (swap u v) = set (set owners u (at owners v)) v (at owners u)

-- 1 where u and v are linked
unfoldable pub linked : List (List ℕ) → ℕ → ℕ → ℕ
linked rows u v = cond (elem v (row rows u)) 1 0

-- a step's gain, "from the owners just before". A move's: "neighbours there less neighbours at home". A swap's: both vertices' gains, "leaving out
-- the link between the two"
unfoldable pub gain : List (List ℕ) → List ℕ → Step → ℕ
gain rows owners (move v r) = links_to rows owners v r - links_to rows owners v (at owners v)
gain rows owners (swap u v) =
    let a = at owners u in
    let b = at owners v in
    (links_to rows owners u b - linked rows u v) + (links_to rows owners v a - linked rows v u)
    - (links_to rows owners u a + links_to rows owners v b)

-- passes, each on the owners that the one before left, "ending after a pass without" a step: the steps, and whether they ended so
pub record Steps : Type 0 where
  pub steps : List Step
  pub settled : Bool

unfoldable pub repeat : ℕ → (List ℕ → List Step) → List ℕ → Steps
repeat zero pass owners = record { steps = []; settled = false }
repeat (suc f) pass owners =
    let ss = pass owners in
    let rest = repeat f pass (foldl after owners ss) in
    let more : Steps = record { steps = ss ++ rest.steps; settled = rest.settled } in
    cond (empty ss) (record { steps = []; settled = true }) more

module _ (b : Balance) (rows : List (List ℕ)) (weights : List ℕ) where
  -- "may leave if its crew's load less its weight is at least the floor"
  unfoldable pub may_leave : List ℕ → ℕ → Bool
  may_leave owners v = leb (b.floor + at weights v) (load weights owners (at owners v))

  -- "load plus weight within cap"
  unfoldable pub may_join : List ℕ → ℕ → ℕ → Bool
  may_join owners v r = leb (load weights owners r + at weights v) b.cap

  -- r before s as v's target: "greatest gain"; where both offer "the same gain, the one with the smaller load now", "and only then the lower crew
  -- number": the last by ranks that rise
  unfoldable pub preferred : List ℕ → ℕ → ℕ → ℕ → Bool
  preferred owners v r s =
      above (gain rows owners (move v r)) (gain rows owners (move v s)) (ltb (load weights owners r) (load weights owners s))

  -- "more neighbours than in its own crew, load plus weight within cap"
  unfoldable pub target : List ℕ → ℕ → Option ℕ
  target owners v = best (preferred owners v) (filter (λ r. ltb 0 (gain rows owners (move v r)) && may_join owners v r) (range 0 b.ranks))

  -- where v goes, if it may leave and has a target
  unfoldable pub destination : List ℕ → ℕ → Option ℕ
  destination owners v = cond (may_leave owners v) (target owners v) none

  -- vertices "by number", each on the owners that the move before left
  unfoldable pub move_pass : List ℕ → List ℕ → List Step
  move_pass [] owners = []
  move_pass (v ∷ vs) owners =
      let stays = move_pass vs owners in
      option (destination owners v) stays (λ r. move v r ∷ move_pass vs (set owners v r))

  -- "up to refinement_passes, ending after a pass without a move"
  unfoldable pub refine_by_cut : ℕ → List ℕ → Steps
  refine_by_cut passes owners = repeat passes (move_pass (vertices rows)) owners
