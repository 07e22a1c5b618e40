-- Rule 7: swaps, on the finest level. Assumes nothing.
use Rattle.std.specs.Prelude.{ℕ, suc, ◌+◌, ◌-◌, ◌*◌, Bool, not, ◌&&◌, cond, List, [], ◌∷◌, map, take, ltb, eqb}
use Rattle.links.specs.Lists.{at, filter, sort_by, concat_map, range, elem, above, between}
use Rattle.links.specs.Loads.{Balance}
use Rattle.links.specs.Graph.{vertices, links_to, load}
use Rattle.stages.specs.Moves.{Step, swap, gain, linked, after, Steps, repeat}

-- a member of the first rank, with its neighbors in the second and in the first: its gain is there less home
pub record Candidate : Type 0 where
  pub there : ℕ
  pub home : ℕ
  pub vertex : ℕ

-- "gain (neighbours in the second less those in the first) falling, number rising"
unfoldable pub ahead : Candidate → Candidate → Bool
ahead x y = above (x.there + y.home) (y.there + x.home) (ltb x.vertex y.vertex)

-- "for each ordered crew pair, members of the first with a neighbour in the second; .. first 8": the 8 is list_length, an option
unfoldable pub candidates : ℕ → List (List ℕ) → List ℕ → ℕ → ℕ → List Candidate
candidates list_length rows owners a b =
    take list_length
    (sort_by ahead
    (map (λ v. record { there = links_to rows owners v b; home = links_to rows owners v a; vertex = v })
    (filter (λ v. eqb (at owners v) a && ltb 0 (links_to rows owners v b)) (vertices rows))))

pub record Proposal : Type 0 where
  pub net : ℕ
  pub first : ℕ
  pub second : ℕ

-- "by net falling, then both numbers rising"
unfoldable pub sooner : Proposal → Proposal → Bool
sooner x y = above x.net y.net (above y.first x.first (ltb x.second y.second))

-- "net = both gains − 2 if linked"
unfoldable pub propose : List (List ℕ) → Candidate → Candidate → Proposal
propose rows x y =
    record {
      net = x.there + y.there - (x.home + y.home + 2 * linked rows x.vertex y.vertex);
      first = x.vertex;
      second = y.vertex;
    }

-- the proposals of ranks a and b, of "net > 0"
unfoldable pub proposals : ℕ → List (List ℕ) → List ℕ → ℕ → ℕ → List Proposal
proposals list_length rows owners a b =
    let forward = candidates list_length rows owners a b in
    let backward = candidates list_length rows owners b a in
    sort_by sooner (filter (λ p. ltb 0 p.net) (concat_map (λ x. map (propose rows x) backward) forward))

-- "for crews a < b, a rising and then b", all from the owners "at the start of a pass"
unfoldable pub all_proposals : ℕ → List (List ℕ) → ℕ → List ℕ → List Proposal
all_proposals list_length rows k owners =
    concat_map (λ a. concat_map (proposals list_length rows owners a) (range (suc a) (k - suc a))) (range 0 k)

module _ (b : Balance) (rows : List (List ℕ)) (weights : List ℕ) where
  -- a rank's load is "from floor to cap"
  unfoldable pub in_balance : List ℕ → ℕ → Bool
  in_balance owners r = between b.floor b.cap (load weights owners r)

  -- it is so before a step, and so the step "must also leave" it
  unfoldable pub keeps_balance : List ℕ → Step → ℕ → Bool
  keeps_balance owners step r = in_balance owners r && in_balance (after owners step) r

  -- "applied if neither was used this pass, gains reckoned again from present owners, .. sum above 0 (the swap's gain), and both loads are from
  -- floor to cap"; and "a swap must also leave both loads from floor to cap"
  unfoldable pub applies : List ℕ → List ℕ → ℕ → ℕ → Bool
  applies used owners u v =
      not (elem u used) && not (elem v used)
      && ltb 0 (gain rows owners (swap u v))
      && keeps_balance owners (swap u v) (at owners u) && keeps_balance owners (swap u v) (at owners v)

  unfoldable pub swap_pass : List Proposal → List ℕ → List ℕ → List Step
  swap_pass [] used owners = []
  swap_pass (p ∷ ps) used owners =
      let u = p.first in
      let v = p.second in
      let skipped = swap_pass ps used owners in
      let applied = swap u v ∷ swap_pass ps (u ∷ v ∷ used) (after owners (swap u v)) in
      cond (applies used owners u v) applied skipped

  -- each pass lists its proposals anew
  unfoldable pub refine_fine_pair_swaps : ℕ → ℕ → List ℕ → Steps
  refine_fine_pair_swaps list_length passes owners = repeat passes (λ o. swap_pass (all_proposals list_length rows b.ranks o) [] o) owners
