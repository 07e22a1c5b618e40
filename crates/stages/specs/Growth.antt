-- Rule 5: growth. A trace keeps what was decided; the owners at each turn follow from it. Assumes nothing.
use Rattle.std.specs.Prelude.{ℕ, zero, suc, ◌+◌, Bool, true, false, not, ◌&&◌, cond, List, [], ◌∷◌, ◌++◌, map, length, get_or, set, replicate, leb, ltb, eqb}
use Rattle.std.proofs.Math.Option.{Option, none, some}
use Rattle.links.specs.Lists.{at, unassigned, filter, any, foldl, best, range}
use Rattle.links.specs.Graph.{row, vertices, degree, load}

-- what a rank does at its turn: it "passes if it claims nothing", claims a group of its frontier, or claims another, which is a restart
pub data Choice : Type 0 where
  passes : Choice
  claims : ℕ → Choice
  restarts : ℕ → Choice

pub record Turn : Type 0 where
  pub rank : ℕ
  pub choice : Choice

abbrev pub is_pass : Choice → Bool
is_pass passes = true
is_pass (claims g) = false
is_pass (restarts g) = false

abbrev pub is_restart : Choice → Bool
is_restart passes = false
is_restart (claims g) = false
is_restart (restarts g) = true

abbrev pub unowned : List ℕ → ℕ → Bool
unowned owners g = eqb (at owners g) unassigned

-- "a group fits if the crew's load plus its weight is at most the cap"
unfoldable pub fits : ℕ → List ℕ → List ℕ → ℕ → ℕ → Bool
fits cap weights owners r g = leb (load weights owners r + at weights g) cap

-- the owners that a turn leaves
unfoldable pub after_choice : List ℕ → ℕ → Choice → List ℕ
after_choice owners r passes = owners
after_choice owners r (claims g) = set owners g r
after_choice owners r (restarts g) = set owners g r

abbrev pub after_turn : List ℕ → Turn → List ℕ
after_turn owners t = after_choice owners t.rank t.choice

-- the owners and each rank's frontier
pub record Growing : Type 0 where
  pub owners : List ℕ
  pub frontiers : List (List ℕ)

pub record Popped : Type 0 where
  pub claim : Option ℕ
  pub frontier : List ℕ

-- "pop candidates, dropping owned ones; the first that fits under the cap is claimed; those passed over go to the frontier's end"
unfoldable pub pop : (ℕ → Bool) → (ℕ → Bool) → List ℕ → List ℕ → Popped
pop free fit [] over = record { claim = none; frontier = over }
pop free fit (g ∷ gs) over =
    let dropped = pop free fit gs over in
    let passed = pop free fit gs (over ++ (g ∷ [])) in
    cond (free g) (cond (fit g) (record { claim = some g; frontier = gs ++ over }) passed) dropped

-- the group of the frontier; "with no claim" the other one, if there is one
abbrev pub choice : Option ℕ → Option ℕ → Choice
choice (some g) other = claims g
choice none (some g) = restarts g
choice none none = passes

pub record Turned : Type 0 where
  pub turn : Turn
  pub state : Growing

pub record Round : Type 0 where
  pub turns : List Turn
  pub state : Growing

module _ (cap : ℕ) (rows : List (List ℕ)) (weights : List ℕ) where
  -- "the unowned group that fits, of highest degree, then lowest number"
  unfoldable pub restart : List ℕ → ℕ → Option ℕ
  restart owners r =
      best (λ g h. ltb (degree rows h) (degree rows g)) (filter (λ g. unowned owners g && fits cap weights owners r g) (vertices rows))

  -- "a claim appends its unowned neighbours"
  unfoldable pub claimed : Growing → ℕ → List ℕ → ℕ → Growing
  claimed s r frontier g =
      let owners = set s.owners g r in
      record { owners = owners; frontiers = set s.frontiers r (frontier ++ filter (unowned owners) (row rows g)) }

  unfoldable pub chosen : Growing → ℕ → List ℕ → Choice → Growing
  chosen s r frontier passes = record { owners = s.owners; frontiers = set s.frontiers r frontier }
  chosen s r frontier (claims g) = claimed s r frontier g
  chosen s r frontier (restarts g) = claimed s r frontier g

  unfoldable pub turn : Growing → ℕ → Turned
  turn s r =
      let p = pop (unowned s.owners) (fits cap weights s.owners r) (get_or s.frontiers r []) [] in
      let c = choice p.claim (restart s.owners r) in
      record { turn = record { rank = r; choice = c }; state = chosen s r p.frontier c }

  -- "crews in turn"
  unfoldable pub round : Growing → List ℕ → Round
  round s [] = record { turns = []; state = s }
  round s (r ∷ rs) =
      let t = turn s r in
      let rest = round t.state rs in
      record { turns = t.turn ∷ rest.turns; state = rest.state }

  -- rounds while a group is unowned, up to "a round without a claim"
  unfoldable pub rounds : ℕ → ℕ → Growing → List Turn
  rounds zero k s = []
  rounds (suc f) k s =
      let r = round s (range 0 k) in
      let more = r.turns ++ rounds f k r.state in
      let turns = cond (any (λ t. not (is_pass t.choice)) r.turns) more r.turns in
      cond (any (eqb unassigned) s.owners) turns []

-- "growth starts with each seed owned by its crew and every other group unowned"
unfoldable pub seed_owners : ℕ → List ℕ → ℕ → List ℕ
seed_owners groups [] r = replicate groups unassigned
seed_owners groups (s ∷ seeds) r = set (seed_owners groups seeds (suc r)) s r

-- "frontiers start with each seed's unowned neighbours"
unfoldable pub seeded : List (List ℕ) → List ℕ → Growing
seeded rows seeds =
    let owners = seed_owners (length rows) seeds 0 in
    record { owners = owners; frontiers = map (λ s. filter (unowned owners) (row rows s)) seeds }

-- a growth: the level that it ran on, its seeds, and its turns
pub record Growth : Type 0 where
  pub rows : List (List ℕ)
  pub weights : List ℕ
  pub seeds : List ℕ
  pub turns : List Turn

-- every round but the last claims a group, so as many rounds as groups are enough
unfoldable pub weighted_multisource : ℕ → List (List ℕ) → List ℕ → List ℕ → Growth
weighted_multisource cap rows weights seeds =
    record {
      rows = rows;
      weights = weights;
      seeds = seeds;
      turns = rounds cap rows weights (length rows) (length seeds) (seeded rows seeds);
    }

-- the owners that a growth's first turns leave: "each turn meets the owners that the turn before left"
unfoldable pub grown : Growth → List Turn → List ℕ
grown g turns = foldl after_turn (seed_owners (length g.rows) g.seeds 0) turns

unfoldable pub restart_count : List Turn → ℕ
restart_count turns = length (filter (λ t. is_restart t.choice) turns)
