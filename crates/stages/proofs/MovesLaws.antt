-- Laws of rule 6's passes: what is left of a pass at a vertex, and of the passes at a pass. Assumes nothing.
use Prim.Native.Nat.{ℕ, suc, ◌+◌, ◌-◌, ◌≤◌, ◌<◌}
use mathlib.Core.Path.{◌≡◌, refl, sym, ◌∙◌}
use mathlib.Core.Bool.{true, cond}
use mathlib.Core.List.{List, [], ◌∷◌, ◌++◌}
use mathlib.Core.Option.{Option, none, some}
use native.Mathlib.Omega.{arith}
use native.Mathlib.Numerals.{add-one}
use lib.ListN.{length, set, length-append}
use Rattle.links.specs.Lists.{foldl, range, empty, option}
use Rattle.links.specs.Loads.{Balance}
use Rattle.stages.proofs.StepLaws.{foldl-append}
use Rattle.stages.specs.Moves.{Step, move, after, Steps, repeat, destination, move_pass}

-- what is done is a number of steps and the owners they left; what is left, from there on, is a list of steps: the same end
pub record Toward (owners₀ : List ℕ) (all : List Step) (owners : List ℕ) (done : ℕ) (left : List Step) : Type 0 where
  pub count : done + length left ≡ length all
  pub end : foldl after owners left ≡ foldl after owners₀ all

pub toward-start : (owners : List ℕ) (all : List Step) → Toward owners all owners 0 all
toward-start owners all = record { count = omega arith; end = refl }

-- some steps more
pub toward-next
    : (owners₀ : List ℕ) (all : List Step) (owners : List ℕ) (done : ℕ) (now rest : List Step)
    → Toward owners₀ all owners done (now ++ rest)
    → Toward owners₀ all (foldl after owners now) (done + length now) rest
toward-next owners₀ all owners done now rest t =
    record { count = omega (arith, t.count, length-append now rest); end = sym (foldl-append after now rest owners) ∙ t.end }

module _ (b : Balance) (rows : List (List ℕ)) (weights : List ℕ) where
  -- a vertex's turn, and the rest of the pass
  pass-split
      : (owners : List ℕ) (v : ℕ) (vs : List ℕ)
      → move_pass b rows weights (v ∷ vs) owners
      ≡ move_pass b rows weights (v ∷ []) owners ++ move_pass b rows weights vs (foldl after owners (move_pass b rows weights (v ∷ []) owners))
  unfolding move_pass after
  pass-split owners v vs = go (destination b rows weights owners v)
    where
      go
          : (d : Option ℕ)
          → option d (move_pass b rows weights vs owners) (λ r. move v r ∷ move_pass b rows weights vs (set owners v r))
          ≡ option d [] (λ r. move v r ∷ []) ++ move_pass b rows weights vs (foldl after owners (option d [] (λ r. move v r ∷ [])))
      go none = refl
      go (some r) = refl

  pub one-few : (v : ℕ) (owners : List ℕ) → length (move_pass b rows weights (v ∷ []) owners) ≤ 1
  unfolding move_pass
  one-few v owners = go (destination b rows weights owners v)
    where
      go : (d : Option ℕ) → length (option d [] (λ r. move v r ∷ [])) ≤ 1
      go none = omega arith
      go (some r) = omega arith

  -- what is left of a pass at v
  abbrev pub pass_left : ℕ → ℕ → List ℕ → List Step
  pass_left n v owners = move_pass b rows weights (range v (n - v)) owners

  pub pass-turn
      : (owners₀ : List ℕ) (all : List Step) (n v : ℕ) (owners owners' : List ℕ) (done : ℕ)
      → v < n
      → owners' ≡ foldl after owners (move_pass b rows weights (v ∷ []) owners)
      → Toward owners₀ all owners done (pass_left n v owners)
      → Toward owners₀ all owners' (done + length (move_pass b rows weights (v ∷ []) owners)) (pass_left n (v + 1) owners')
  pass-turn owners₀ all n v owners owners' done h f t =
      let e : n - v ≡ suc (n - (v + 1)) = omega arith in
      let ss = move_pass b rows weights (v ∷ []) owners in
      let u : Toward owners₀ all owners done (move_pass b rows weights (v ∷ range (v + 1) (n - (v + 1))) owners) = rw (add-one v)
      (rw (e, add-one v) at t) in
      rw f (toward-next owners₀ all owners done ss (move_pass b rows weights (range (v + 1) (n - (v + 1))) (foldl after owners ss))
      (rw (pass-split owners v (range (v + 1) (n - (v + 1)))) at u))

  pub pass-end : (n v : ℕ) (owners : List ℕ) → n ≤ v → pass_left n v owners ≡ []
  unfolding move_pass
  pass-end n v owners h = let e : n - v ≡ 0 = omega arith in rw e

-- ---- the passes

-- what `repeat` makes of a pass and the passes after it
abbrev steps_with : (List ℕ → List Step) → ℕ → List ℕ → List Step → Steps
steps_with pass f owners ss =
    let rest = repeat f pass (foldl after owners ss) in
    let more : Steps = record { steps = ss ++ rest.steps; settled = rest.settled } in
    cond (empty ss) (record { steps = []; settled = true }) more

module _ (pass : List ℕ → List Step) where
  abbrev pub passes_left : ℕ → ℕ → List ℕ → List Step
  passes_left passes p owners = (repeat (passes - p) pass owners).steps

  -- one pass more, of so many steps
  pub repeat-turn
      : (owners₀ : List ℕ) (all : List Step) (passes p : ℕ) (owners : List ℕ) (done : ℕ)
      → p < passes
      → Toward owners₀ all owners done (passes_left passes p owners)
      → (length (pass owners) ≡ 0 → ⊥)
      → Toward owners₀ all (foldl after owners (pass owners)) (done + length (pass owners))
      (passes_left passes (p + 1) (foldl after owners (pass owners)))
  unfolding repeat
  repeat-turn owners₀ all passes p owners done h t n =
      let e : passes - p ≡ suc (passes - (p + 1)) = omega arith in
      go (pass owners) (rw (passes_left, e) at t) n
    where
      go
          : (ss : List Step)
          → Toward owners₀ all owners done
          (steps_with pass (passes - (p + 1)) owners ss).steps
          → (length ss ≡ 0 → ⊥)
          → Toward owners₀ all (foldl after owners ss) (done + length ss) (repeat (passes - (p + 1)) pass (foldl after owners ss)).steps
      go [] x n = absurd (n refl)
      go (s ∷ ss) x n = toward-next owners₀ all owners done (s ∷ ss) (repeat (passes - (p + 1)) pass (foldl after owners (s ∷ ss))).steps x

  -- a pass without a step is the last
  pub repeat-quiet
      : (owners₀ : List ℕ) (all : List Step) (passes p : ℕ) (owners : List ℕ) (done : ℕ)
      → p < passes
      → Toward owners₀ all owners done (passes_left passes p owners)
      → length (pass owners) ≡ 0
      → Toward owners₀ all (foldl after owners (pass owners)) done []
  unfolding repeat
  repeat-quiet owners₀ all passes p owners done h t n =
      let e : passes - p ≡ suc (passes - (p + 1)) = omega arith in
      go (pass owners) (rw (passes_left, e) at t) n
    where
      go
          : (ss : List Step)
          → Toward owners₀ all owners done
          (steps_with pass (passes - (p + 1)) owners ss).steps
          → length ss ≡ 0
          → Toward owners₀ all (foldl after owners ss) done []
      go [] x n = x
      go (s ∷ ss) x n = absurd (omega arith)

  pub repeat-end : (passes p : ℕ) (owners : List ℕ) → passes ≤ p → passes_left passes p owners ≡ []
  unfolding repeat
  repeat-end passes p owners h = let e : passes - p ≡ 0 = omega arith in rw (passes_left, e)
