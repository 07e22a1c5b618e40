-- Rule 3: a coarsening step. Assumes nothing.
use Rattle.std.specs.Prelude.{ℕ, zero, suc, ◌+◌, max, Bool, not, ◌&&◌, cond, length, set, replicate, ltb, eqb}
use mathlib.Core.List.{List, [], ◌∷◌, ◌++◌, map, foldr}
use Rattle.std.proofs.Math.Option.{Option, none, some}
use Rattle.links.specs.Lists.{at, unassigned, filter, foldl, best, range, elem, concat_map, above}
use Rattle.links.specs.Graph.{row, vertices, degree}

-- d, d − 1, .., 0
abbrev pub falling : ℕ → List ℕ
falling zero = zero ∷ []
falling (suc d) = suc d ∷ falling d

abbrev pub highest_degree : List (List ℕ) → ℕ
highest_degree rows = foldr (λ r d. max (length r) d) 0 rows

abbrev pub of_degree : List (List ℕ) → ℕ → List ℕ
of_degree rows d = filter (λ v. eqb (degree rows v) d) (vertices rows)

-- "turbines by degree falling, then number rising"
unfoldable pub by_degree : List (List ℕ) → List ℕ
by_degree rows = concat_map (of_degree rows) (falling (highest_degree rows))

-- "shared neighbours (matched ones count too)" of v and u
unfoldable pub shared : List (List ℕ) → ℕ → ℕ → ℕ
shared rows v u = length (filter (λ w. elem w (row rows v)) (row rows u))

-- u before w as v's partner: "most shared neighbours .., then lowest degree, then lowest number"; the last by rows that rise
unfoldable pub closer : List (List ℕ) → ℕ → ℕ → ℕ → Bool
closer rows v u w = above (shared rows v u) (shared rows v w) (ltb (degree rows u) (degree rows w))

-- "takes the unmatched neighbour" that is closest
unfoldable pub partner : List (List ℕ) → List ℕ → ℕ → Option ℕ
partner rows group v = best (closer rows v) (filter (λ u. eqb (at group u) unassigned) (row rows v))

-- groups as made so far: each vertex's group (unassigned: unmatched), each group's weight, and the counts
pub record Pairing : Type 0 where
  pub group : List ℕ
  pub weights : List ℕ
  pub pairs : ℕ
  pub singletons : ℕ

-- "if none, it is a singleton. Groups are numbered as made; weights add"
unfoldable pub grouped : List ℕ → Pairing → ℕ → Option ℕ → Pairing
grouped weights p v none =
    record {
      group = set p.group v (length p.weights);
      weights = p.weights ++ (at weights v ∷ []);
      pairs = p.pairs;
      singletons = p.singletons + 1;
    }
grouped weights p v (some u) =
    record {
      group = set (set p.group v (length p.weights)) u (length p.weights);
      weights = p.weights ++ ((at weights v + at weights u) ∷ []);
      pairs = p.pairs + 1;
      singletons = p.singletons;
    }

-- v's turn: "an unmatched one" makes a group
unfoldable pub match : List (List ℕ) → List ℕ → Pairing → ℕ → Pairing
match rows weights p v = cond (eqb (at p.group v) unassigned) (grouped weights p v (partner rows p.group v)) p

unfoldable pub unmatched : ℕ → Pairing
unmatched n = record { group = replicate n unassigned; weights = []; pairs = 0; singletons = 0 }

unfoldable pub pairing : List (List ℕ) → List ℕ → Pairing
pairing rows weights = foldl (match rows weights) (unmatched (length rows)) (by_degree rows)

-- group g's list: the other groups that a neighbor of one of g's vertices is in. "Coarse lists are sorted, without repeats or self"
unfoldable pub coarse_row : List (List ℕ) → List ℕ → ℕ → ℕ → List ℕ
coarse_row rows group groups g =
    let touched = concat_map (λ v. map (at group) (row rows v)) (filter (λ v. eqb (at group v) g) (vertices rows)) in
    filter (λ h. not (eqb h g) && elem h touched) (range 0 groups)

pub record Coarse : Type 0 where
  pub rows : List (List ℕ)
  pub weights : List ℕ
  pub group : List ℕ
  pub pairs : ℕ
  pub singletons : ℕ

unfoldable pub coarsen_once : List (List ℕ) → List ℕ → Coarse
coarsen_once rows weights =
    let p = pairing rows weights in
    let groups = length p.weights in
    record {
      rows = map (coarse_row rows p.group groups) (range 0 groups);
      weights = p.weights;
      group = p.group;
      pairs = p.pairs;
      singletons = p.singletons;
    }
