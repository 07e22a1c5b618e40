-- Parts of the lent work slice: what `&s[a..e]` has, what `&mut s[a..e]` leaves, and what a function that lends a part leaves alone.
-- Assumes nothing.
use Rattle.std.specs.Prelude.{ℕ, zero, suc, ◌-◌, ◌≤◌, ◌<◌, ◌≡◌, List, [], ◌∷◌, ◌++◌, length, take, drop, replicate}
use Rattle.links.specs.Lists.{at}

-- the numbers from a up to e, as `&s[a..e]` has them
abbrev pub part : List ℕ → ℕ → ℕ → List ℕ
part w a e = take (e - a) (drop a w)

-- w with ys in the place of its numbers from a up to e, as `&mut s[a..e]` leaves it
abbrev pub put_back : List ℕ → ℕ → ℕ → List ℕ → List ℕ
put_back w a e ys = take a w ++ (ys ++ drop (e - a) (drop a w))

-- s over the front of d, as much of it as d has room for
unfoldable pub copied : List ℕ → List ℕ → List ℕ
copied d s = take (length d) s ++ drop (length s) d

-- w with its numbers from a up to e, as many as there are, all x; and with s over them
unfoldable pub filled_part : List ℕ → ℕ → ℕ → ℕ → List ℕ
filled_part w a e x = put_back w a e (replicate (length (part w a e)) x)

unfoldable pub copied_part : List ℕ → ℕ → ℕ → List ℕ → List ℕ
copied_part w a e s = put_back w a e (copied (part w a e) s)

-- f 0, f 1, .., f (n − 1)
abbrev pub table : (ℕ → ℕ) → ℕ → List ℕ
table f zero = []
table f (suc n) = table f n ++ (f n ∷ [])

-- the frame of a function: w' is w outside the part from a up to e
pub record Kept (a e : ℕ) (w' w : List ℕ) : Type 0 where
  pub same_length : length w' ≡ length w
  pub below : (i : ℕ) → i < a → at w' i ≡ at w i
  pub beyond : (i : ℕ) → e ≤ i → at w' i ≡ at w i
