-- Texts as lists of bytes, numbers in them, and a text in a lent slice. Assumes nothing.
use Rattle.std.specs.Prelude.{ℕ, zero, suc, ◌/◌, ◌%◌, ◌≡◌, cond, List, [], ◌∷◌, ◌++◌, length, drop, ltb}
use Prim.Native.Char.{code}
use Prim.Native.String.{String, ◌∷◌ as ◌then◌, [] as empty_text}
use Rattle.io.specs.Digits.{hex_digit_ascii}

-- the bytes of a text in ASCII
abbrev pub bytes : String → List ℕ
bytes empty_text = []
bytes (c then s) = code c ∷ bytes s

-- a number's decimal digits with no 0 in front, but for 0 itself; the number has at most so many
unfoldable pub decimal_within : ℕ → ℕ → List ℕ
decimal_within zero n = []
decimal_within (suc most) n =
    let front = decimal_within most (n / 10) in
    cond (ltb n 10) (hex_digit_ascii n ∷ []) (front ++ (hex_digit_ascii (n % 10) ∷ []))

-- a number of 64 bits has at most 20 digits
abbrev pub most_digits : ℕ
most_digits = 20

unfoldable pub decimal : ℕ → List ℕ
decimal n = decimal_within most_digits n

-- a text at the front of a slice with room for it, what lies beyond untouched; a slice with less room is untouched whole, and the answer is 0
pub record Told (text : List ℕ) (room : ℕ) (slice slice' : List ℕ) (r : ℕ) : Type 0 where
  pub size : r ≡ cond (ltb (length slice) room) 0 (length text)
  pub is : slice' ≡ cond (ltb (length slice) room) slice (text ++ drop (length text) slice)
