-- What a search found, in the rules' words. Assumes nothing.
use Rattle.std.specs.Prelude.{ℕ, Option, Some, None}
use Rattle.std.proofs.Math.Option.{Option as Choice, none, some}

abbrev pub found : Option ℕ → Choice ℕ
found None = none
found (Some x) = some x
