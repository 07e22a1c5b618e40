-- The word, then the number behind it. Assumes nothing.
use native.Mathlib.Omega.{arith}
use Rattle.listing.proofs.TextLaws.{joined}
use Rattle.listing.proofs.text.put_field.Goals as goal

pub returns : goal.returns
returns c = record { written = joined c.put-from.ensures c.put_number.ensures.written; upper_bound = omega (arith, c.put-from.ensures.end_is) }
