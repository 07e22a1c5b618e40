-- The fewest digits of a number are those of the definition, and at most 20. Assumes nothing.
use mathlib.Core.Path.{◌∙◌}
use native.Mathlib.Omega.{arith}
use Rattle.listing.proofs.TextLaws.{few-digits, digits_decimal, decimal-length, written_as}
use Rattle.listing.proofs.text.put_number.Goals as goal

pub returns : goal.returns
returns c =
    let d = c.decimal-k in
    let a = c.args in
    let few = few-digits a.n d.result c.ranges.n.fits d.ensures.len in
    let w = written_as c.put.ensures (d.ensures.digits ∙ digits_decimal a.n d.result few d.ensures.len) in
    record { written = w; upper_bound = omega (arith, w.end_is, decimal-length a.n) }
