-- The two divisions are the definition's. Assumes nothing.
use Rattle.std.proofs.Common.{◌≡◌, sym, refl, ◌∙◌}
use lib.Ieee.{binary64, of_int, of_bits, round, of_fields, units, odd, size, climb, span}
use Rattle.telemetry.specs.Telemetry.{float}
use Rattle.telemetry.proofs.RatioLaws.{ratio-none, ratio-some}
use Rattle.telemetry.proofs.ratio.imbalance.Goals as goal

-- the literal 1.0
one : float 1 ≡ of_bits binary64 4607182418800017408
unfolding of_int round of_bits of_fields units odd size climb span
one = refl

pub returns-then-all-eq0 : goal.returns-then-all-eq0
returns-then-all-eq0 c =
    let a = c.args in
    sym (ratio-none a.most a.all a.ranks c.if-all-eq0.true ∙ one)

pub returns : goal.returns
returns c =
    let a = c.args in
    rw (c.nearest_u64_to_f64-2.ensures, c.nearest_u64_to_f64.ensures) (sym (ratio-some a.most a.all a.ranks c.if-all-eq0.false))
