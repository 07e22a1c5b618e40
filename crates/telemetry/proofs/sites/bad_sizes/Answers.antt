use Rattle.std.proofs.Common.{◌/◌, ◌%◌, length, eq-eqb, ne_eqb}
use Rattle.telemetry.specs.Sites.{bad_sizes}
use Rattle.telemetry.proofs.sites.bad_sizes.Goals as goal

pub returns-else-count-eq0 : goal.returns-else-count-eq0
unfolding bad_sizes
returns-else-count-eq0 c =
    let n = length c.args.sizes.now in
    rw (eq-eqb (n % 4) 0 c.if-count-eq0.false.0, ne_eqb (n / 4) 0 c.if-count-eq0.false.1)
