-- The invariant: the sites before i are counted. Assumes nothing.
use Rattle.std.proofs.Common.{◌≡◌}
use Rattle.telemetry.specs.SitesCode.{lent, sum_to}
use Rattle.telemetry.proofs.sites.sum_sites.Given as goal

abbrev pub invariant-loop-i : goal.invariant-loop-i
invariant-loop-i l = l.sum ≡ sum_to (lent l.sites) l.i
