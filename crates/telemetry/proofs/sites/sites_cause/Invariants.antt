-- 22 first; the invariant: the first refusal from site i on is that of all. Assumes nothing.
use Rattle.std.proofs.Common.{◌≡◌, ◌-◌, map}
use Rattle.links.specs.Lists.{range}
use Rattle.telemetry.specs.Sites.{site_count, cause_at, first_cause}
use Rattle.telemetry.specs.SitesCode.{lent}
use Rattle.telemetry.proofs.sites.sites_cause.Given as goal

abbrev pub invariant-loop-i : goal.invariant-loop-i
invariant-loop-i l =
    let s = lent l.sites in
    first_cause (map (cause_at s) (range l.i (site_count s - l.i))) ≡ first_cause (map (cause_at s) (range 0 (site_count s)))
