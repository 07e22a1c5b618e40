-- No sum and no product wraps; the comparison decides which site is kept. Assumes nothing.
use Rattle.std.proofs.Common.{◌*◌, ◌<◌, ◌≤◌, arith, le-ltb, lt-ltb}
use Rattle.telemetry.specs.SitesCode.{with_site}
use Rattle.telemetry.proofs.sites.Sum.with_site.Goals as goal

pub returns-then-self-c : goal.returns-then-self-c
unfolding with_site
returns-then-self-c c =
    let a = c.args in
    let lt : a.self.share * a.c.vertices < a.c.most * a.c.ranks * a.self.size = omega (arith, c.if-self-c.true) in
    simp (lt-ltb (a.self.share * a.c.vertices) (a.c.most * a.c.ranks * a.self.size) lt)

pub returns-else-self-c : goal.returns-else-self-c
unfolding with_site
returns-else-self-c c =
    let a = c.args in
    let le : a.c.most * a.c.ranks * a.self.size ≤ a.self.share * a.c.vertices = omega (arith, c.if-self-c.false) in
    simp (le-ltb (a.self.share * a.c.vertices) (a.c.most * a.c.ranks * a.self.size) le)
