use Rattle.std.proofs.Common.{◌≡◌, arith}
use Rattle.telemetry.specs.Sites.{offsets_to, neighbors_to, owners_to}
use Rattle.telemetry.specs.SitesCode.{place_of}
use Rattle.telemetry.proofs.SitesLaws.{offsets-more, neighbors-more, owners-more}
use Rattle.telemetry.proofs.sites.place_of.Goals as goal

pub loop-j-init : goal.loop-j-init
unfolding offsets_to neighbors_to owners_to
loop-j-init c = let e = c.default-place.ensures in (e.0, e.1.0, e.1.1, omega arith, omega arith, omega arith)

pub loop-j-preserved : goal.loop-j-preserved
loop-j-preserved c =
    let sizes = c.args.sizes.now in
    let l = c.loop-j in
    let j = l.j in (
      omega (arith, l.invariant.0, offsets-more sizes j),
      omega (arith, l.invariant.1, neighbors-more sizes j),
      omega (arith, l.invariant.2, owners-more sizes j),
      omega (arith, l.invariant.3),
      omega (arith, l.invariant.4),
      omega (arith, l.invariant.5),
    )

pub returns : goal.returns
unfolding place_of
returns c =
    let l = c.loop-j in
    let end : l.j ≡ c.args.i = omega arith in
    rw (l.invariant.0, l.invariant.1, l.invariant.2, end)
