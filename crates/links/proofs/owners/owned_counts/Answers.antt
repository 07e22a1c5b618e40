use Rattle.std.proofs.Common.{sym, ◌∙◌, take, arith}
use Rattle.links.specs.Lists.{at}
use Rattle.links.specs.Graph.{owned}
use Rattle.links.proofs.PartLaws.{length-table}
use Rattle.links.proofs.OwnerLaws.{owned-counts-none, owned-counts-more, owned-counts-few}
use Rattle.links.proofs.owners.owned_counts.Goals as goal

pub loop-owner-init : goal.loop-owner-init
loop-owner-init c = sym (owned-counts-none 256)

pub add_vertex-requires : goal.add_vertex-requires
add_vertex-requires c =
    let l = c.loop-owner in
    let owners = c.args.owners.now in
    rw l.invariant (length-table (owned (take l.owner-index owners)) 256, omega (arith, owned-counts-few owners l.owner-index 256 (at owners l.owner-index)))

pub loop-owner-preserved : goal.loop-owner-preserved
loop-owner-preserved c =
    let l = c.loop-owner in
    c.add_vertex.ensures ∙ rw l.invariant (owned-counts-more c.args.owners.now l.owner-index 256 (omega arith))
