-- The loop keeps the candidates that are open; candidates and entries ahead become fewer. Assumes nothing.
use Prim.Native.Nat.{◌+◌}
use lib.ListN.{length}
use Rattle.links.specs.Graph.{rows_of, vertex_count}
use Rattle.stages.specs.FrontierCode.{opens, front, Going}
use Rattle.stages.proofs.growth.Claimant.seek.Given as goal

abbrev pub invariant-loop-here : goal.invariant-loop-here
invariant-loop-here l =
    Going (rows_of l.offsets l.neighbors) l.links (opens l.self.cap l.self.weights.now l.self.owners.now l.self.load) (vertex_count l.offsets) l.fn.from.head l.fn.from.place l.fn.from.count l.here.head l.here.place l.here.count

abbrev pub decreases-loop-here : goal.decreases-loop-here
decreases-loop-here l =
    length (front (rows_of l.offsets l.neighbors) l.links l.here.head l.here.place l.here.count) + l.here.count
