use Prim.Native.Nat.{◌<◌}
use mathlib.Core.Path.{sym, ◌∙◌}
use Rattle.links.specs.Graph.{rows_of, vertex_count}
use Rattle.stages.specs.FrontierCode.{opens}
use Rattle.stages.proofs.ChainLaws.{going-on, head_in, left-some}
use Rattle.stages.proofs.growth.Claimant.seek.Goals as goal

pub stops-requires : goal.stops-requires
stops-requires c =
    let a = c.args in
    let h = c.loop-here.here in
    (c.requires.0, head_in a.links.now (vertex_count a.offsets.now) h.head h.count c.loop-here.invariant.inside)

pub onward-here-requires : goal.onward-here-requires
onward-here-requires c =
    let a = c.args in
    let h = c.loop-here.here in
    let some : 0 < h.count =
    left-some (rows_of a.offsets.now a.neighbors.now) (opens a.self.cap a.self.weights.now a.self.owners.now a.self.load) h.head h.place h.count
    (sym c.stops.ensures ∙ c.loop-here-test.true) in
    (c.requires.0.lists, c.requires.1, head_in a.links.now (vertex_count a.offsets.now) h.head h.count c.loop-here.invariant.inside some, some)

pub loop-here-smaller : goal.loop-here-smaller
loop-here-smaller c =
    let a = c.args in
    let h = c.loop-here.here in
    let r = c.onward-here.result in
    (going-on (rows_of a.offsets.now a.neighbors.now) a.links.now (opens a.self.cap a.self.weights.now a.self.owners.now a.self.load)
    (vertex_count a.offsets.now) a.from.head a.from.place a.from.count
    h.head h.place h.count r.head r.place r.count c.loop-here.invariant
    (sym c.stops.ensures ∙ c.loop-here-test.true) c.onward-here.ensures).1

pub loop-here-preserved : goal.loop-here-preserved
loop-here-preserved c =
    let a = c.args in
    let h = c.loop-here.here in
    let r = c.onward-here.result in
    (going-on (rows_of a.offsets.now a.neighbors.now) a.links.now (opens a.self.cap a.self.weights.now a.self.owners.now a.self.load)
    (vertex_count a.offsets.now) a.from.head a.from.place a.from.count
    h.head h.place h.count r.head r.place r.count c.loop-here.invariant
    (sym c.stops.ensures ∙ c.loop-here-test.true) c.onward-here.ensures).0
