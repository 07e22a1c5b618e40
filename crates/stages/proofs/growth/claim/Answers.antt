-- The group is owned, then it is the chain or its last entry. Assumes nothing.
use mathlib.Core.Path.{sym, ◌∙◌}
use Rattle.stages.proofs.GrowthMemoryLaws.{laid-after, read_count}
use Rattle.stages.proofs.GrowthSliceLaws.{claim-pre, append-pre, claim-begins, claim-appends}
use Rattle.stages.proofs.growth.claim.Goals as goal

pub own-requires : goal.own-requires
own-requires c =
    let a = c.args in
    let p = c.requires in
    let h = claim-pre a.cap a.r a.g p.0 p.1 p.2 in
    (p.0.laid, p.1, h.0, h.1)

pub returns-then-work-room-eq0 : goal.returns-then-work-room-eq0
returns-then-work-room-eq0 c =
    let a = c.args in
    let p = c.requires in
    let s = c.own.ensures in
    claim-begins a.cap a.r a.g p.0 p.1 p.2 s
    (sym (read_count c.own.new.work (laid-after s.outside p.0.laid) a.r p.1) ∙ c.if-work-room-eq0.true)
    c.begin.ensures

pub append-requires : goal.append-requires
append-requires c =
    let a = c.args in
    let p = c.requires in
    let s = c.own.ensures in
    let h = laid-after s.outside p.0.laid in
    let t =
    append-pre a.cap a.r a.g p.0 p.1 p.2 s
    (λ e. c.if-work-room-eq0.false (read_count c.own.new.work h a.r p.1 ∙ e)) in
    (h, p.1, t.0, t.1)

pub returns-else-work-room-eq0 : goal.returns-else-work-room-eq0
returns-else-work-room-eq0 c =
    let a = c.args in
    let p = c.requires in
    let s = c.own.ensures in
    claim-appends a.cap a.r a.g p.0 p.1 p.2 s
    (λ e. c.if-work-room-eq0.false (read_count c.own.new.work (laid-after s.outside p.0.laid) a.r p.1 ∙ e))
    c.append.ensures
