-- Flags and lists are cleared, all vertices listed, and the proposals taken. Assumes nothing.
use Rattle.stages.specs.Level.{owners_at}
use Rattle.stages.proofs.SwapPassLaws.{standing₂, clear₂, empty₂, sorted₂, standing₃, pass-made}
use Rattle.stages.proofs.swaps.swap_pass.Goals as goal

pub list_all-requires : goal.list_all-requires
list_all-requires c =
    let p = c.requires in
    let a = c.clear.ensures in
    let b = c.clear-2.ensures in
    ((standing₂ p.0 p.1 a.0 a.1 b.0 b.1).given, clear₂ p.0 p.1 a.0 a.1 b.0 b.1, empty₂ p.0 p.1 a.0 a.1 b.0 b.1, sorted₂ p.0 p.1 a.0 a.1 b.0 b.1)

pub swap_ranks-requires : goal.swap_ranks-requires
swap_ranks-requires c =
    let p = c.requires in
    let a = c.clear.ensures in
    let b = c.clear-2.ensures in
    (standing₃ p.0 p.1 a.0 a.1 b.0 b.1 c.list_all.ensures, (owners_at c.clear-2.new.work c.args.s.level, c.list_all.ensures.holding))

pub returns : goal.returns
returns c =
    let p = c.requires in
    let a = c.clear.ensures in
    let b = c.clear-2.ensures in
    let l = c.list_all.ensures in
    pass-made p.0 p.1 a.0 a.1 b.0 b.1 l (c.swap_ranks.ensures.1 (owners_at c.clear-2.new.work c.args.s.level) l.holding)
