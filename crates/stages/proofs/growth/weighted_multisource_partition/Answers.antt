-- 6, then 7, then growth from rule 4's seeds. Assumes nothing.
use mathlib.Core.Path.{sym, ◌∙◌, subst}
use Rattle.stages.specs.GrowthCode.{Sown, Multisource, room_at}
use Rattle.stages.specs.declared.growth.GrowthRoom.{GrowthRoom}
use Rattle.stages.proofs.GrowthStageLaws.{told-heavy, told-few, orderable, sown, told-grown}
use Rattle.stages.proofs.growth.weighted_multisource_partition.Goals as goal

pub returns-then-heavy_in : goal.returns-then-heavy_in
returns-then-heavy_in c = told-heavy c.requires c.args.cap (sym c.heavy_in.ensures ∙ c.if-heavy_in.true)

pub returns-then-l-ranks : goal.returns-then-l-ranks
returns-then-l-ranks c =
    told-few c.requires c.args.cap
    (sym c.heavy_in.ensures ∙ c.if-heavy_in.false) c.if-l-ranks.true

pub order_by_degree-requires : goal.order_by_degree-requires
order_by_degree-requires c = orderable c.requires c.if-l-ranks.false c.farthest_seeds.ensures

pub multisource-requires : goal.multisource-requires
multisource-requires c =
    subst (λ (l : GrowthRoom). Sown l c.order_by_degree.new.work) (sym c.room_at.ensures)
    (sown c.requires c.if-l-ranks.false c.farthest_seeds.ensures c.order_by_degree.ensures)

pub returns : goal.returns
returns c =
    let a = c.args in
    let w = c.order_by_degree.new.work in
    let m = c.multisource in
    let M : Multisource (room_at a.l a.scratch a.ranks) a.cap w m.new.work m.result =
    subst (λ (l : GrowthRoom). Multisource l a.cap w m.new.work m.result) c.room_at.ensures m.ensures in
    told-grown c.requires c.if-l-ranks.false c.farthest_seeds.ensures c.order_by_degree.ensures a.cap
    (sym c.heavy_in.ensures ∙ c.if-heavy_in.false) M
