-- The site is laid, its levels are solved, and the owners are written if none refused. Assumes nothing.
use Prim.Native.Nat.{ℕ}
use mathlib.Core.Path.{◌≡◌, sym, ◌∙◌, ap}
use Rattle.std.specs.Prelude.{Err}
use Rattle.std.proofs.lemmas.Result.{err_from_is_err_and}
use native.Mathlib.Omega.{arith}
use lib.ListN.{length}
use Rattle.links.specs.Graph.{vertex_count}
use Rattle.multilevel.specs.Causes.{call_of}
use Rattle.stages.specs.Level.{level_at}
use Rattle.multilevel.specs.DriverCode.{rules_with, rules_for, site_level}
use Rattle.multilevel.proofs.EndLaws.{site-short, site-limits, code_fits, code-site, code-refusal, rooms-small, code-finishing, code-room, code-divided}
use Rattle.multilevel.proofs.driver.divide.Goals.{After-at-l, After-rules_of-q}
use Rattle.multilevel.proofs.driver.divide.Goals as goal

-- the call, and that the rules and the finest level are its own
rules-are : (c : After-rules_of-q) → c.rules_of-q.result ≡ rules_for (call_of c.args.offsets.now c.args.neighbors.now c.args.workloads.now c.args.asked.ranks c.args.asked.options (length c.args.owners.now) (length c.args.work.now))
rules-are c =
    let a = c.args in
    let m = length a.neighbors.now in
    c.rules_of-q.ensures
    ∙ ap (λ (x : ℕ). rules_with x m c.total_of.result a.asked.ranks a.asked.options) c.vertex_count-n.ensures
    ∙ ap (λ (x : ℕ). rules_with (vertex_count a.offsets.now) m x a.asked.ranks a.asked.options) c.total_of.ensures

level-is : (c : After-at-l) → c.at-l.result ≡ site_level (call_of c.args.offsets.now c.args.neighbors.now c.args.workloads.now c.args.asked.ranks c.args.asked.options (length c.args.owners.now) (length c.args.work.now))
level-is c =
    let a = c.args in
    c.at-l.ensures (omega arith) ∙ ap (λ (x : ℕ). level_at x (length a.neighbors.now) 0) c.vertex_count-n.ensures

pub total_of-requires : goal.total_of-requires
total_of-requires c =
    let a = c.args in
    let k = call_of a.offsets.now a.neighbors.now a.workloads.now a.asked.ranks a.asked.options (length a.owners.now) (length a.work.now) in
    site-short k c.args.work.now c.requires

pub rules_of-q-requires : goal.rules_of-q-requires
rules_of-q-requires c =
    let a = c.args in
    let k = call_of a.offsets.now a.neighbors.now a.workloads.now a.asked.ranks a.asked.options (length a.owners.now) (length a.work.now) in
    rw c.vertex_count-n.ensures (site-limits k c.args.work.now c.requires)

pub lay_site-requires : goal.lay_site-requires
lay_site-requires c =
    let a = c.args in
    let k = call_of a.offsets.now a.neighbors.now a.workloads.now a.asked.ranks a.asked.options (length a.owners.now) (length a.work.now) in
    let at = goal.at.lay_site-requires c in
    code_fits k c.args.work.now c.requires _ (rules-are at.After-rules_of-q) _ (level-is at.After-at-l)

pub solve-requires : goal.solve-requires
solve-requires c =
    let a = c.args in
    let k = call_of a.offsets.now a.neighbors.now a.workloads.now a.asked.ranks a.asked.options (length a.owners.now) (length a.work.now) in
    let at = goal.at.solve-requires c in
    code-site k c.args.work.now c.requires _ (rules-are at.After-rules_of-q) _ (level-is at.After-at-l) _ c.lay_site.ensures

pub returns-in_err-s : goal.returns-in_err-s
returns-in_err-s c =
    let a = c.args in
    let k = call_of a.offsets.now a.neighbors.now a.workloads.now a.asked.ranks a.asked.options (length a.owners.now) (length a.work.now) in
    let at = goal.at.returns-in_err-s c in
    let p = err_from_is_err_and c.from_residual.result c.from_residual.ensures.1 in
    rw p.1 (code-refusal k c.args.work.now c.requires _ (rules-are at.After-rules_of-q) _ (level-is at.After-at-l) _ c.lay_site.ensures
    _ _ c.solve.ensures _ p.0 (c.in_err-s.was ∙ ap Err (sym p.2)))

pub overflow_mul-lists : goal.overflow_mul-lists
overflow_mul-lists c =
    let a = c.args in
    let k = call_of a.offsets.now a.neighbors.now a.workloads.now a.asked.ranks a.asked.options (length a.owners.now) (length a.work.now) in
    let at = goal.at.overflow_mul-lists c in
    omega (arith, rooms-small k c.args.work.now c.requires _ (rules-are at.After-rules_of-q) _ (level-is at.After-at-l), c.well_formed)

pub overflow_add-lists : goal.overflow_add-lists
overflow_add-lists c =
    let a = c.args in
    let k = call_of a.offsets.now a.neighbors.now a.workloads.now a.asked.ranks a.asked.options (length a.owners.now) (length a.work.now) in
    let at = goal.at.overflow_add-lists c in
    omega (arith, rooms-small k c.args.work.now c.requires _ (rules-are at.After-rules_of-q) _ (level-is at.After-at-l), c.well_formed)

pub finish-t-requires : goal.finish-t-requires
finish-t-requires c =
    let a = c.args in
    let k = call_of a.offsets.now a.neighbors.now a.workloads.now a.asked.ranks a.asked.options (length a.owners.now) (length a.work.now) in
    let at = goal.at.finish-t-requires c in
    code-finishing k c.args.work.now c.requires _ (rules-are at.After-rules_of-q) _ (level-is at.After-at-l) _ c.lay_site.ensures
    _ _ c.solve.ensures _ c.in_ok-s.was

pub write_owners-requires : goal.write_owners-requires
write_owners-requires c =
    let a = c.args in
    let k = call_of a.offsets.now a.neighbors.now a.workloads.now a.asked.ranks a.asked.options (length a.owners.now) (length a.work.now) in
    let at = goal.at.write_owners-requires c in
    code-room k c.args.work.now c.requires _ (rules-are at.After-rules_of-q) _ (level-is at.After-at-l) _ c.lay_site.ensures
    _ _ c.solve.ensures _ c.in_ok-s.was _ _ c.finish-t.ensures

pub returns : goal.returns
returns c =
    let a = c.args in
    let k = call_of a.offsets.now a.neighbors.now a.workloads.now a.asked.ranks a.asked.options (length a.owners.now) (length a.work.now) in
    let at = goal.at.returns c in
    code-divided k c.args.work.now c.requires _ (rules-are at.After-rules_of-q) _ (level-is at.After-at-l) _ c.lay_site.ensures
    _ _ c.solve.ensures _ c.in_ok-s.was _ _ c.finish-t.ensures _ _ c.write_owners.ensures
