use mathlib.Core.Path.{◌≡◌, sym, ◌∙◌}
use native.Mathlib.Omega.{arith}
use lib.ListN.{length}
use Rattle.links.specs.Parts.{Kept}
use Rattle.links.proofs.PartLaws.{kept_refl, kept_trans}
use Rattle.stages.specs.Level.{rows_at, owners_at}
use Rattle.stages.proofs.SwapListLaws.{listed-none}
use Rattle.stages.proofs.ListingLaws.{given-listed, listed-turn, listed-end}
use Rattle.stages.proofs.swaps.list_all.Goals as goal

pub loop-v-init : goal.loop-v-init
loop-v-init c =
    let a = c.args in
    record {
      kept = kept_refl a.s.tallies (length a.work.now) a.work.now;
      clear = c.requires.1;
      lists = λ x y p q n. c.requires.2 x y p q ∙ sym (listed-none a.s.list_length (rows_at a.work.now a.s.level) (owners_at a.work.now a.s.level) x y);
      sorted = c.requires.3;
    }

pub list_vertex-requires : goal.list_vertex-requires
list_vertex-requires c =
    let i = c.loop-v.invariant in
    (given-listed c.requires.0 i.kept, c.loop-v-test.true, i.clear, i.sorted)

pub loop-v-preserved : goal.loop-v-preserved
loop-v-preserved c =
    let a = c.args in
    let l = c.loop-v in
    let i = l.invariant in
    let d = c.list_vertex in
    let k : Kept a.s.tallies (length a.work.now) d.new.work l.work = rw (← l.auto.work) d.ensures.kept in
    record {
      kept = kept_trans a.s.tallies (length a.work.now) d.new.work l.work a.work.now k i.kept;
      clear = d.ensures.clear;
      lists = listed-turn c.requires.0 i.kept l.v d.new.work d.ensures i.lists;
      sorted = d.ensures.sorted;
    }

pub returns : goal.returns
returns c =
    let l = c.loop-v in
    let e : l.v ≡ c.args.s.level.vertices = omega arith in
    record {
      kept = l.invariant.kept;
      clear = l.invariant.clear;
      holding = listed-end c.requires.0 l.invariant.kept (rw e at l.invariant.lists);
    }
