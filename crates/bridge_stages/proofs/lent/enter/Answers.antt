-- What passed the tests fits, and is then a level that the stages take. Assumes nothing.
use Rattle.std.proofs.Common.{refl, sym, length}
use Rattle.bridge_stages.specs.Lent.{slices_of}
use Rattle.bridge_stages.proofs.LentLaws.{passed, level-fits, level_in}
use Rattle.bridge_stages.proofs.lent.enter.Goals as goal

pub place_of-place-requires : goal.place_of-place-requires
place_of-place-requires c = (passed (slices_of c.args.s) (length c.args.work.now) (sym c.in_ok-lent_cause.ensures)).limits

pub lay_level-requires : goal.lay_level-requires
lay_level-requires c = level-fits (slices_of c.args.s) c.args.work.now (sym c.in_ok-lent_cause.ensures) c.place_of-place.result c.place_of-place.ensures

pub returns : goal.returns
returns c =
    let z = c.in_ok-lent_cause.ensures in
    record {
      entered =
          record {
            cause = z;
            refused = λ f. absurd (f refl);
            laid = λ _. level_in (slices_of c.args.s) c.args.work.now (sym z) c.place_of-place.result c.place_of-place.ensures _ c.lay_level.ensures;
          };
      place = c.place_of-place.ensures;
    }
