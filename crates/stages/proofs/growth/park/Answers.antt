-- Three stores of the memory. Assumes nothing.
use mathlib.Core.Path.{refl}
use Rattle.stages.proofs.GrowthMemoryLaws.{park-is}
use Rattle.stages.proofs.growth.park.Goals as goal

pub returns : goal.returns
returns c =
    let a = c.args in
    park-is c.requires.0 a.r c.requires.1 a.c.head a.c.place a.c.count refl refl refl
