-- Four stores of the memory. Assumes nothing.
use mathlib.Core.Path.{refl}
use Rattle.stages.proofs.GrowthMemoryLaws.{begin-is}
use Rattle.stages.proofs.growth.begin.Goals as goal

pub returns : goal.returns
returns c = begin-is c.requires.0 c.args.r c.requires.1 c.args.g refl refl refl refl
