-- The positions as they are defined. Assumes nothing.
use mathlib.Core.Path.{refl}
use Rattle.stages.specs.GrowthCode.{room_at}
use Rattle.stages.proofs.growth.room_at.Goals as goal

pub returns : goal.returns
unfolding room_at
returns c = refl
