use Rattle.std.proofs.Common.{◌-◌, refl, arith}
use Rattle.compare.proofs.NumberLaws.{naming-none, naming-more}
use Rattle.compare.proofs.renaming.renaming_of.Goals as goal

pub loop-v-init : goal.loop-v-init
loop-v-init c = naming-none c.args.first.now c.args.second.now

pub loop-v-preserved : goal.loop-v-preserved
loop-v-preserved c = naming-more _ _ _ _ c.loop-v.invariant (c.loop-v.v - 1) (omega arith) c.requires.1 _ refl
