-- The loads are reckoned, and the passes made. Assumes nothing.
use Prim.Native.Nat.{◌+◌}
use mathlib.Core.Path.{refl}
use native.Mathlib.Omega.{arith}
use Rattle.stages.specs.declared.swaps.SwapRoom.{SwapRoom}
use Rattle.stages.proofs.SwapPassLaws.{weighable, starts, starts-clear, refined}
use Rattle.stages.proofs.swaps.refine_fine_pair_swaps.Goals.{Start}
use Rattle.stages.proofs.swaps.refine_fine_pair_swaps.Goals as goal

-- what the passes work on
abbrev room : Start → SwapRoom
room c =
    let a = c.args in
    let loads = a.scratch + a.l.vertices in
    record {
      level = a.l;
      limits = a.limits;
      used = a.scratch;
      loads = loads;
      tallies = loads + a.limits.ranks;
      lists = a.lists;
      list_length = a.swapping.list_length;
    }

pub weigh-requires : goal.weigh-requires
weigh-requires c =
    let s = room (goal.at.weigh-requires c).Start in
    (weighable s c.requires refl refl c.clear.ensures.1, λ i h. c.clear.ensures.0 i (omega arith))

pub swap_passes-requires : goal.swap_passes-requires
swap_passes-requires c =
    let s = room (goal.at.swap_passes-requires c).Start in
    let x = c.clear.ensures in
    let y = c.weigh.ensures in
    (starts s c.requires refl refl x.1 x.0 y.0 y.1, starts-clear s c.requires refl refl x.1 x.0 y.0 y.1)

pub returns : goal.returns
returns c =
    let s = room (goal.at.returns c).Start in
    let x = c.clear.ensures in
    let y = c.weigh.ensures in
    refined s c.requires refl refl x.1 x.0 y.0 y.1 c.swap_passes.ensures
