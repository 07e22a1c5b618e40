-- The bytes stand in the part that was taken, and behind it is what was there. Assumes nothing.
use Prim.Native.Nat.{◌+◌, ◌-◌}
use mathlib.Core.Path.{◌≡◌, refl}
use mathlib.Core.List.{append_assoc}
use native.Mathlib.Omega.{arith}
use lib.ListN.{length}
use lib.Seq.{sets-eq, drop-drop}
use Rattle.listing.proofs.text.put.Goals as goal

pub returns : goal.returns
returns c =
    let a = c.args in
    let k : a.at + length a.bytes.now - a.at ≡ length a.bytes.now = omega arith in
    record { end_is = refl; is = rw (k, c.copy_from_slice.ensures.after, drop-drop, sets-eq a.bytes.now a.text.now a.at c.requires, append_assoc) }
