-- What the reader wrote is the file's lists and workloads, and what it was lent is enough for any file, so that a refusal is the file's own. Assumes nothing.
use Prim.Native.Nat.{◌+◌, ◌*◌}
use mathlib.Core.Path.{refl, sym}
use native.Mathlib.Omega.{arith}
use lib.Seq.{length-take-le}
use Rattle.listing.specs.Share.{share_room}
use Rattle.listing.proofs.TextLaws.{told-as}
use Rattle.listing.proofs.ShareLaws.{with-room, counts, site-read, file-refused, site-text}
use Rattle.listing.proofs.site_file.share.Goals as goal

pub returns-in_default : goal.returns-in_default
returns-in_default c =
    let f = c.read_link_file-read.ensures in
    let t = c.write_refusal.ensures in
    let same = file-refused f _ _ c.in_default.is c.number_of.ensures refl refl refl in
    record { told = told-as (with-room t share_room (omega arith) (omega arith)) same; prefix_len = counts t }

pub slice_bounds-offsets-end : goal.slice_bounds-offsets-end
slice_bounds-offsets-end c = (site-read c.read_link_file-read.ensures c.in-Ok.s c.in-Ok.is).offsets-fit

pub slice_bounds-tell_division-end : goal.slice_bounds-tell_division-end
slice_bounds-tell_division-end c =
    let f = c.read_link_file-read in
    sym (length-take-le (c.in-Ok.s.vertices + 1) f.new.offsets (site-read f.ensures c.in-Ok.s c.in-Ok.is).offsets-fit)

pub slice_bounds-neighbors-end : goal.slice_bounds-neighbors-end
slice_bounds-neighbors-end c = (site-read c.read_link_file-read.ensures c.in-Ok.s c.in-Ok.is).neighbors-fit

pub slice_bounds-tell_division-end-2 : goal.slice_bounds-tell_division-end-2
slice_bounds-tell_division-end-2 c =
    let f = c.read_link_file-read in
    sym (length-take-le (2 * c.in-Ok.s.links) f.new.neighbors (site-read f.ensures c.in-Ok.s c.in-Ok.is).neighbors-fit)

pub slice_bounds-workloads-end : goal.slice_bounds-workloads-end
slice_bounds-workloads-end c = (site-read c.read_link_file-read.ensures c.in-Ok.s c.in-Ok.is).workloads-fit

pub slice_bounds-tell_division-end-3 : goal.slice_bounds-tell_division-end-3
slice_bounds-tell_division-end-3 c =
    let f = c.read_link_file-read in
    sym (length-take-le c.in-Ok.s.vertices f.new.workloads (site-read f.ensures c.in-Ok.s c.in-Ok.is).workloads-fit)

pub tell_division-requires : goal.tell_division-requires
tell_division-requires c =
    let f = c.read_link_file-read in
    let r = site-read f.ensures c.in-Ok.s c.in-Ok.is in
    (length-take-le (c.in-Ok.s.vertices + 1) f.new.offsets r.offsets-fit, r.few, omega arith)

pub returns : goal.returns
returns c =
    let t = c.tell_division.ensures in
    record { told = told-as t (site-text (site-read c.read_link_file-read.ensures c.in-Ok.s c.in-Ok.is)); prefix_len = counts t }
