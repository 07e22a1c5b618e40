-- Head, lines and stats, one after the other, fit into the room that was tested. Assumes nothing.
use Prim.Native.Nat.{◌/◌, ◌≤◌}
use mathlib.Core.Path.{sym, ◌∙◌}
use mathlib.Core.List.{append_assoc}
use native.Mathlib.Omega.{arith}
use lib.ListN.{length}
use borrow.Author.Tests.{leb-true}
use Rattle.listing.specs.Listing.{site_text, site_room}
use Rattle.listing.proofs.TextLaws.{joined, written_as, told}
use Rattle.listing.proofs.lines.write_site.Goals as goal

pub returns : goal.returns
unfolding site_text
returns c =
    let a = c.args in
    let room : site_room (length a.owners.now) ≤ length a.text.now =
    leb-true (site_room (length a.owners.now)) (length a.text.now) (sym c.has_room.ensures ∙ c.if-not-has_room.false) in
    let whole = written_as {ys = site_text a.ranks a.owners.now (a.stats.final_cut_nnz / 2) a.stats}
    (joined (joined c.put_head-a.ensures.written c.put_lines-b.ensures.written) c.put_stats.ensures.written) (simp append_assoc) in
    told (omega (arith, whole.end_is)) room whole
