-- The answer names the outcome of the division, and the first n owners are that outcome's. Assumes nothing.
use native.Mathlib.Omega.{arith}
use Rattle.listing.specs.Share.{call_text, share_room}
use Rattle.listing.proofs.TextLaws.{told-as}
use Rattle.listing.proofs.ShareLaws.{with-room, owners-told, refusal-told, divided-text, refused-text}
use Rattle.listing.proofs.site_file.tell_division.Goals as goal

pub returns-in_default : goal.returns-in_default
unfolding call_text
returns-in_default c =
    let p = c.abtm_multilevel_partition-answer.ensures in
    told-as (with-room c.write_refusal.ensures share_room (omega arith) c.requires.2)
    (refused-text _ _ (refusal-told p _ _ c.in_default.is c.number_of.ensures))

pub returns : goal.returns
unfolding call_text
returns c =
    let d = owners-told c.abtm_multilevel_partition-answer.ensures c.in-Ok.stats c.args.s.vertices c.in-Ok.is c.requires.0 in
    told-as (with-room c.write_site.ensures share_room (omega (arith, d.0, c.requires.1)) c.requires.2)
    (divided-text _ _ _ d.1)
