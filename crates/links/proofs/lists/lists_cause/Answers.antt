-- The offsets, then the two rounds over the rows: together the definition's test. Assumes nothing.
use Rattle.std.proofs.Common.{◌≡◌, sym, ◌∙◌, true, false, length}
use Rattle.links.specs.Graph.{bad_offsets}
use Rattle.links.specs.ListTest.{valid_rows, mirrored_rows}
use Rattle.links.proofs.ListTestLaws.{two-rounds, rising-of, refused, passed}
use Rattle.links.proofs.lists.lists_cause.Goals as goal
use Rattle.links.proofs.lists.lists_cause.Goals.{then-bad_offsets-via-then-bad_offsets, then-bad_offsets-via-else-bad_offsets+then-not-valid_rows, then-bad_offsets-via-else-bad_offsets+else-not-valid_rows+then-not-mirrored_rows}

pub mirrored_rows-requires : goal.mirrored_rows-requires
mirrored_rows-requires c = rising-of c.args.offsets.now c.args.neighbors.now (sym c.valid_rows.ensures ∙ c.if-not-valid_rows.false)

pub returns-then-bad_offsets : goal.returns-then-bad_offsets
returns-then-bad_offsets c =
    let o = c.args.offsets.now in
    let l = c.args.neighbors.now in
    refused o l (two-rounds o l ∙ elim c.then-bad_offsets.branch [
      | then-bad_offsets-via-then-bad_offsets w ↦
          let b : bad_offsets o (length l) ≡ true = sym c.bad_offsets.ensures ∙ w.if-bad_offsets.true in
          rw b
      | then-bad_offsets-via-else-bad_offsets+then-not-valid_rows w ↦
          let b : bad_offsets o (length l) ≡ false = sym c.bad_offsets.ensures ∙ w.if-bad_offsets.false in
          let v : valid_rows o l ≡ false = sym w.valid_rows.ensures ∙ w.if-not-valid_rows.true in
          rw (b, v)
      | then-bad_offsets-via-else-bad_offsets+else-not-valid_rows+then-not-mirrored_rows w ↦
          let b : bad_offsets o (length l) ≡ false = sym c.bad_offsets.ensures ∙ w.if-bad_offsets.false in
          let v : valid_rows o l ≡ true = sym w.valid_rows.ensures ∙ w.if-not-valid_rows.false in
          let m : mirrored_rows o l ≡ false = sym w.mirrored_rows.ensures ∙ w.if-not-mirrored_rows.true in
          rw (b, v, m)
    ])

pub returns : goal.returns
returns c =
    let o = c.args.offsets.now in
    let l = c.args.neighbors.now in
    let b : bad_offsets o (length l) ≡ false = sym c.bad_offsets.ensures ∙ c.if-bad_offsets.false in
    let v : valid_rows o l ≡ true = sym c.valid_rows.ensures ∙ c.if-not-valid_rows.false in
    let m : mirrored_rows o l ≡ true = sym c.mirrored_rows.ensures ∙ c.if-not-mirrored_rows.false in
    passed o l (two-rounds o l ∙ rw (b, v, m))
