use Rattle.std.proofs.Common.{sym, ◌∙◌, arith}
use Rattle.links.proofs.RangeLaws.{all_more}
use Rattle.multilevel.specs.File.{good_link, good_links}
use Rattle.multilevel.proofs.FileLaws.{every-link}
use Rattle.multilevel.proofs.link_file.LinkFile.links_good.Goals as goal

pub loop-i-init : goal.loop-i-init
unfolding good_links
loop-i-init c = every-link c.args.self.bytes.now c.args.self.links c.args.self.sized _

pub loop-i-preserved : goal.loop-i-preserved
loop-i-preserved c =
    let f = c.args.self in
    all_more (good_link f.bytes.now) f.links c.loop-i.i (omega arith) (sym c.link_good.ensures ∙ c.if-not-link_good.false) ∙ c.loop-i.invariant
