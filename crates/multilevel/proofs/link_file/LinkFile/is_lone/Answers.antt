use Rattle.std.proofs.Common.{sym, ap, ◌∙◌, arith}
use Rattle.std.specs.Prelude.{not}
use Rattle.links.proofs.RangeLaws.{all_more}
use Rattle.multilevel.specs.File.{is_end, lone_in}
use Rattle.multilevel.proofs.FileLaws.{every-link}
use Rattle.multilevel.proofs.link_file.LinkFile.is_lone.Goals as goal

pub loop-i-init : goal.loop-i-init
unfolding lone_in
loop-i-init c = every-link c.args.self.bytes.now c.args.self.links c.args.self.sized _

pub loop-i-preserved : goal.loop-i-preserved
loop-i-preserved c =
    let a = c.args in
    all_more (λ j. not (is_end a.self.bytes.now a.v j)) a.self.links c.loop-i.i (omega arith) (ap not (sym c.is_end.ensures ∙ c.if-is_end.false)) ∙ c.loop-i.invariant
