use Rattle.std.proofs.Common.{ℕ, eqb, sym, ap, ne_eqb}
use Rattle.multilevel.specs.File.{is_end}
use Rattle.multilevel.proofs.link_file.LinkFile.is_end.Goals as goal

pub returns-else-low_end-v : goal.returns-else-low_end-v
unfolding is_end
returns-else-low_end-v c =
    rw (sym c.low_end.ensures, ne_eqb c.low_end.result c.args.v c.if-low_end-v.false) (ap (λ (x : ℕ). eqb x c.args.v) c.high_end.ensures)
