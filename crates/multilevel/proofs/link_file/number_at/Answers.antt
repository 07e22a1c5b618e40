use Rattle.std.proofs.Common.{arith}
use Rattle.multilevel.specs.File.{number}
use Rattle.multilevel.proofs.link_file.number_at.Goals as goal

pub returns : goal.returns
unfolding number
returns c = omega (arith, c.from_le_bytes.ensures)
