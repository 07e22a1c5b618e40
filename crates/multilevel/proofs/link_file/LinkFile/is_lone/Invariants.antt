-- The invariant: v is lone just where no link from i on has it as an end. Assumes nothing.
use Rattle.std.proofs.Common.{ℕ, ◌≡◌, ◌-◌}
use Rattle.std.specs.Prelude.{not}
use Rattle.links.specs.Lists.{all, range}
use Rattle.multilevel.specs.File.{is_end, lone_in}
use Rattle.multilevel.proofs.link_file.LinkFile.is_lone.Given as goal

abbrev pub invariant-loop-i : goal.invariant-loop-i
invariant-loop-i l = all (λ (j : ℕ). not (is_end l.self.bytes.now l.v j)) (range l.i (l.self.links - l.i)) ≡ lone_in l.self.bytes.now l.v
