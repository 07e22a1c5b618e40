-- The invariant: no vertex from v on is lone. Assumes nothing.
use Rattle.std.proofs.Common.{◌≡◌, ◌-◌}
use mathlib.Core.Bool.{false}
use Rattle.links.specs.Lists.{any, range}
use Rattle.multilevel.specs.File.{lone_in}
use Rattle.multilevel.proofs.link_file.LinkFile.has_lone.Given as goal

abbrev pub invariant-loop-v : goal.invariant-loop-v
invariant-loop-v l = any (lone_in l.self.bytes.now) (range l.v (l.n - l.v)) ≡ false
