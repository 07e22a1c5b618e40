-- The invariant: the links from i on are good just where all are. Assumes nothing.
use Rattle.std.proofs.Common.{◌≡◌, ◌-◌}
use Rattle.links.specs.Lists.{all, range}
use Rattle.multilevel.specs.File.{good_link, good_links}
use Rattle.multilevel.proofs.link_file.LinkFile.links_good.Given as goal

abbrev pub invariant-loop-i : goal.invariant-loop-i
invariant-loop-i l = all (good_link l.self.bytes.now) (range l.i (l.self.links - l.i)) ≡ good_links l.self.bytes.now
