use Rattle.std.proofs.Common.{ℕ, ◌∙◌, take, arith}
use Rattle.std.proofs.lemmas.Iterator.{YieldsList-from_slice}
use Rattle.std.proofs.lemmas.Iterator.Consumers.{max_from_yields_List, YieldsList-from_copied, YieldsList-at}
use Rattle.telemetry.proofs.SiteLaws.{greatest-picked}
use Rattle.telemetry.proofs.site.most_of.Goals as goal

pub returns : goal.returns
returns c =
    let counts = c.args.counts.now in
    let first = YieldsList-from_slice (take c.args.ranks counts) c.iter.ensures.rest in
    let most = max_from_yields_List {v = λ (x : ℕ). x} _ _ c.max.ensures.ran (YieldsList-from_copied (YieldsList-at c.copied.ensures.source first)) in
    c.unwrap_or.ensures ∙ greatest-picked c.max.result counts c.args.ranks most (omega arith)
