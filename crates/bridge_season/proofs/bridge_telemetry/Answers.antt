use Rattle.std.proofs.Common.{sym, ap, ◌∙◌}
use Rattle.std.specs.Result.{result_ok}
use Rattle.telemetry.specs.Telemetry.{ratios_of}
use Rattle.bridge_season.proofs.bridge_telemetry.Goals as goal

pub returns-clause-ratios : goal.returns-clause-ratios
returns-clause-ratios c =
    ap ratios_of (ap result_ok (sym c.in-Ok.is) ∙ c.partition_telemetry_assignment-answer.ensures.answer)
