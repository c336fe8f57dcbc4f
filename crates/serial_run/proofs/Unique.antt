-- A net has at most one report, because it has at most one run.
use Rattle.std.proofs.Common.{sym, ap, ◌∙◌}
use Rattle.window_laws.proofs.Unique.{run_is_one}
use Rattle.serial_run.specs.FaultRun.{packet_with}
use Rattle.serial_run.specs.NetRun.{report_at}
use Rattle.serial_run.specs.Laws.{ReportIsOne}

pub report_is_one : ReportIsOne
report_is_one faults n a b p q = q.matches ∙ (ap (report_at (packet_with faults n.radio) n) (run_is_one _ n.end p.run q.run) ∙ sym p.matches)
