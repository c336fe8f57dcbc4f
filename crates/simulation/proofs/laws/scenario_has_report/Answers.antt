use Rattle.simulation.proofs.Scenarios.{scenario_has_report}
use Rattle.simulation.proofs.laws.scenario_has_report.Goals as goal

pub returns : goal.returns
returns c = record { scenario_has_report = scenario_has_report c.report_is_there.ensures.report_is_there }
