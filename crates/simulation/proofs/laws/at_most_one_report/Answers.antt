use Rattle.simulation.proofs.Printed.{one_report}
use Rattle.simulation.proofs.laws.at_most_one_report.Goals as goal

pub returns : goal.returns
returns c = record { one_report = one_report c.at_most_one_net.ensures.one_net c.report_is_one.ensures.report_is_one }
