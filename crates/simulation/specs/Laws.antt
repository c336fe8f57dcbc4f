-- Laws of whole simulations.
use Rattle.std.specs.Prelude.{◌≡◌, ℕ, List, Some, Ok}
use Rattle.mote_net.specs.Report.{ReportModel}
use Rattle.mote_net.specs.Net.{NetModel}
use Rattle.net_scenario.specs.Reading.{TellsNet}
use Rattle.serial_run.specs.NetRun.{IsReportOf}
use Rattle.simulation.specs.Simulation.{Way, SimulatedWith}

-- The same scenario has the same report, on one thread or with any number of workers of either kind: if two runs read
-- the same bytes, return `Ok`, and append to the same bytes, then the final bytes are the same.
abbrev pub OneReport : Type 0
OneReport = (bytes old a b : List ℕ) (v w : Way)
    → SimulatedWith v bytes (Some old) (Some a) (Ok tt) → SimulatedWith w bytes (Some old) (Some b) (Ok tt) → a ≡ b

-- The net of each scenario's text has a report.
abbrev pub ScenarioHasReport : Type 0
ScenarioHasReport = (text : List ℕ) (model : NetModel) → TellsNet text model → (r : ReportModel) × IsReportOf model r
