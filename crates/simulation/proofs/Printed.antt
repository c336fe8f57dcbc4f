-- The text written for the report of a scenario's net, and the reason why a text was refused.
use Rattle.std.proofs.Common.{◌≡◌, ℕ, List, [], ◌++◌, Option, Result, Ok, Err, ap, sym, ◌∙◌, subst}
use Rattle.net_scenario.specs.Laws.{OneNet}
use Rattle.mote_net.specs.Net.{NetModel}
use Rattle.net_scenario.specs.Reading.{TellsNet}
use Rattle.net_scenario.specs.Reads.{Answers}
use Rattle.net_scenario.specs.declared.error.ScenarioError.{ScenarioError}
use Rattle.net_scenario.specs.declared.error.ScenarioError.TheVariants as scenario
use Rattle.mote_net.specs.Report.{ReportModel}
use Rattle.trace_printer.specs.ReportText.{report_text}
use Rattle.serial_run.specs.Laws.{ReportIsOne}
use Rattle.serial_run.specs.NetRun.{IsReportOf}
use Rattle.simulation.specs.Input.{IsText}
use Rattle.simulation.specs.Laws.{OneReport}
use Rattle.simulation.specs.declared.error.SimError.{SimError}
use Rattle.simulation.specs.declared.error.SimError.TheVariants as fault
use Rattle.simulation.specs.Simulation.{IsScenario, Reported, RefusesText, Way, SimulatedWith, SimulatedSome}

-- the text describes this net
abbrev pub scenario_of : (bytes : List ℕ) (n : NetModel) → IsText bytes → TellsNet bytes n → IsScenario bytes
scenario_of bytes n short matches = record { is_text = short; net = n; matches = matches }

-- if `written` holds for the report's text, it holds for the report of the bytes
pub reported : (written : List ℕ → Type 0) (bytes : List ℕ) (n : NetModel) (r : ReportModel) → IsText bytes → TellsNet bytes n → IsReportOf n r → written (report_text n r) → Reported bytes written
reported written bytes n r short matches ran h = record { from = scenario_of bytes n short matches; report = r; run = ran; got = h }

-- the error of a refused text is the first error in it, or out of memory
pub refused : (bytes : List ℕ) (e : ScenarioError) → Answers bytes (Err e) → RefusesText bytes e
refused bytes scenario.Memory h = tt
refused bytes scenario.Toml h = h
refused bytes scenario.MissingKey h = h
refused bytes scenario.UnknownKey h = h
refused bytes scenario.WrongKind h = h
refused bytes scenario.OutOfRange h = h
refused bytes scenario.UnknownProgram h = h
refused bytes (scenario.Program name e) h = h
refused bytes (scenario.Medium e) h = h

-- a result for a text is a result for some bytes
pub some_bytes : (way : Way) (bytes : List ℕ) (old new : Option (List ℕ)) (r : Result (Unit {0}) SimError) → SimulatedWith way bytes old new r → SimulatedSome way old new r
some_bytes way bytes old new (Ok u) h = (bytes, h)
some_bytes way bytes old new (Err (fault.Scenario e)) h = (bytes, h)
some_bytes way bytes old new (Err (fault.Run e)) h = (bytes, h)
some_bytes way bytes old new (Err (fault.Print e)) h = (bytes, h)
some_bytes way bytes old new (Err e) h = tt

-- two reports of one net have the same text
same_text : ReportIsOne → (m n : NetModel) (r s : ReportModel) → m ≡ n → IsReportOf m r → IsReportOf n s → report_text m r ≡ report_text n s
same_text one m n r s same ran run =
    ap (λ net. report_text net r) same ∙ ap (report_text n) (one [] n s r run (subst (λ net. IsReportOf net r) same ran))

same_report : OneNet → ReportIsOne → (bytes old a b : List ℕ) → Reported bytes (λ text. a ≡ old ++ text) → Reported bytes (λ text. b ≡ old ++ text) → a ≡ b
same_report one_net one_run bytes old a b x y =
    x.got ∙ ap (λ text. old ++ text) (same_text one_run x.from.net y.from.net x.report y.report (one_net bytes x.from.net y.from.net x.from.matches y.from.matches) x.run y.run) ∙ sym y.got

-- two runs on the same bytes that write a complete report write the same one, in whichever way they run
pub one_report : OneNet → ReportIsOne → OneReport
one_report one_net one_run bytes old a b v w x y = same_report one_net one_run bytes old a b x.1 y.1
