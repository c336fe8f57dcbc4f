-- The result of a simulation of some bytes.
use Rattle.std.specs.Prelude.{◌≡◌, ◌≤◌, ℕ, List, Option, Some, None, IsSome, Result, Ok, Err}
use Rattle.std.specs.Io.KnownBytes.{Keeps, Appends}
use Rattle.mote_net.specs.Net.{NetModel}
use Rattle.net_scenario.specs.Reading.{TellsNet, TellsFault}
use Rattle.net_scenario.specs.declared.error.ScenarioError.{ScenarioError}
use Rattle.net_scenario.specs.declared.error.ScenarioError.TheVariants as scenario
use Rattle.mote_net.specs.Report.{ReportModel, report_of}
use Rattle.mote_net.specs.declared.report.Report.{Report}
use Rattle.trace_printer.specs.Output.{AppendsFront}
use Rattle.trace_printer.specs.ReportText.{report_text}
use Rattle.serial_run.specs.NetRun.{IsReportOf}
use Rattle.serial_run.specs.declared.error.RunError.{RunError}
use Rattle.serial_run.specs.declared.error.RunError.TheVariants as run
use Rattle.window_workers.specs.declared.sync.SyncKind.{SyncKind}
use Rattle.simulation.specs.Input.{IsText, IsTooLong, IsNoText}
use Rattle.simulation.specs.declared.input.InputError.{InputError}
use Rattle.simulation.specs.declared.input.InputError.TheVariants as input
use Rattle.simulation.specs.declared.options.Options.{Options}
use Rattle.simulation.specs.declared.error.SimError.{SimError}
use Rattle.simulation.specs.declared.error.SimError.TheVariants as fault

abbrev pub sim_fault : InputError → SimError
sim_fault input.Read = fault.Read
sim_fault input.TooLong = fault.TooLong
sim_fault input.NotText = fault.NotText
sim_fault input.Memory = fault.Memory

-- the bytes are a text of at most 1 MiB that describes this net
pub record IsScenario (bytes : List ℕ) : Type 0 where
  pub is_text : IsText bytes
  pub net : NetModel
  pub matches : TellsNet bytes net

-- the bytes are a scenario, and `written` holds for the text of the report of its net's run
pub record Reported (bytes : List ℕ) (written : List ℕ → Type 0) : Type 0 where
  pub from : IsScenario bytes
  pub report : ReportModel
  pub run : IsReportOf from.net report
  pub got : written (report_text from.net report)

-- this is the first error in the text; an allocation may fail for any text
abbrev pub RefusesText : List ℕ → ScenarioError → Type 0
RefusesText bytes scenario.Memory = Unit {0}
RefusesText bytes e = TellsFault bytes e

-- the way to run a net: on one thread, or with this many workers and this kind of synchronisation
abbrev pub Way : Type 0
Way = Option (ℕ × SyncKind)

abbrev pub way_by : (workers : Option ℕ) → SyncKind → Way
way_by None sync = None
way_by (Some n) sync = Some (n, sync)

-- the way to run a net with these options
abbrev pub way_of : Options → Way
way_of options = way_by options.workers options.sync

-- the number of workers is allowed
abbrev pub MayWork : ℕ → Type 0
MayWork n = (1 ≤ n) × (n ≤ 16)

-- a run on one thread, or with 1 to 16 workers
abbrev pub MayRun : Way → Type 0
MayRun None = Unit {0}
MayRun (Some way) = MayWork way.0

-- the error of a run: `Workers` if the number of workers isn't allowed; otherwise `Memory` or, with workers, `Thread`
-- (only tests show that an allocation or a thread failed)
abbrev pub RefusesRun : Way → RunError → Type 0
RefusesRun way run.Workers = ¬ MayRun way
RefusesRun way run.CutLength = ⊥
RefusesRun way run.CutWorker = ⊥
RefusesRun way run.Memory = MayRun way
RefusesRun way run.Thread = IsSome way × MayRun way
RefusesRun way run.Stopped = ⊥

-- the result of running a net in this way: the report is that of the net's run, whose definition doesn't mention
-- workers
abbrev pub RunsWith : Way → NetModel → Result Report RunError → Type 0
RunsWith way net (Ok report) = MayRun way × IsReportOf net (report_of report)
RunsWith way net (Err e) = RefusesRun way e

-- Each result and its cause, on one thread or with workers of either kind. For any bytes, the reader or an allocation
-- may fail; for any scenario, an allocation of the run or a thread may fail.
abbrev pub SimulatedWith : Way → List ℕ → (old new : Option (List ℕ)) → Result (Unit {0}) SimError → Type 0
SimulatedWith way bytes old new (Ok u) = MayRun way × Reported bytes (Appends old new)
SimulatedWith way bytes old new (Err fault.Read) = Unit {0}
SimulatedWith way bytes old new (Err fault.TooLong) = IsTooLong bytes
SimulatedWith way bytes old new (Err fault.NotText) = IsNoText bytes
SimulatedWith way bytes old new (Err (fault.Scenario e)) = IsText bytes × RefusesText bytes e
SimulatedWith way bytes old new (Err (fault.Run e)) = IsScenario bytes × RefusesRun way e
SimulatedWith way bytes old new (Err (fault.Print e)) = MayRun way × Reported bytes (AppendsFront old new)
SimulatedWith way bytes old new (Err fault.Memory) = Unit {0}

-- the meaning of a result if the reader's bytes aren't known: it is the result for some bytes; an error of reading, or
-- out of memory, has no meaning
abbrev pub SimulatedSome : Way → (old new : Option (List ℕ)) → Result (Unit {0}) SimError → Type 0
SimulatedSome way old new (Ok u) = (bytes : List ℕ) × SimulatedWith way bytes old new (Ok u)
SimulatedSome way old new (Err (fault.Scenario e)) =
    (bytes : List ℕ) × SimulatedWith way bytes old new (Err (fault.Scenario e))
SimulatedSome way old new (Err (fault.Run e)) = (bytes : List ℕ) × SimulatedWith way bytes old new (Err (fault.Run e))
SimulatedSome way old new (Err (fault.Print e)) =
    (bytes : List ℕ) × SimulatedWith way bytes old new (Err (fault.Print e))
SimulatedSome way old new (Err e) = Unit {0}

-- nothing has been written before an error, except before an error of printing
abbrev pub Unwritten : (old new : Option (List ℕ)) → SimError → Type 0
Unwritten old new (fault.Print e) = Unit {0}
Unwritten old new e = Keeps old new
