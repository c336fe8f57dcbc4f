-- The engine's state during a run, and at its end.
use Rattle.std.specs.Prelude.{◌≡◌, ℕ, List}
use Rattle.trace_lines.specs.declared.line.Line.{Line}
use Rattle.mote_node.specs.Turn.{Node}
use Rattle.mote_net.specs.Net.{NetModel}
use Rattle.serial_run.specs.declared.engine.Engine.{Engine}
use Rattle.radio_faults.specs.declared.fault.Fault.{Fault}
use Rattle.window_laws.specs.NetStep.{NetState, Run, boot}
use Rattle.serial_run.specs.FaultRun.{net_with}
use Rattle.serial_run.specs.OnTime.{IsOnTime}
use Rattle.serial_run.specs.IsInState.{IsEngineAt, IsInside}

-- each mote has its own number
abbrev pub AreNumbered : NetState Node Line → Type 0
AreNumbered net = (k : ℕ) → (net.states k).mote.state.mote ≡ k

-- The engine's state is the state after the first turns of a run: each run that continues from this state completes a
-- run from the boot.
pub record HasReached (faults : List Fault) (model : NetModel) (engine : Engine) : Type 0 where
  pub state : NetState Node Line
  pub in_state : IsEngineAt faults model engine state
  pub inside : IsInside model state
  pub numbered : AreNumbered state
  pub at : ℕ
  pub on_time : IsOnTime at state
  pub led : (last : NetState Node Line) → Run (net_with faults model) model.end state last
      → Run (net_with faults model) model.end (boot (net_with faults model)) last

-- the engine's state is the last state of the run
pub record HasEnded (faults : List Fault) (model : NetModel) (engine : Engine) : Type 0 where
  pub last : NetState Node Line
  pub in_state : IsEngineAt faults model engine last
  pub run : Run (net_with faults model) model.end (boot (net_with faults model)) last
