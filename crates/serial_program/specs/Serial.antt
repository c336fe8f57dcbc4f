-- The effect of the program on its streams, and the exit status that it returns.
use Rattle.std.specs.Prelude.{◌≡◌, ℕ, None, IfSome, IfErr, Result, Ok}
use Rattle.std.specs.Io.KnownBytes.{Keeps}
use Rattle.simulation.specs.Command.{Streams, status_of}
use Rattle.simulation.specs.Simulation.{SimulatedWith, SimulatedSome, Unwritten}
use Rattle.simulation.specs.declared.error.SimError.{SimError}

-- the input is simulated on one thread: the result decides the status, and without an error nothing is written to
-- `errors`
pub record SimulatesInput (old new : Streams) (status : ℕ) : Type 0 where
  pub answer : Result (Unit {0}) SimError
  pub of_input : IfSome old.input (λ bytes. SimulatedWith None bytes old.output new.output answer)
  -- a report is that of some bytes
  pub of_some : SimulatedSome None old.output new.output answer
  pub unwritten : IfErr answer (Unwritten old.output new.output)
  pub status_is : status ≡ status_of answer
  pub quiet : answer ≡ Ok tt → Keeps old.errors new.errors
