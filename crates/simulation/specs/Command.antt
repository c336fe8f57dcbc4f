-- The effect of the command with its arguments, and the exit status that it returns.
use Rattle.std.specs.Prelude.{◌≡◌, ◌≢◌, ◌⊎◌, ℕ, List, Option, None, IsSome, IfSome, IfErr, Result, Ok, Err}
use Rattle.std.specs.Io.KnownBytes.{Keeps}
use Rattle.clap.specs.declared.error.kind.ErrorKind.{ErrorKind}
use Rattle.clap.specs.declared.error.kind.ErrorKind.TheVariants as kind
use Rattle.simulation.specs.FaultLines.{AppendsPrefix, written_line}
use Rattle.simulation.specs.Words.{AsksFor, FaultOf}
use Rattle.simulation.specs.Simulation.{SimulatedWith, SimulatedSome, Unwritten, way_of}
use Rattle.simulation.specs.declared.command_line.Asked.{Asked}
use Rattle.simulation.specs.declared.error.SimError.{SimError}
use Rattle.simulation.specs.declared.error.SimError.TheVariants as error

-- the exit status of a simulation
abbrev pub status_of : Result (Unit {0}) SimError → ℕ
status_of (Ok u) = 0
status_of (Err e) = 1

-- the contents of the command's streams, if they are known
pub record Streams : Type 0 where
  pub input : Option (List ℕ)
  pub output : Option (List ℕ)
  pub errors : Option (List ℕ)

abbrev pub streams : (input output errors : Option (List ℕ)) → Streams
streams input output errors = record { input = input; output = output; errors = errors }

-- the arguments ask for a simulation: its result decides the status, and without an error nothing is written to
-- `errors`
pub record Simulates (asked : Asked) (old new : Streams) (status : ℕ) : Type 0 where
  pub answer : Result (Unit {0}) SimError
  -- without a file, the input is simulated
  pub of_input : asked.file ≡ None
      → IfSome old.input (λ bytes. SimulatedWith (way_of asked.options) bytes old.output new.output answer)
  -- with a file, the input isn't read
  pub unread : IsSome asked.file → new.input ≡ old.input
  -- a report is that of some bytes, simulated as the options say
  pub of_some : SimulatedSome (way_of asked.options) old.output new.output answer
  pub unwritten : IfErr answer (Unwritten old.output new.output)
  pub status_is : status ≡ status_of answer
  pub quiet : answer ≡ Ok tt → Keeps old.errors new.errors
  -- the line of an error is written to `errors`, or a part of it, up to the place at which writing failed
  pub line : IfErr answer (λ e. AppendsPrefix old.errors new.errors (written_line e))

-- the exit status if the arguments are refused, or ask for help
abbrev pub status_of_words : ErrorKind → ℕ
status_of_words kind.OutOfMemory = 1
status_of_words kind.DisplayHelp = 0
status_of_words kind.DisplayVersion = 0
status_of_words k = 2

-- the arguments are refused, or ask for help: nothing is read, no error is written to the output, and no help is
-- written to `errors`
pub record RefusesWords (k : ErrorKind) (old new : Streams) (status : ℕ) : Type 0 where
  pub status_is : status ≡ status_of_words k
  pub unread : new.input ≡ old.input
  pub fault : status ≢ 0 → Keeps old.output new.output
  pub help : status ≡ 0 → Keeps old.errors new.errors
  -- if an allocation failed, nothing but the line of this error is written to `errors`
  pub memory : k ≡ kind.OutOfMemory → AppendsPrefix old.errors new.errors (written_line error.Memory)

-- the contents of the command's streams before and after it ran with these arguments, and the exit status that it
-- returned; the first argument is the program's name
abbrev pub Commands : (words : List (List ℕ)) → (old new : Streams) → (status : ℕ) → Type 0
Commands words old new status = ((asked : Asked) × AsksFor words asked × Simulates asked old new status)
    ⊎ ((k : ErrorKind) × FaultOf words k × RefusesWords k old new status)

-- the command was run with some arguments
abbrev pub RunsSome : (old new : Streams) → (status : ℕ) → Type 0
RunsSome old new status = (words : List (List ℕ)) × Commands words old new status

-- the process returns the status of the command with some arguments; or it couldn't get its arguments, and then it
-- reads nothing, writes nothing to the output, and returns a status that isn't 0
abbrev pub ReturnsSome : (old new : Streams) → (status : ℕ) → Type 0
ReturnsSome old new status =
    RunsSome old new status ⊎ ((status ≢ 0) × (new.input ≡ old.input) × (new.output ≡ old.output))
