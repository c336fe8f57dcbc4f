-- The effect of the command with its arguments, and the exit status that it returns.
use Rattle.std.specs.Prelude.{◌≡◌, ◌≢◌, ◌⊎◌, ℕ, List, [], ◌++◌, Bool, true, false, Option, Result, Ok, Err}
use Rattle.std.specs.Prelude.{is_none, string_bytes, IfErr, IfOk}
use Rattle.std.specs.Bool.{MatchBool}
use Rattle.std.specs.Io.KnownBytes.{Appends, Keeps}
use Rattle.clap.specs.declared.error.kind.ErrorKind.{ErrorKind}
use Rattle.clap.specs.declared.error.kind.ErrorKind.TheVariants as kind
use Rattle.trace_printer.specs.Output.{AppendsFront}
use Rattle.simulation.specs.FaultLines.{AppendsPrefix}
use Rattle.simulation.specs.declared.error.SimError.TheVariants as fault
use Rattle.simulation.specs.Simulation.{Way}
use Rattle.claim_check.specs.Asked.{are_in_conflict, is_survey, plan_for, way_for}
use Rattle.claim_check.specs.Check.{Checks, Reports}
use Rattle.claim_check.specs.FaultLines.{written_line}
use Rattle.claim_check.specs.Survey.{Surveys}
use Rattle.claim_check.specs.declared.answers.Answers.{Answers}
use Rattle.claim_check.specs.Words.{AsksFor, FaultOf, motecheck_app}
use Rattle.claim_check.specs.declared.command_line.Asked.{Asked}
use Rattle.claim_check.specs.declared.command_line.Options.{Options}
use Rattle.claim_check.specs.declared.error.CheckError.{CheckError}
use Rattle.claim_check.specs.declared.error.CheckError.TheVariants as check

-- the result of what the options ask for: a survey, or a check of one run
abbrev pub AnswersAsked : Way → Options → (scenario claims faults : List ℕ) → Result Answers CheckError → Type 0
AnswersAsked way options s c f r =
    MatchBool (is_survey options) (Surveys way (plan_for options) s c r) (Checks way s c f r)

-- the answers have a text with this property
pub record Answer (way : Way) (options : Options) (s c f : List ℕ) (written : List ℕ → Type 0) (all_hold : Bool) : Type 0 where
  pub answers : Answers
  pub answered : AnswersAsked way options s c f (Ok answers)
  pub verdict : all_hold ≡ answers.all_hold
  pub got : written (string_bytes answers.text)

-- Each result of answering, with its cause: all answers are written; or a proper prefix of them before an error of
-- writing; or nothing before any other error.
abbrev pub WritesAnswers :
    Way → Options → (scenario claims faults : List ℕ) → (old new : Option (List ℕ)) → Result Bool CheckError → Type 0
WritesAnswers way options s c f old new (Ok all_hold) = Answer way options s c f (Appends old new) all_hold
WritesAnswers way options s c f old new (Err (check.Print e)) =
    (all_hold : Bool) × Answer way options s c f (AppendsFront old new) all_hold
WritesAnswers way options s c f old new (Err e) = AnswersAsked way options s c f (Err e) × Keeps old new

-- the result of writing the report, or the answers
abbrev pub Responds :
    Way → Options → (scenario claims faults : List ℕ) → (old new : Option (List ℕ)) → Result Bool CheckError → Type 0
Responds way options s c f old new r =
    MatchBool options.report (Reports way s f old new r) (WritesAnswers way options s c f old new r)

-- the errors of reading a file: it can't be read, is too long, or isn't a text; or an allocation failed
abbrev pub IsReadError : CheckError → Type 0
IsReadError (check.Input e) = Unit {0}
IsReadError (check.FaultsInput e) = Unit {0}
IsReadError (check.Simulation fault.Read) = Unit {0}
IsReadError (check.Simulation fault.TooLong) = Unit {0}
IsReadError (check.Simulation fault.NotText) = Unit {0}
IsReadError (check.Simulation fault.Memory) = Unit {0}
IsReadError e = ⊥

-- a file wasn't read, and nothing is written
abbrev pub LacksFile : (old new : Option (List ℕ)) → Result Bool CheckError → Type 0
LacksFile old new r = (e : CheckError) × (r ≡ Err e) × IsReadError e × Keeps old new

-- the text has the faults of the options, and more of them if there is a file of faults
pub record AreAllFaults (asked : Asked) (faults : List ℕ) : Type 0 where
  pub more : List ℕ
  pub only_options : is_none asked.faults ≡ true → more ≡ []
  pub all : faults ≡ string_bytes asked.options.faults ++ more

-- the result for some texts of a scenario, claims and faults, as the contents of files aren't known
pub record RespondsSome (asked : Asked) (old new : Option (List ℕ)) (r : Result Bool CheckError) : Type 0 where
  pub scenario : List ℕ
  pub claims : List ℕ
  pub faults : List ℕ
  pub all_faults : AreAllFaults asked faults
  pub responds : Responds (way_for asked.options) asked.options scenario claims faults old new r

-- the result for some texts; or a file wasn't read
abbrev pub ChecksSome : Asked → (old new : Option (List ℕ)) → Result Bool CheckError → Type 0
ChecksSome asked old new r = RespondsSome asked old new r ⊎ LacksFile old new r

-- the exit status of a check
abbrev pub status_of : Result Bool CheckError → ℕ
status_of (Ok true) = 0
status_of (Ok false) = 1
status_of (Err e) = 2

-- the contents of the output and of the stream of errors, if they are known
pub record Ends : Type 0 where
  pub output : Option (List ℕ)
  pub errors : Option (List ℕ)

abbrev pub ends : (output errors : Option (List ℕ)) → Ends
ends output errors = record { output = output; errors = errors }

-- A result with this property decides the status. Without an error, nothing is written to `errors`; the line of an
-- error is written to it, or a part of this line, up to the place at which writing failed.
pub record Concludes (result : Result Bool CheckError → Type 0) (old new : Option (List ℕ)) (status : ℕ) : Type 0 where
  pub answer : Result Bool CheckError
  pub is : result answer
  pub status_is : status ≡ status_of answer
  pub quiet : IfOk answer (λ all_hold. Keeps old new)
  pub line : IfErr answer (λ e. AppendsPrefix old new (written_line e))

-- arguments in conflict are refused; others have a result
abbrev pub Serves : (conflict : Bool) → (Result Bool CheckError → Type 0) → (old new : Ends) → (status : ℕ) → Type 0
Serves conflict result old new status =
    MatchBool conflict ((status ≡ 2) × Keeps old.output new.output)
    (Concludes result old.errors new.errors status)

-- the exit status if the arguments are refused, or ask for help
abbrev pub status_of_words : ErrorKind → ℕ
status_of_words kind.DisplayHelp = 0
status_of_words kind.DisplayVersion = 0
status_of_words k = 2

-- the arguments are refused, or ask for help: no error is written to the output, and no help to `errors`
pub record RefusesWords (k : ErrorKind) (old new : Ends) (status : ℕ) : Type 0 where
  pub status_is : status ≡ status_of_words k
  pub fault : status ≢ 0 → Keeps old.output new.output
  pub help : status ≡ 0 → Keeps old.errors new.errors

-- the contents of the command's streams before and after it ran with these arguments, and the exit status that it
-- returned; the first argument is the program's name
abbrev pub Commands : (words : List (List ℕ)) → (old new : Ends) → (status : ℕ) → Type 0
Commands words old new status = ((asked : Asked) × AsksFor words asked
    × Serves (are_in_conflict asked) (ChecksSome asked old.output new.output) old new status)
    ⊎ ((k : ErrorKind) × FaultOf motecheck_app words k × RefusesWords k old new status)

-- the process returns the status of the command with some arguments; or it couldn't get its arguments, and then it
-- writes nothing to the output, and returns a status that isn't 0
abbrev pub ReturnsSome : (old new : Ends) → (status : ℕ) → Type 0
ReturnsSome old new status = ((words : List (List ℕ)) × Commands words old new status)
    ⊎ ((status ≢ 0) × (new.output ≡ old.output))
