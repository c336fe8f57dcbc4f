-- The effect of the command with an input in place of arguments and files.
use Rattle.std.specs.Prelude.{◌≡◌, ◌⊎◌, ◌==◌, ℕ, List, Option, None, Result, Err, Bool, string_bytes}
use Rattle.std.specs.List.{before_first, after_first}
use Rattle.std.specs.Str.Lines.{lines}
use Rattle.std.specs.Io.KnownBytes.{Keeps}
use Rattle.clap.specs.declared.error.kind.ErrorKind.{ErrorKind}
use Rattle.simulation.specs.Reads.{IsInputFault}
use Rattle.simulation.specs.declared.input.InputError.{InputError}
use Rattle.claim_check.specs.Asked.{is_in_conflict}
use Rattle.claim_check.specs.Command.{Concludes, Ends, RefusesWords, Responds, Serves}
use Rattle.claim_check.specs.Words.{AsksOptions, FaultOf, options_app}
use Rattle.claim_check.specs.declared.command_line.Options.{Options}
use Rattle.claim_check.specs.declared.error.CheckError.{CheckError}
use Rattle.claim_check.specs.declared.error.CheckError.TheVariants as check

-- an input has three parts, with a zero byte after the first and after the second: the arguments, one a line, of which
-- the first is the program's name; the claims; and the scenario
abbrev pub words_in : List ℕ → List (List ℕ)
words_in input = lines (before_first (λ byte. byte == 0) input)

abbrev pub claims_in : List ℕ → List ℕ
claims_in input = before_first (λ byte. byte == 0) (after_first (λ byte. byte == 0) input)

abbrev pub scenario_in : List ℕ → List ℕ
scenario_in input = after_first (λ byte. byte == 0) (after_first (λ byte. byte == 0) input)

-- what the arguments in the input ask for is answered on one thread, or they are refused, or ask for help
abbrev pub ServesText : (input : List ℕ) → (old new : Ends) → (status : ℕ) → Type 0
ServesText input old new status = ((options : Options) × AsksOptions (words_in input) options
    × Serves (is_in_conflict options)
    (Responds None options (scenario_in input) (claims_in input) (string_bytes options.faults) old.output new.output)
    old new status)
    ⊎ ((k : ErrorKind) × FaultOf options_app (words_in input) k × RefusesWords k old new status)

-- the input isn't a text
abbrev pub RefusesInput : (input : List ℕ) → (old new : Option (List ℕ)) → Result Bool CheckError → Type 0
RefusesInput input old new r = (e : InputError) × (r ≡ Err (check.Input e)) × IsInputFault input e × Keeps old new

-- the contents of the streams before and after an input was served, and the exit status that was returned
abbrev pub ServesInput : (input : List ℕ) → (old new : Ends) → (status : ℕ) → Type 0
ServesInput input old new status =
    ServesText input old new status
    ⊎ Concludes (RefusesInput input old.output new.output) old.errors new.errors status
