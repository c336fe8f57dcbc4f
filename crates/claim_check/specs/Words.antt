-- The request or the error of a command line. `clap` finds matches or errors, and these determine the result.
use Rattle.std.specs.Prelude.{◌≡◌, ◌⊎◌, ℕ, pos, Bool, true, false, List, [], ◌∷◌, ◌++◌, Option, Some, None, codes, option_map}
use Rattle.std.specs.Prelude.{string_bytes, unwrap_or, ◌<◌, ◌^◌, ◌==◌, Vec, map}
use Rattle.std.specs.List.{AllByRecursion, flat_map, slice_split}
use Rattle.std.specs.declared.alloc.Global.{Global}
use Rattle.std.specs.Str.Parse.{ParsesUnsigned, ExplainsUnsignedError, HasUnsignedDigitsIfOk}
use Rattle.std.specs.Str.Parse.{IsNumeral, digits_value, without_leading_plus}
use Rattle.clap.specs.Words.{App, Row, Rule, Text, IsAmong, all_of, fault_of, first_of, matches_of, new_app, new_rule, one_of}
use Rattle.clap.specs.Words.{ReadsOne, with_rule}
use Rattle.clap.specs.Simple.{on_top}
use Rattle.clap.specs.declared.builder.action.ArgAction.TheVariants.{Append, SetTrue}
use Rattle.clap.specs.declared.builder.value_parser.ValueParser.{ValueParser}
use Rattle.clap.specs.declared.builder.value_parser.ValueParser.TheVariants as parser
use Rattle.clap.specs.declared.error.kind.ErrorKind.{ErrorKind}
use Rattle.clap.specs.declared.error.kind.ErrorKind.TheVariants as kind
use Rattle.simulation.specs.Words.{ReadsWorkers, workers_rule}
use Rattle.claim_check.specs.declared.command_line.Asked.{Asked}
use Rattle.claim_check.specs.declared.command_line.Options.{Options}

-- an option without a value
abbrev pub flag_rule : (name : Text) → Rule
flag_rule name = record (new_rule name) { long = Some name; action = Some SetTrue }

-- an option with a value
abbrev pub value_rule : (name : Text) → Rule
value_rule name = record (new_rule name) { long = Some name; value_names = 1 }

-- an option with a number
abbrev pub number_rule : (name : Text) → ValueParser → Rule
number_rule name parser = record (value_rule name) { parser = Some parser }

-- `--fault TEXT`, several times
abbrev pub fault_rule : Rule
fault_rule = record (value_rule (codes "fault")) { action = Some Append }

-- `--at-most K`, from 0 to 255
abbrev pub at_most_rule : Rule
at_most_rule = number_rule (codes "at-most") (parser.Signed (pos 0) (pos 255))

-- `--runs N`, below 2 ^ 64
abbrev pub runs_rule : Rule
runs_rule = number_rule (codes "runs") (parser.Unsigned 0 18446744073709551615)

-- a file
abbrev pub file_rule : (name : Text) → (required : Bool) → Rule
file_rule name required = record (new_rule name) { required = required }

abbrev pub line_of : Text → Text
line_of text = text ++ 10 ∷ []

abbrev pub with_rules : App → List Rule → App
with_rules app [] = app
with_rules app (rule ∷ rules) = with_rules (with_rule app rule) rules

-- a command with options for one run, and with a version: `motecheck [--fault TEXT].. [--report] [--workers N]`
abbrev pub run_app : App
run_app =
    with_rules (on_top (λ s. record s { has_version = true }) (new_app (codes "motecheck")))
    (fault_rule ∷ flag_rule (codes "report") ∷ workers_rule ∷ [])

-- with the kinds of faults that a survey may try: `[--links] [--silent] [--lost] [--late N,..] [--off N,..]
-- [--restarts N,..] [--starts N,..]`
abbrev pub kinds_app : App
kinds_app =
    with_rules run_app
    (flag_rule (codes "links") ∷ flag_rule (codes "silent") ∷ flag_rule (codes "lost") ∷ value_rule (codes "late")
    ∷ value_rule (codes "off") ∷ value_rule (codes "restarts") ∷ value_rule (codes "starts") ∷ [])

-- with all options, but no files: `.. [--at-most K] [--runs N]`
abbrev pub options_app : App
options_app = with_rules kinds_app (at_most_rule ∷ runs_rule ∷ [])

-- the command as `clap` reads it: the options and the files, `motecheck .. [--faults FILE] SCENARIO [CLAIMS]`
abbrev pub motecheck_app : App
motecheck_app =
    with_rules options_app
    (value_rule (codes "faults") ∷ file_rule (codes "SCENARIO") true ∷ file_rule (codes "CLAIMS") false ∷ [])

-- the flag was given or not
abbrev pub ReadsFlag : Option Text → Bool → Type 0
ReadsFlag text flag = (text ≡ None → flag ≡ false) × (text ≡ Some (codes "true") → flag ≡ true)
    × (text ≡ Some (codes "false") → flag ≡ false)

-- the text of a number of so many bits reads as this number, or as none
abbrev pub ReadsNumber : (bits : ℕ) → Option Text → Option ℕ → Type 0
ReadsNumber bits None number = number ≡ None
ReadsNumber bits (Some text) number =
    ReadsOne
    (λ bytes r. ParsesUnsigned bits 10 bytes r × ExplainsUnsignedError 10 bytes r × HasUnsignedDigitsIfOk bytes r)
    text number

-- the text is a number below 2 ^ 32
abbrev pub IsNumber : Text → Type 0
IsNumber text = IsNumeral 10 (without_leading_plus text) × (digits_value 10 (without_leading_plus text) < 2 ^ 32)

abbrev pub number_in : Text → ℕ
number_in text = digits_value 10 (without_leading_plus text)

-- these are the numbers in some texts, or there are none, since one of the texts isn't a number
abbrev pub ReadsNumbers : List Text → List ℕ → Type 0
ReadsNumbers texts numbers = (AllByRecursion IsNumber texts × (numbers ≡ map number_in texts))
    ⊎ ((¬ AllByRecursion IsNumber texts) × (numbers ≡ []))

-- the numbers in the value of an option, with commas between them
abbrev pub ReadsList : Option Text → Option (Vec ℕ Global) → Type 0
ReadsList None None = Unit {0}
ReadsList None (Some numbers) = ⊥
ReadsList (Some text) None = ⊥
ReadsList (Some text) (Some numbers) = ReadsNumbers (slice_split (λ byte. byte == 44) text) numbers.items

-- these are the options, if `clap` found these values
pub record OptionsIn (rows : List Row) (options : Options) : Type 0 where
  pub faults : string_bytes options.faults ≡ flat_map line_of (unwrap_or (all_of (codes "fault") rows) [])
  pub report : ReadsFlag (one_of (codes "report") rows) options.report
  pub workers : ReadsWorkers (one_of (codes "workers") rows) options.workers
  pub links : ReadsFlag (one_of (codes "links") rows) options.links
  pub silent : ReadsFlag (one_of (codes "silent") rows) options.silent
  pub lost : ReadsFlag (one_of (codes "lost") rows) options.lost
  pub late : ReadsList (first_of (codes "late") rows) options.late
  pub off : ReadsList (first_of (codes "off") rows) options.off
  pub restarts : ReadsList (first_of (codes "restarts") rows) options.restarts
  pub starts : ReadsList (first_of (codes "starts") rows) options.starts
  pub at_most : ReadsNumber 8 (one_of (codes "at-most") rows) options.at_most
  pub runs : ReadsNumber 64 (one_of (codes "runs") rows) options.runs

-- this is the request, if `clap` found these values
pub record AskedIn (rows : List Row) (asked : Asked) : Type 0 where
  pub options : OptionsIn rows asked.options
  pub scenario : asked.scenario.now ≡ unwrap_or (first_of (codes "SCENARIO") rows) []
  pub claims : option_map (λ s. s.now) asked.claims ≡ first_of (codes "CLAIMS") rows
  pub faults : option_map (λ s. s.now) asked.faults ≡ first_of (codes "faults") rows

-- the arguments, of which the first is the program's name, have no error, and ask for this
pub record AsksFor (words : List Text) (asked : Asked) : Type 0 where
  pub accepted : fault_of motecheck_app words ≡ []
  pub values : AskedIn (matches_of motecheck_app words) asked

-- the arguments, which name no files, have no error, and are these options
pub record AsksOptions (words : List Text) (options : Options) : Type 0 where
  pub accepted : fault_of options_app words ≡ []
  pub values : OptionsIn (matches_of options_app words) options

-- the reason why a command refuses the arguments, or that they ask for help; an allocation may fail for any arguments
abbrev pub FaultOf : App → (words : List Text) → ErrorKind → Type 0
FaultOf app words k = (k ≡ kind.OutOfMemory) ⊎ IsAmong k (fault_of app words)
