-- The request or the error of a command line. `clap` finds matches or errors, and these determine the result.
use Rattle.std.specs.Prelude.{◌≡◌, ◌⊎◌, ℕ, pos, List, [], ◌∷◌, Option, Some, None}
use Rattle.std.specs.Prelude.{codes, map, option_map, if◌then◌else◌}
use Rattle.std.specs.Str.{bytes_eq}
use Rattle.std.specs.Str.Parse.{ParsesUnsigned, ExplainsUnsignedError, HasUnsignedDigitsIfOk}
use Rattle.std.specs.Borrow.{Bor}
use Rattle.clap.specs.Words.{App, Row, Rule, Text, IsAmong, fault_of, first_of, matches_of, new_app, new_rule}
use Rattle.clap.specs.Words.{ReadsOne, one_of, with_rule}
use Rattle.clap.specs.declared.builder.value_parser.ValueParser.TheVariants as parser
use Rattle.clap.specs.declared.error.kind.ErrorKind.{ErrorKind}
use Rattle.clap.specs.declared.error.kind.ErrorKind.TheVariants as kind
use Rattle.window_workers.specs.declared.sync.SyncKind.{SyncKind}
use Rattle.window_workers.specs.declared.sync.SyncKind.TheVariants as sync
use Rattle.simulation.specs.declared.command_line.Asked.{Asked}
use Rattle.simulation.specs.declared.options.CutKind.{CutKind}
use Rattle.simulation.specs.declared.options.CutKind.TheVariants as cut

-- `--workers N`, from 1 to 16
abbrev pub workers_rule : Rule
workers_rule = record (new_rule (codes "workers")) {
  long = Some (codes "workers");
  value_names = 1;
  parser = Some (parser.Signed (pos 1) (pos 16));
}

-- the static texts from which a value is chosen
abbrev pub Choices : Type 0
Choices = Bor (List (Bor Text))

-- an option with this name, which has one of these values, and the value `usual` by default
abbrev pub choice_rule : (name usual : Text) → Choices → Rule
choice_rule name usual choices = record (new_rule name) {
  long = Some name;
  value_names = 1;
  parser = Some (parser.Names choices);
  defaults = usual ∷ [];
}

-- the command as `clap` reads it
abbrev pub app_with : (cuts syncs : Choices) → App
app_with cuts syncs =
    with_rule (with_rule (with_rule (with_rule (new_app (codes "motesim")) workers_rule)
    (choice_rule (codes "cut") (codes "block") cuts)) (choice_rule (codes "sync") (codes "joins") syncs))
    (new_rule (codes "FILE"))

-- the command of `motesim`, with the names of the partitions and of the kinds of synchronisation
abbrev pub IsMotesim : App → Type 0
IsMotesim app = (cuts syncs : Choices) × (app ≡ app_with cuts syncs)
    × (map (λ s. s.now) cuts.now ≡ codes "block" ∷ codes "stripe" ∷ [])
    × (map (λ s. s.now) syncs.now ≡ codes "joins" ∷ codes "marks" ∷ [])

-- the partition with this name
abbrev pub cut_of : Option Text → CutKind
cut_of None = cut.Block
cut_of (Some name) = if bytes_eq name (codes "stripe") then cut.Stripe else cut.Block

-- the kind of synchronisation with this name
abbrev pub sync_of : Option Text → SyncKind
sync_of None = sync.Joins
sync_of (Some name) = if bytes_eq name (codes "marks") then sync.Marks else sync.Joins

-- the text of a number of workers reads as this number, or as none
abbrev pub ReadsCount : (text : List ℕ) → Option ℕ → Type 0
ReadsCount text count =
    ReadsOne
    (λ bytes r. ParsesUnsigned 16 10 bytes r × ExplainsUnsignedError 10 bytes r × HasUnsignedDigitsIfOk bytes r)
    text count

-- the number of workers in this text
abbrev pub ReadsWorkers : Option Text → Option ℕ → Type 0
ReadsWorkers None workers = workers ≡ None
ReadsWorkers (Some text) workers = ReadsCount text workers

-- this is the request, if `clap` found these values
pub record AskedIn (rows : List Row) (asked : Asked) : Type 0 where
  pub file : option_map (λ s. s.now) asked.file ≡ first_of (codes "FILE") rows
  pub workers : ReadsWorkers (one_of (codes "workers") rows) asked.options.workers
  pub cut : asked.options.cut ≡ cut_of (first_of (codes "cut") rows)
  pub sync : asked.options.sync ≡ sync_of (first_of (codes "sync") rows)

-- the arguments, of which the first is the program's name, have no error, and ask for this
pub record AsksFor (words : List Text) (asked : Asked) : Type 0 where
  pub app : App
  pub is : IsMotesim app
  pub accepted : fault_of app words ≡ []
  pub values : AskedIn (matches_of app words) asked

-- the arguments have an error of this kind, or ask for help
pub record HasFault (words : List Text) (k : ErrorKind) : Type 0 where
  pub app : App
  pub is : IsMotesim app
  pub among : IsAmong k (fault_of app words)

-- the reason why the arguments are refused; an allocation may fail for any arguments
abbrev pub FaultOf : (words : List Text) → ErrorKind → Type 0
FaultOf words k = (k ≡ kind.OutOfMemory) ⊎ HasFault words k

-- the texts of the arguments
abbrev pub texts_of : List (Bor Text) → List Text
texts_of words = map (λ s. s.now) words
