-- The meaning of a text: a net, or its first error.
use Rattle.std.specs.Prelude.{◌≡◌, ℕ, nat_lt, List, length, codes, Option, Some, None, if◌then◌else◌, Result, Ok, Err}
use Rattle.std.specs.Option.{option_map_or}
use Rattle.toml.specs.Data.{Members}
use Rattle.toml.specs.Parse.{parse_document}
use Rattle.program_tree.specs.declared.error.ReadError.{ReadError}
use Rattle.radio_medium.specs.Medium.{medium_fault}
use Rattle.radio_medium.specs.declared.error.MediumError.{MediumError}
use Rattle.net_scenario.specs.declared.error.ScenarioError.{ScenarioError}
use Rattle.net_scenario.specs.declared.error.ScenarioError.TheVariants.{Toml, OutOfRange, Program, Medium, Memory}
use Rattle.net_scenario.specs.Limits.{longest_text}
use Rattle.net_scenario.specs.Errors.{of_table}
use Rattle.net_scenario.specs.Document.{table_at, document_fault}
use Rattle.mote_net.specs.Programs.{NamedTree}
use Rattle.net_scenario.specs.Programs.{program_texts, AllRead, FirstRefused}
use Rattle.mote_net.specs.Net.{NetModel}
use Rattle.net_scenario.specs.Net.{net_in, radio_in}

-- a table without a fault, or the first fault of a table
abbrev pub faultless : Option Members → Result Members ScenarioError
faultless None = Err Toml
faultless (Some top) = option_map_or (λ f. Err (of_table f)) (document_fault top) (Ok top)

-- the document of a text, or the first fault of the text and its tables: the text is too long, it isn't TOML, or a
-- table doesn't keep its rules
abbrev pub document_of : List ℕ → Result Members ScenarioError
document_of text = if nat_lt longest_text (length text) then Err OutOfRange else faultless (parse_document text)

-- a text that has a document without a fault
pub record Document (text : List ℕ) : Type 0 where
  pub top : Members
  pub is : document_of text ≡ Ok top

-- trees whose texts are the texts of a document's programs
pub record HasTrees (top : Members) : Type 0 where
  pub trees : List NamedTree
  pub read : AllRead (program_texts (table_at (codes "programs") top)) trees

-- all programs of the document can be read, and its medium has no fault; this is its net
pub record IsNetOf (top : Members) (net : NetModel) : Type 0 where
  pub programs : HasTrees top
  pub medium : medium_fault (radio_in top) ≡ None
  pub matches : net ≡ net_in top programs.trees

-- all programs of the document can be read, and this is the fault of its medium
pub record IsMediumFaultOf (top : Members) (error : MediumError) : Type 0 where
  pub programs : HasTrees top
  pub medium : medium_fault (radio_in top) ≡ Some error

-- the first program of the document that can't be read
abbrev pub IsRefusedProgramOf : Members → List ℕ → ReadError → Type 0
IsRefusedProgramOf top name error = FirstRefused (program_texts (table_at (codes "programs") top)) name error

-- the text describes this net
abbrev pub TellsNet : List ℕ → NetModel → Type 0
TellsNet text net = (d : Document text) × IsNetOf d.top net

-- this is the first fault of the text
abbrev pub TellsFault : List ℕ → ScenarioError → Type 0
TellsFault text (Program name e) = (d : Document text) × IsRefusedProgramOf d.top name e
TellsFault text (Medium e) = (d : Document text) × IsMediumFaultOf d.top e
TellsFault text Memory = ⊥
TellsFault text e = document_of text ≡ Err e
