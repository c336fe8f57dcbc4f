-- The promises of the functions that read the parts of a scenario.
use Rattle.std.specs.Prelude.{◌≡◌, ℕ, List, Some, None, Result, Ok, Err, String, map, Vec}
use Rattle.std.specs.BTreeMap.{BTreeMap}
use Rattle.std.specs.declared.alloc.Global.{Global}
use Rattle.toml.specs.Data.{Members}
use Rattle.toml.specs.Parse.{parse_document}
use Rattle.toml.specs.View.{table_view}
use Rattle.toml.specs.declared.value.Value.{Value}
use Rattle.radio_medium.specs.Medium.{Radio, medium_fault}
use Rattle.net_scenario.specs.declared.error.ScenarioError.{ScenarioError}
use Rattle.net_scenario.specs.declared.error.ScenarioError.TheVariants.{Toml, Program, Medium, Memory}
use Rattle.mote_net.specs.declared.net.Net.{Net}
use Rattle.net_scenario.specs.Programs.{AllRead, FirstRefused, ProgramText}
use Rattle.mote_net.specs.Meaning.{net_of, named_tree}
use Rattle.net_scenario.specs.Reading.{IsNetOf, IsMediumFaultOf, IsRefusedProgramOf, TellsNet, TellsFault}
use Rattle.std.specs.Cmp.Lexicographic.{slice_cmp}
use Rattle.std.specs.List.Sorted.{IsStrictlySortedBy}
use Rattle.std.specs.Ordering.{nat_cmp}
use Rattle.program_tree.specs.Program.{tree_of}
use Rattle.program_tree.specs.Reading.{IsTreeOf, IsErrorOf}
use Rattle.mote_net.specs.declared.programs.NamedProgram.{NamedProgram}

-- the table of a text, unless memory ran out
abbrev pub Parses : List ℕ → Result (BTreeMap (String Global) Value) ScenarioError → Type 0
Parses text (Ok t) = parse_document text ≡ Some (table_view t)
Parses text (Err Toml) = parse_document text ≡ None
Parses text (Err Memory) = Unit {0}
Parses text (Err e) = ⊥

-- the medium with these data, or its fault, unless memory ran out
abbrev pub MakesRadio : Radio → Result Radio ScenarioError → Type 0
MakesRadio radio (Ok medium) = (medium ≡ radio) × (medium_fault radio ≡ None)
MakesRadio radio (Err (Medium e)) = medium_fault radio ≡ Some e
MakesRadio radio (Err Memory) = Unit {0}
MakesRadio radio (Err e) = ⊥

-- the net of a document without a fault, or the fault of its programs or its medium, unless memory ran out
abbrev pub MakesNet : Members → Result Net ScenarioError → Type 0
MakesNet top (Ok net) = IsNetOf top (net_of net)
MakesNet top (Err (Program name e)) = IsRefusedProgramOf top name e
MakesNet top (Err (Medium e)) = IsMediumFaultOf top e
MakesNet top (Err Memory) = Unit {0}
MakesNet top (Err e) = ⊥

-- the possible results for a text: its net, its first error, or out of memory
abbrev pub Answers : List ℕ → Result Net ScenarioError → Type 0
Answers text (Ok net) = TellsNet text (net_of net)
Answers text (Err Memory) = Unit {0}
Answers text (Err e) = TellsFault text e

-- programs in byte order of their names; each name only once
abbrev pub AreSortedByName : List NamedProgram → Type 0
AreSortedByName ps = IsStrictlySortedBy (slice_cmp nat_cmp) (map (λ p. p.name) ps)

-- all programs are read, or the first program that can't be read is reported, unless an allocation failed
abbrev pub ReadsPrograms : List ProgramText → Result (Vec NamedProgram Global) ScenarioError → Type 0
ReadsPrograms texts (Ok v) = AllRead texts (map named_tree v.items)
ReadsPrograms texts (Err (Program name e)) = FirstRefused texts name e
ReadsPrograms texts (Err Memory) = Unit {0}
ReadsPrograms texts (Err e) = ⊥

-- one program is read, or its fault is reported, unless an allocation failed
abbrev pub ReadsProgram : ProgramText → Result NamedProgram ScenarioError → Type 0
ReadsProgram p (Ok q) = (q.name ≡ p.name) × IsTreeOf p.text (tree_of q.program)
ReadsProgram p (Err (Program name e)) = (name ≡ p.name) × IsErrorOf p.text e.kind e.line
ReadsProgram p (Err Memory) = Unit {0}
ReadsProgram p (Err e) = ⊥
