-- Each text describes a net or has a fault.
use Rattle.std.proofs.Common.{◌≡◌, ◌⊎◌, ℕ, Bool, true, false, if◌then◌else◌, List, [], ◌∷◌, length, nat_lt, codes}
use Rattle.std.proofs.Common.{refl, ap, inl, inr, Option, Some, None, Ok, Err}
use Rattle.std.specs.Option.{option_map_or}
use Rattle.toml.specs.Data.{Members}
use Rattle.toml.specs.Parse.{parse_document}
use Rattle.program_tree.specs.Code.{Tree}
use Rattle.program_tree.specs.Reading.{IsTreeOf, IsErrorOf}
use Rattle.program_tree.specs.ReadingLaws.{HasTreeOrFault}
use Rattle.program_tree.specs.declared.error.ReadError.{ReadError}
use Rattle.program_tree.specs.declared.error.ReadErrorKind.{ReadErrorKind}
use Rattle.radio_medium.specs.Medium.{medium_fault}
use Rattle.radio_medium.specs.declared.error.MediumError.{MediumError}
use Rattle.net_scenario.specs.declared.error.ScenarioError.{ScenarioError}
use Rattle.net_scenario.specs.declared.error.ScenarioError.TheVariants.{Toml, OutOfRange, Program, Medium}
use Rattle.net_scenario.specs.declared.error.TableFault.{TableFault}
use Rattle.net_scenario.specs.declared.error.TableFault.TheVariants as table
use Rattle.net_scenario.specs.Limits.{longest_text}
use Rattle.net_scenario.specs.Errors.{of_table}
use Rattle.net_scenario.specs.Document.{table_at, document_fault}
use Rattle.mote_net.specs.Programs.{NamedTree}
use Rattle.net_scenario.specs.Programs.{ProgramText, program_texts, AllRead, FirstRefused}
use Rattle.mote_net.specs.Net.{NetModel}
use Rattle.net_scenario.specs.Net.{net_in, radio_in}
use Rattle.net_scenario.specs.Reading.{Document, document_of, faultless, HasTrees, TellsNet, TellsFault}
use Rattle.net_scenario.specs.Laws.{NetOrFault}

-- the texts of some programs are all read, or one of them is the first that can't be read
abbrev Reads : List ProgramText → Type 0
Reads ps = ((trees : List NamedTree) × AllRead ps trees) ⊎ ((name : List ℕ) × (e : ReadError) × FirstRefused ps name e)

read_on : (p : ProgramText) (ps : List ProgramText) (t : Tree) → IsTreeOf p.text t → Reads ps → Reads (p ∷ ps)
read_on p ps t is (inl r) = inl (record { name = p.name; tree = t } ∷ r.0, (refl, is, r.1))
read_on p ps t is (inr (name, e, m)) = inr (
  name,
  e,
  record {
    before = p ∷ m.before;
    text = m.text;
    after = m.after;
    trees = record { name = p.name; tree = t } ∷ m.trees;
    split = ap (λ l. p ∷ l) m.split;
    read = (refl, is, m.read);
    matches = m.matches;
  },
)

read_one : (p : ProgramText) (ps : List ProgramText) → Reads ps → ((t : Tree) × IsTreeOf p.text t)
    ⊎ ((kind : ReadErrorKind) × (line : ℕ) × IsErrorOf p.text kind line) → Reads (p ∷ ps)
read_one p ps rest (inl (t, is)) = read_on p ps t is rest
read_one p ps rest (inr (kind, line, matches)) =
    inr (
      p.name,
      record { kind = kind; line = line },
      record {
        before = [];
        text = p.text;
        after = ps;
        trees = [];
        split = refl;
        read = tt;
        matches = matches;
      },
    )

read_all : ((text : List ℕ) → HasTreeOrFault text) → (ps : List ProgramText) → Reads ps
read_all each [] = inl ([], tt)
read_all each (p ∷ ps) = read_one p ps (read_all each ps) (each p.text).one

-- a text describes a net or has a fault
abbrev Tells : List ℕ → Type 0
Tells text = ((n : NetModel) × TellsNet text n) ⊎ ((e : ScenarioError) × TellsFault text e)

by_medium : (text : List ℕ) (d : Document text) (trees : HasTrees d.top) (fault : Option MediumError)
    → medium_fault (radio_in d.top) ≡ fault → Tells text
by_medium text d trees None e = inl (
  net_in d.top trees.trees,
  (d, record { programs = trees; medium = e; matches = refl }),
)
by_medium text d trees (Some fault) e = inr (Medium fault, (d, record { programs = trees; medium = e }))

by_programs : (text : List ℕ) (d : Document text) → Reads (program_texts (table_at (codes "programs") d.top)) → Tells text
by_programs text d (inl (trees, read)) = by_medium text d (record { trees = trees; read = read })
    (medium_fault (radio_in d.top)) refl
by_programs text d (inr (name, e, refused)) = inr (Program name e, (d, refused))

table_reported : (text : List ℕ) (f : TableFault) → document_of text ≡ Err (of_table f) → TellsFault text (of_table f)
table_reported text table.MissingKey e = e
table_reported text table.UnknownKey e = e
table_reported text table.WrongKind e = e
table_reported text table.OutOfRange e = e
table_reported text table.UnknownProgram e = e

module _ (each : (text : List ℕ) → HasTreeOrFault text) where
  by_tables : (text : List ℕ) (top : Members) (fault : Option TableFault)
      → document_of text ≡ option_map_or (λ f. Err (of_table f)) fault (Ok top) → Tells text
  by_tables text top None e = let d : Document text = record { top = top; is = e } in
      by_programs text d (read_all each (program_texts (table_at (codes "programs") top)))
  by_tables text top (Some f) e = inr (of_table f, table_reported text f e)

  by_parse : (text : List ℕ) (parsed : Option Members) → document_of text ≡ faultless parsed → Tells text
  by_parse text None e = inr (Toml, e)
  by_parse text (Some top) e = by_tables text top (document_fault top) e

  by_length : (text : List ℕ) (too_long : Bool)
      → document_of text ≡ (if too_long then Err OutOfRange else faultless (parse_document text)) → Tells text
  by_length text true e = inr (OutOfRange, e)
  by_length text false e = by_parse text (parse_document text) e

pub net_or_fault : ((text : List ℕ) → HasTreeOrFault text) → NetOrFault
net_or_fault each text = by_length each text (nat_lt longest_text (length text)) refl
