-- A document: its tables, in the order in which their errors are reported, and their contents.
use Rattle.std.specs.Prelude.{◌≡◌, ℕ, ℤ, pos, negsuc, ◌≤ℤ◌, List, [], ◌∷◌, ◌++◌, map, codes, Option, Some, None, String}
use Rattle.std.specs.Prelude.{option_map, Bool, false, is_none, option_and_then, unwrap_or, if◌then◌else◌}
use Rattle.std.specs.BTreeMap.{BTreeMap}
use Rattle.std.specs.Borrow.{Bor}
use Rattle.std.specs.Ordering.{int_eq}
use Rattle.std.specs.Option.{option_or, option_map_or}
use Rattle.std.specs.declared.alloc.Global.{Global}
use Rattle.toml.specs.View.{table_view}
use Rattle.toml.specs.declared.value.Value.{Value}
use Rattle.toml.specs.Data.{integer, table, Items, no_items, item, Members, no_members, get_member, as_integer, as_bool}
use Rattle.toml.specs.Data.{as_str, as_table, as_array}
use Rattle.net_scenario.specs.declared.error.TableFault.{TableFault}
use Rattle.net_scenario.specs.declared.error.TableFault.TheVariants.{UnknownProgram}
use Rattle.net_scenario.specs.declared.version.Version.{Version}
use Rattle.net_scenario.specs.declared.version.Version.TheVariants.{First, Second}
use Rattle.net_scenario.specs.Rules.{Rule, keys_fault, known_in, members_any, top_rules, medium_rules, loss_rules}
use Rattle.net_scenario.specs.Rules.{mote_rules}
use Rattle.net_scenario.specs.Names.{names_fault, lengths_fault}

abbrev pub integer_at : List ℕ → Members → Option ℤ
integer_at name ms = option_and_then as_integer (get_member name ms)

-- the flag at a key; false if there is none
abbrev pub boolean_at : List ℕ → Members → Bool
boolean_at name ms = unwrap_or (option_and_then as_bool (get_member name ms)) false

-- the text at a key; empty if there is none
abbrev pub text_at : List ℕ → Members → List ℕ
text_at name ms = unwrap_or (option_and_then as_str (get_member name ms)) []

-- the table at a key; empty if there is none
abbrev pub table_at : List ℕ → Members → Members
table_at name ms = unwrap_or (option_and_then as_table (get_member name ms)) no_members

-- the members of an optional table; none if the table is missing
abbrev pub members_of : Option (Bor (BTreeMap (String Global) Value)) → Members
members_of held = unwrap_or (option_map (λ t. table_view t.now) held) no_members

-- the items of the array at a key; none if there is no array
abbrev pub items_at : List ℕ → Members → Items
items_at name ms = unwrap_or (option_and_then as_array (get_member name ms)) no_items

-- the tables among the items
abbrev pub tables_in : Items → List Members
tables_in no_items = []
tables_in (item d ds) = option_map_or (λ ms. ms ∷ tables_in ds) (as_table d) (tables_in ds)

-- the tables of the array at a key
abbrev pub tables_at : List ℕ → Members → List Members
tables_at name ms = tables_in (items_at name ms)

abbrev pub first_some : {X Y : Type 0} → (X → Option Y) → List X → Option Y
first_some f [] = None
first_some f (x ∷ xs) = option_or (f x) (first_some f xs)

-- the version of a document: the second if its number is 2
abbrev pub version_of : Members → Version
version_of top = if option_map_or (int_eq (pos 2)) (integer_at (codes "version") top) false then Second else First

-- the keys of a table: the keys of these rules, names of programs, or names of programs with lengths of queues
pub data Keys : Type 0 where
  ruled : List Rule → Keys
  program_names : Keys
  queue_lengths : Keys

abbrev pub table_fault : Version → Keys → Members → Option TableFault
table_fault version (ruled rules) ms = keys_fault (known_in version rules) ms
table_fault version program_names ms = names_fault ms
table_fault version queue_lengths ms = lengths_fault ms

-- the tables of a document in their order, each with its keys
abbrev pub tables_of : Members → List (Keys × Members)
tables_of top =
    (ruled top_rules, top)
    ∷ (ruled medium_rules, table_at (codes "medium") top)
    ∷ map (λ ms. (ruled loss_rules, ms)) (tables_at (codes "loss") top)
    ++ (program_names, table_at (codes "programs") top)
    ∷ (queue_lengths, table_at (codes "queue") top)
    ∷ map (λ ms. (ruled mote_rules, ms)) (tables_at (codes "mote") top)

-- the fault of a table of queues: it has a length for a name that no program has
abbrev pub queue_fault : (programs queue : Members) → Option TableFault
queue_fault programs queue =
    if members_any (λ k. is_none (get_member k programs)) queue then Some UnknownProgram else None

-- the fault of a mote: its program isn't among the programs
abbrev pub program_fault : (programs mote : Members) → Option TableFault
program_fault programs mote =
    if is_none (get_member (text_at (codes "program") mote) programs) then Some UnknownProgram else None

-- the first fault of a document: first the faults of its tables, one table after another; then, in `queue` or a mote,
-- the name of a program that doesn't exist
unfoldable pub document_fault : Members → Option TableFault
document_fault top =
    option_or
    (first_some (λ t. table_fault (version_of top) t.0 t.1) (tables_of top))
    (option_or
    (queue_fault (table_at (codes "programs") top) (table_at (codes "queue") top))
    (first_some (program_fault (table_at (codes "programs") top)) (tables_at (codes "mote") top)))

-- the value at a key is a whole number from `low` to `high`
pub record HoldsNumber (low high : ℤ) (name : List ℕ) (ms : Members) : Type 0 where
  pub value : ℤ
  pub held : get_member name ms ≡ Some (integer value)
  pub above : low ≤ℤ value
  pub below : value ≤ℤ high

-- the value at a key is a table
pub record HoldsTable (name : List ℕ) (ms : Members) : Type 0 where
  pub inner : Members
  pub held : get_member name ms ≡ Some (table inner)

abbrev pub natural : ℤ → ℕ
natural (pos n) = n
natural (negsuc n) = 0

-- the number at a key; 0 if there is none
abbrev pub number_at : List ℕ → Members → ℤ
number_at name ms = unwrap_or (integer_at name ms) (pos 0)

abbrev pub natural_at : List ℕ → Members → ℕ
natural_at name ms = natural (number_at name ms)
