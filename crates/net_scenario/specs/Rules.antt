-- The keys of each table, and the first error that is found when a table is checked against its keys.
use Rattle.std.specs.Prelude.{◌+◌, ℕ, pos, neg_ℤ, Bool, true, false, not, ◌&&◌, ◌||◌, nat_le, List, [], ◌∷◌, codes}
use Rattle.std.specs.Prelude.{Option, Some, None, is_none, is_some, if◌then◌else◌}
use Rattle.std.specs.List.{filter, list_any}
use Rattle.std.specs.Option.{option_map_or}
use Rattle.std.specs.Int.Signed.{le_z}
use Rattle.std.specs.Str.{bytes_eq}
use Rattle.toml.specs.Data.{Data, Items, no_items, item, Members, no_members, member, get_member, as_integer, as_bool}
use Rattle.toml.specs.Data.{as_str, as_table, as_array}
use Rattle.net_scenario.specs.declared.version.Version.{Version}
use Rattle.net_scenario.specs.declared.version.Version.TheVariants.{First, Second}
use Rattle.net_scenario.specs.declared.rules.KeyKind.{KeyKind}
use Rattle.net_scenario.specs.declared.rules.KeyKind.TheVariants.{Number, Boolean, Text, Table, Tables}
use Rattle.net_scenario.specs.declared.error.TableFault.{TableFault}
use Rattle.net_scenario.specs.declared.error.TableFault.TheVariants.{MissingKey, UnknownKey, WrongKind, OutOfRange}
use Rattle.mote_net.specs.Limits.{fewest_motes, most_motes, latest_end}
use Rattle.net_scenario.specs.Limits.{most_losses, farthest, widest_range, largest_base_or_per, largest_in_loss}

-- one key of a table, and the version that introduced it
pub record Rule : Type 0 where
  pub since : Version
  pub name : List ℕ
  pub kind : KeyKind
  pub is_needed : Bool

abbrev pub needed : Version → List ℕ → KeyKind → Rule
needed since name kind = record { since = since; name = name; kind = kind; is_needed = true }

abbrev pub optional : Version → List ℕ → KeyKind → Rule
optional since name kind = record { since = since; name = name; kind = kind; is_needed = false }

-- version `now` has a key that version `since` introduced
abbrev pub has_come : (since now : Version) → Bool
has_come First now = true
has_come Second First = false
has_come Second Second = true

-- the rules that a version knows
abbrev pub known_in : Version → List Rule → List Rule
known_in now rules = filter (λ r. has_come r.since now) rules

-- a whole number from 0 to a limit
abbrev pub number_up_to : ℕ → KeyKind
number_up_to high = Number (pos 0) (pos high)

abbrev pub top_rules : List Rule
top_rules =
    needed First (codes "version") (Number (pos 1) (pos 2))
    ∷ needed First (codes "end") (number_up_to latest_end)
    ∷ needed First (codes "medium") Table
    ∷ needed First (codes "programs") Table
    ∷ needed First (codes "mote") (Tables fewest_motes most_motes)
    ∷ optional First (codes "loss") (Tables 0 most_losses)
    ∷ optional Second (codes "queue") Table
    ∷ []

abbrev pub medium_rules : List Rule
medium_rules =
    needed First (codes "range") (number_up_to widest_range)
    ∷ needed First (codes "base") (number_up_to largest_base_or_per)
    ∷ needed First (codes "per") (number_up_to largest_base_or_per)
    ∷ needed Second (codes "collide") Boolean
    ∷ []

abbrev pub loss_rules : List Rule
loss_rules =
    needed First (codes "from") (number_up_to largest_in_loss)
    ∷ needed First (codes "to") (number_up_to largest_in_loss)
    ∷ needed First (codes "every") (number_up_to largest_in_loss)
    ∷ []

abbrev pub mote_rules : List Rule
mote_rules =
    needed First (codes "x") (Number (neg_ℤ (pos farthest)) (pos farthest))
    ∷ needed First (codes "y") (Number (neg_ℤ (pos farthest)) (pos farthest))
    ∷ needed First (codes "program") Text
    ∷ []

-- the items are all tables
abbrev pub are_tables : Items → Bool
are_tables no_items = true
are_tables (item d ds) = is_some (as_table d) && are_tables ds

abbrev pub items_len : Items → ℕ
items_len no_items = 0
items_len (item d ds) = items_len ds + 1

abbrev pub has_kind : KeyKind → Data → Bool
has_kind (Number low high) d = is_some (as_integer d)
has_kind Boolean d = is_some (as_bool d)
has_kind Text d = is_some (as_str d)
has_kind Table d = is_some (as_table d)
has_kind (Tables low high) d = option_map_or are_tables (as_array d) false

-- a value is within its range; a value without a range is in range
abbrev pub is_in_range : KeyKind → Data → Bool
is_in_range (Number low high) d = option_map_or (λ z. le_z low z && le_z z high) (as_integer d) true
is_in_range Boolean d = true
is_in_range Text d = true
is_in_range Table d = true
is_in_range (Tables low high) d =
    option_map_or (λ ds. nat_le low (items_len ds) && nat_le (items_len ds) high) (as_array d) true

-- a key of the members passes the test
abbrev pub members_any : (List ℕ → Bool) → Members → Bool
members_any test no_members = false
members_any test (member k d ms) = test k || members_any test ms

abbrev pub is_named : List Rule → List ℕ → Bool
is_named rules k = list_any (λ r. bytes_eq r.name k) rules

abbrev pub misses : Members → Rule → Bool
misses ms r = r.is_needed && is_none (get_member r.name ms)

abbrev pub holds_other_kind : Members → Rule → Bool
holds_other_kind ms r = option_map_or (λ d. not (has_kind r.kind d)) (get_member r.name ms) false

abbrev pub holds_out_of_range : Members → Rule → Bool
holds_out_of_range ms r = option_map_or (λ d. not (is_in_range r.kind d)) (get_member r.name ms) false

-- the first fault of a table with these keys
unfoldable pub keys_fault : List Rule → Members → Option TableFault
keys_fault rules ms =
    if list_any (misses ms) rules then Some MissingKey
    else if members_any (λ k. not (is_named rules k)) ms then Some UnknownKey
    else if list_any (holds_other_kind ms) rules then Some WrongKind
    else if list_any (holds_out_of_range ms) rules then Some OutOfRange
    else None
