-- Tables and arrays in the code, and the data that they represent.
use Rattle.std.proofs.Common.{◌≡◌, ℕ, Bool, ◌&&◌, ◌||◌, nat_le, List, [], ◌∷◌, map, length, is_some, is_none, not}
use Rattle.std.proofs.Common.{cond, true, false, Some, None, BTreeMap, if◌then◌else◌, String, Global, string_bytes}
use Rattle.std.proofs.Common.{refl, ap, arith}
use Rattle.std.specs.List.{list_any, list_all}
use Rattle.std.specs.Map.{keys_of, values_of}
use Rattle.net_scenario.specs.Limits.{most_programs}
use Rattle.net_scenario.specs.Names.{is_program_name, values_any, members_len, names_fault, queue_length, lengths_fault}
use Rattle.toml.specs.Data.{Data, Members, no_members, get_member, as_table, as_str}
use Rattle.toml.specs.View.{view, items_view, members_view}
use Rattle.toml.specs.declared.value.Value.{Value}
use Rattle.toml.proofs.Views.{Entry}
use Rattle.net_scenario.specs.declared.version.Version.{Version}
use Rattle.net_scenario.specs.Document.{queue_fault}
use Rattle.net_scenario.specs.Rules.{Rule, has_come, known_in, has_kind, is_in_range, misses}
use Rattle.net_scenario.specs.Checks.{rule_of}
use Rattle.net_scenario.specs.Rules.{holds_other_kind, holds_out_of_range, keys_fault, are_tables, items_len}
use Rattle.net_scenario.specs.Rules.{members_any}
use Rattle.std.specs.Str.{bytes_eq}
use Rattle.toml.specs.View.{table_view}
use Rattle.net_scenario.specs.declared.rules.Key.{Key}
use Rattle.net_scenario.specs.declared.error.TableFault.TheVariants.{MissingKey, UnknownKey, WrongKind, OutOfRange}
use Rattle.net_scenario.specs.declared.error.TableFault.TheVariants.{UnknownProgram}

pub are_tables_view : (vs : List Value) → are_tables (items_view vs) ≡ list_all (λ v. is_some (as_table (view v))) vs
are_tables_view [] = refl
are_tables_view (v ∷ vs) = ap (λ b. is_some (as_table (view v)) && b) (are_tables_view vs)

pub items_len_view : (vs : List Value) → items_len (items_view vs) ≡ length vs
items_len_view [] = refl
items_len_view (v ∷ vs) = omega (arith, items_len_view vs)

pub members_any_view : (p : List ℕ → Bool) (es : List Entry) → members_any p (members_view es)
    ≡ list_any (λ k. p (string_bytes k)) (keys_of es)
members_any_view p [] = refl
members_any_view p (e ∷ es) = ap (λ b. p (string_bytes e.0) || b) (members_any_view p es)

known_first : (b c : Bool) (r : Rule) (rs : List Rule) (p : Rule → Bool) (rest : Bool) → p r ≡ c → list_any p rs ≡ rest
    → list_any p (cond b (r ∷ rs) rs) ≡ ((b && c) || rest)
known_first true c r rs p rest e h = rw (e, h) refl
known_first false c r rs p rest e h = h

-- a test of the rules that a version knows
pub list_any_known : (version : Version) (p : Rule → Bool) (ks : List Key)
    → list_any p (known_in version (map rule_of ks)) ≡ list_any (λ k. has_come k.since version && p (rule_of k)) ks
list_any_known version p [] = refl
list_any_known version p (k ∷ ks) = known_first (has_come k.since version) (p (rule_of k)) (rule_of k) _ p _ refl
    (list_any_known version p ks)

-- the fault of a table, found by the tests in the code
pub keys_fault_of : (version : Version) (ks : List Key) (m : BTreeMap (String Global) Value)
    → keys_fault (known_in version (map rule_of ks)) (table_view m) ≡
    (if list_any (λ k. has_come k.since version && misses (table_view m) (rule_of k)) ks then Some MissingKey
    else if list_any (λ n. not (list_any (λ k. has_come k.since version && bytes_eq k.name.now (string_bytes n)) ks))
    (keys_of m.entries) then Some UnknownKey
    else if list_any (λ k. has_come k.since version && holds_other_kind (table_view m) (rule_of k)) ks then
    Some WrongKind
    else if list_any (λ k. has_come k.since version && holds_out_of_range (table_view m) (rule_of k)) ks then
    Some OutOfRange
    else None)
unfolding keys_fault
keys_fault_of version ks m = simp (list_any_known, members_any_view)

pub values_any_view : (p : Data → Bool) (es : List Entry) → values_any p (members_view es) ≡ list_any (λ v. p (view v))
    (values_of es)
values_any_view p [] = refl
values_any_view p (e ∷ es) = ap (λ b. p (view e.1) || b) (values_any_view p es)

pub members_len_view : (es : List Entry) → members_len (members_view es) ≡ length es
members_len_view [] = refl
members_len_view (e ∷ es) = omega (arith, members_len_view es)

-- the fault of the table of programs, found by the tests in the code
pub names_fault_of : (m : BTreeMap (String Global) Value) → names_fault (table_view m) ≡
    (if list_any (λ k. not (is_program_name (string_bytes k))) (keys_of m.entries) then Some UnknownKey
    else if list_any (λ v. not (is_some (as_str (view v)))) (values_of m.entries) then Some WrongKind
    else if not (nat_le (length m.entries) most_programs) then Some OutOfRange
    else None)
unfolding names_fault
names_fault_of m = simp (members_any_view, values_any_view, members_len_view)

-- the fault of the table of lengths, found by the tests in the code
pub lengths_fault_of : (m : BTreeMap (String Global) Value) → lengths_fault (table_view m) ≡
    (if list_any (λ v. not (has_kind queue_length (view v))) (values_of m.entries) then Some WrongKind
    else if list_any (λ v. not (is_in_range queue_length (view v))) (values_of m.entries) then Some OutOfRange
    else None)
unfolding lengths_fault
lengths_fault_of m = simp (values_any_view)

pub lengths_fault_of_none : lengths_fault no_members ≡ None
unfolding lengths_fault
lengths_fault_of_none = refl

-- the fault of the names of lengths, found by the test in the code
pub queue_fault_of : (programs : Members) (m : BTreeMap (String Global) Value) → queue_fault programs (table_view m) ≡
    (if list_any (λ k. is_none (get_member (string_bytes k) programs)) (keys_of m.entries) then
    Some UnknownProgram else None)
queue_fault_of programs m = simp (members_any_view)
