-- The tables whose keys are names of programs: the texts of the programs, and the lengths of their queues.
use Rattle.std.specs.Prelude.{◌==◌, ◌+◌, ◌&&◌, ◌||◌, ℕ, pos, Bool, false, not, nat_le, List, length, Option, Some, None}
use Rattle.std.specs.Prelude.{is_some, if◌then◌else◌}
use Rattle.std.specs.List.{list_all}
use Rattle.toml.specs.Data.{Data, Members, no_members, member, as_str}
use Rattle.net_scenario.specs.declared.error.TableFault.{TableFault}
use Rattle.net_scenario.specs.declared.error.TableFault.TheVariants.{UnknownKey, WrongKind, OutOfRange}
use Rattle.net_scenario.specs.declared.rules.KeyKind.{KeyKind}
use Rattle.net_scenario.specs.declared.rules.KeyKind.TheVariants.{Number}
use Rattle.mote_net.specs.Limits.{shortest_queue, longest_queue}
use Rattle.net_scenario.specs.Limits.{most_programs, longest_name}
use Rattle.net_scenario.specs.Rules.{has_kind, is_in_range, members_any}

abbrev pub is_between : ℕ → ℕ → ℕ → Bool
is_between low high c = nat_le low c && nat_le c high

-- a byte of `A-Z a-z 0-9 _ -`
abbrev pub is_name_byte : ℕ → Bool
is_name_byte c = is_between 65 90 c || is_between 97 122 c || is_between 48 57 c || c == 95 || c == 45

abbrev pub is_program_name : List ℕ → Bool
is_program_name bs = is_between 1 longest_name (length bs) && list_all is_name_byte bs

abbrev pub values_any : (Data → Bool) → Members → Bool
values_any test no_members = false
values_any test (member k d ms) = test d || values_any test ms

abbrev pub members_len : Members → ℕ
members_len no_members = 0
members_len (member k d ms) = members_len ms + 1

unfoldable pub names_fault : Members → Option TableFault
names_fault ms =
    if members_any (λ k. not (is_program_name k)) ms then Some UnknownKey
    else if values_any (λ d. not (is_some (as_str d))) ms then Some WrongKind
    else if not (nat_le (members_len ms) most_programs) then Some OutOfRange
    else None

-- the kind of value that is the length of an event queue
abbrev pub queue_length : KeyKind
queue_length = Number (pos shortest_queue) (pos longest_queue)

unfoldable pub lengths_fault : Members → Option TableFault
lengths_fault ms =
    if values_any (λ d. not (has_kind queue_length d)) ms then Some WrongKind
    else if values_any (λ d. not (is_in_range queue_length d)) ms then Some OutOfRange
    else None
