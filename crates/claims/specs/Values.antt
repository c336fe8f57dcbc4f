-- The values of lines, in the order of the moments.
use Rattle.std.specs.Prelude.{ℕ, Bool, ◌&&◌, ◌||◌, ◌==◌, not, nat_lt, length, count_by, Option, Some, List}
use Rattle.std.specs.List.{list_all, list_any, enumerate_from}
use Rattle.claims.specs.declared.trace.Found.{Found}
use Rattle.claims.specs.declared.set.Set.{Set}
use Rattle.claims.specs.Sets.{wants, is_this}
use Rattle.claims.specs.Whats.{said_by}

-- The order of the lines of several motes: a is earlier than b if its moment is; at the same moment, if its mote has the
-- lower number; and in the same trace, if it is further up.
abbrev pub is_earlier : Found → Found → Bool
is_earlier a b = nat_lt a.line.at b.line.at
    || (a.line.at == b.line.at && (nat_lt a.mote b.mote || (a.mote == b.mote && nat_lt a.place b.place)))

abbrev pub value_of : Found → Option ℕ
value_of f = (said_by f.line.what).value

abbrev pub has_value : Set → Found → Bool
has_value s f = wants (Some s) (value_of f)

-- the line has a value in the set, and so many of the lines are earlier
abbrev pub is_such : List Found → ℕ → Set → Found → Bool
is_such ls i s f = has_value s f && (count_by (λ e. is_earlier e f) ls == i)

-- one of the lines is such a line
abbrev pub is_there : List Found → ℕ → Set → Bool
is_there ls i s = list_any (is_such ls i s) ls

-- as many lines as sets, and the value of each line is in the set at the same place
abbrev pub have_values : List Set → List Found → Bool
have_values ss ls = (length ss == length ls) && list_all (λ e. is_there ls e.0 e.1) (enumerate_from 0 ss)

abbrev pub is_value : ℕ → Found → Bool
is_value v f = is_this v (value_of f)

-- as many lines have this value as the list has it
abbrev pub is_as_often : List ℕ → List Found → ℕ → Bool
is_as_often vs ls v = count_by (is_value v) ls == count_by (λ w. w == v) vs

-- as many lines as values, and each value of the list as often as the list has it
abbrev pub have_in_any_order : List ℕ → List Found → Bool
have_in_any_order vs ls = (length vs == length ls) && list_all (is_as_often vs ls) vs

abbrev pub is_last : List Found → Found → Bool
is_last ls f = not (list_any (is_earlier f) ls)

-- the line has a value in the set, and is the last line
abbrev pub ends_in : Set → List Found → Found → Bool
ends_in s ls f = has_value s f && is_last ls f

-- there is a last line, and its value is in the set
abbrev pub last_has : Set → List Found → Bool
last_has s ls = list_any (ends_in s ls) ls
