-- The names in scope, with their numbers.
use Rattle.std.specs.Prelude.{ℕ, ◌+◌, ◌-◌, List, [], ◌∷◌, ◌++◌, length, Bool, ◌||◌, Option, Some, None, is_some}
use Rattle.std.specs.Prelude.{slice_index_or, position}
use Rattle.program_tree.specs.Shapes.{Name}
use Rattle.program_tree.specs.Tree.{Class, an_event, a_semaphore, a_process, a_variable, a_timer, a_thread}
use Rattle.std.specs.Str.{bytes_eq}

-- the place of a name on this list, if the name is on it
unfoldable pub place_in_names : List (List ℕ) → List ℕ → Option ℕ
place_in_names names x = position (λ y. bytes_eq x y) names

-- Each list is in the order of declaration. Variables, timers and threads are those of one code; `first_timer` is the
-- number of timers that the program has before them.
pub record NamesInScope : Type 0 where
  pub events : List Name
  pub semaphores : List Name
  pub processes : List Name
  pub variables : List Name
  pub first_timer : ℕ
  pub timers : List Name
  pub threads : List Name

-- no name is in scope, and the program has no timer yet
abbrev pub no_names : NamesInScope
no_names = record {
  events = [];
  semaphores = [];
  processes = [];
  variables = [];
  first_timer = 0;
  timers = [];
  threads = [];
}

-- the names of a class
abbrev pub names_of : NamesInScope → Class → List Name
names_of n an_event = n.events
names_of n a_semaphore = n.semaphores
names_of n a_process = n.processes
names_of n a_variable = n.variables
names_of n a_timer = n.timers
names_of n a_thread = n.threads

-- the names in scope after one more declaration
abbrev pub with_new : NamesInScope → Class → Name → NamesInScope
with_new n an_event x = record n { events = n.events ++ x ∷ [] }
with_new n a_semaphore x = record n { semaphores = n.semaphores ++ x ∷ [] }
with_new n a_process x = record n { processes = n.processes ++ x ∷ [] }
with_new n a_variable x = record n { variables = n.variables ++ x ∷ [] }
with_new n a_timer x = record n { timers = n.timers ++ x ∷ [] }
with_new n a_thread x = record n { threads = n.threads ++ x ∷ [] }

-- the names in scope after a code; the code's own names aren't in scope any more
abbrev pub outside : NamesInScope → NamesInScope
outside n = record n { variables = []; first_timer = n.first_timer + length n.timers; timers = []; threads = [] }

-- the name is on this list
abbrev pub is_among : List Name → Name → Bool
is_among names x = is_some (place_in_names names x)

-- the name is in scope, and belongs to this class
abbrev pub is_a : NamesInScope → Class → Name → Bool
is_a n c x = is_among (names_of n c) x

-- the name is in scope
abbrev pub is_in_scope : NamesInScope → Name → Bool
is_in_scope n x = is_a n an_event x || is_a n a_semaphore x || is_a n a_process x || is_a n a_variable x
    || is_a n a_timer x || is_a n a_thread x

-- The number of a name: its place among the names of its class, except that timers are numbered through the whole
-- program. Only names that are in scope are looked up.
abbrev pub or_zero : Option ℕ → ℕ
or_zero None = 0
or_zero (Some i) = i

abbrev pub number_in : NamesInScope → Class → Name → ℕ
number_in n a_timer x = n.first_timer + or_zero (place_in_names n.timers x)
number_in n c x = or_zero (place_in_names (names_of n c) x)

-- the name with this number
abbrev pub name_in : NamesInScope → Class → ℕ → Name
name_in n a_timer i = slice_index_or n.timers (i - n.first_timer) []
name_in n c i = slice_index_or (names_of n c) i []
