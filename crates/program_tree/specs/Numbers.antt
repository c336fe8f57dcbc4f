-- From a shape to a tree: each name is replaced by its number.
use Rattle.std.specs.Prelude.{ℕ, ◌+◌, List, [], ◌∷◌, ◌++◌, map, option_map, Bool, true, false}
use Rattle.program_tree.specs.Code.{Code, Tree}
use Rattle.program_tree.specs.InScope.{NamesInScope, no_names, number_in, outside}
use Rattle.program_tree.specs.Shapes.{Name, CodeShape, ProgramShape}
use Rattle.program_tree.specs.Tree.{a_process, Body, body_map}
use Rattle.program_tree.specs.declared.timer.Timer.{Timer}

-- a block with each name replaced by its number
abbrev pub block_in : NamesInScope → Body Name → Body ℕ
block_in n b = body_map (number_in n) b

-- the names of these parts; and the parts without their names
abbrev pub named_of : {T : Type 0} → List (Name × T) → List Name
named_of ps = map (λ p. p.0) ps

abbrev pub values_of : {T : Type 0} → List (Name × T) → List T
values_of ps = map (λ p. p.1) ps

-- the timers of a code: first the event timers, then the callback timers
abbrev pub timers_of : CodeShape → List Name
timers_of c = c.etimers ++ named_of c.ctimers

-- the names of the program, together with all names of a code
abbrev pub inside : NamesInScope → CodeShape → NamesInScope
inside n c = record n { variables = named_of c.variables; timers = timers_of c; threads = named_of c.threads }

-- the tree of a process's code, over these names
abbrev pub code_in : (process : ℕ) → NamesInScope → CodeShape → Code
code_in k n c = record {
  number = k;
  variables = named_of c.variables;
  starts = values_of c.variables;
  first_timer = n.first_timer;
  etimers = c.etimers;
  ctimers = named_of c.ctimers;
  callbacks = map (block_in n) (values_of c.ctimers);
  threads = named_of c.threads;
  thread_bodies = map (block_in n) (values_of c.threads);
  on_poll = option_map (block_in n) c.on_poll;
  on_exit = option_map (block_in n) c.on_exit;
  body = block_in n c.body;
}

-- the trees of the codes of the processes from this number on; these names are in scope before the first of the codes
abbrev pub codes_in : (process : ℕ) → NamesInScope → List CodeShape → List Code
codes_in k n [] = []
codes_in k n (c ∷ cs) = code_in k (inside n c) c ∷ codes_in (k + 1) (outside (inside n c)) cs

-- a timer of a process
abbrev pub timer_of : (process : ℕ) → (is_callback : Bool) → Timer
timer_of k b = record { process = k; is_callback = b }

-- the timers of all processes
abbrev pub timers_from : (process : ℕ) → List CodeShape → List Timer
timers_from k [] = []
timers_from k (c ∷ cs) =
    map (λ x. timer_of k false) c.etimers ++ (map (λ t. timer_of k true) c.ctimers ++ timers_from (k + 1) cs)

-- the codes of all processes
abbrev pub codes_of : ProgramShape → List CodeShape
codes_of p = p.first.1 ∷ values_of p.others

-- the names of the whole program
abbrev pub program_names : ProgramShape → NamesInScope
program_names p = record no_names {
  events = p.events;
  semaphores = named_of p.semaphores;
  processes = p.first.0 ∷ named_of p.others;
}

-- the tree of a program
abbrev pub tree_of_shape : ProgramShape → Tree
tree_of_shape p = record {
  events = p.events;
  semaphores = named_of p.semaphores;
  counts = values_of p.semaphores;
  processes = p.first.0 ∷ named_of p.others;
  autostart = map (number_in (program_names p) a_process) p.autostart;
  receiver = option_map (number_in (program_names p) a_process) p.receiver;
  codes = codes_in 0 (program_names p) (codes_of p);
  timers = timers_from 0 (codes_of p);
}
