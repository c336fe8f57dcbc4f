-- From a tree to its shape: each number is replaced by its name.
use Rattle.std.specs.Prelude.{ℕ, List, [], ◌++◌, map, drop, None, option_map, slice_index_or}
use Rattle.std.specs.List.{zip}
use Rattle.program_tree.specs.Canonical.{canonical_text}
use Rattle.program_tree.specs.Code.{Code, Tree}
use Rattle.program_tree.specs.Grammar.{tokens, program_marks}
use Rattle.program_tree.specs.InScope.{NamesInScope, no_names, name_in}
use Rattle.program_tree.specs.Shapes.{Name, CodeShape, ProgramShape}
use Rattle.program_tree.specs.Tokens.{Token}
use Rattle.program_tree.specs.Tree.{a_process, Body, end, body_map}

-- the names of the whole program, and all names that are in scope in one of its codes
abbrev pub names_of_tree : Tree → NamesInScope
names_of_tree t = record no_names { events = t.events; semaphores = t.semaphores; processes = t.processes }

abbrev pub names_of_code : NamesInScope → Code → NamesInScope
names_of_code n c = record n {
  variables = c.variables;
  first_timer = c.first_timer;
  timers = c.etimers ++ c.ctimers;
  threads = c.threads;
}

-- a block with each number replaced by its name
abbrev pub block_with : NamesInScope → Body ℕ → Body Name
block_with n b = body_map (name_in n) b

-- the shape of a code, given all names that are in scope in it
abbrev pub code_with : NamesInScope → Code → CodeShape
code_with n c = record {
  variables = zip c.variables c.starts;
  etimers = c.etimers;
  ctimers = zip c.ctimers (map (block_with n) c.callbacks);
  threads = zip c.threads (map (block_with n) c.thread_bodies);
  on_poll = option_map (block_with n) c.on_poll;
  on_exit = option_map (block_with n) c.on_exit;
  body = block_with n c.body;
}

-- the shape of a code, given the names of the whole program
abbrev pub code_shape : NamesInScope → Code → CodeShape
code_shape n c = code_with (names_of_code n c) c

-- the processes with the shapes of their codes
abbrev pub codes_of_tree : Tree → List (Name × CodeShape)
codes_of_tree t = zip t.processes (map (code_shape (names_of_tree t)) t.codes)

-- the default for a tree without processes; no program has such a tree
abbrev pub no_code : Name × CodeShape
no_code = (
  [],
  record {
    variables = [];
    etimers = [];
    ctimers = [];
    threads = [];
    on_poll = None;
    on_exit = None;
    body = end;
  },
)

-- the shape of a program
abbrev pub shape_of : Tree → ProgramShape
shape_of t = record {
  events = t.events;
  semaphores = zip t.semaphores t.counts;
  first = slice_index_or (codes_of_tree t) 0 no_code;
  others = drop 1 (codes_of_tree t);
  autostart = map (name_in (names_of_tree t) a_process) t.autostart;
  receiver = option_map (name_in (names_of_tree t) a_process) t.receiver;
}

-- the tokens of the program with this tree, and their text
abbrev pub tokens_of_tree : Tree → List Token
tokens_of_tree t = tokens (program_marks (shape_of t) [])

abbrev pub text_of_tree : Tree → List ℕ
text_of_tree t = canonical_text (tokens_of_tree t)
