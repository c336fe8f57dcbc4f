-- The result of reading the code blocks of a program.
use Rattle.std.specs.Prelude.{◌≡◌, ℕ, List, [], ◌∷◌, ◌++◌, length, map, replicate, false, true, Option}
use Rattle.program_tree.specs.Code.{Code, Tree}
use Rattle.program_tree.specs.Faults.{Scope}
use Rattle.program_tree.specs.Grammar.{Mark, tokens, codes_marks, event_marks, semaphore_marks}
use Rattle.program_reader.specs.Head.{ReadsNames, ReadsValues, ReadsProcesses, ReadsAutostart, ReadsReceiver}
use Rattle.program_tree.specs.InScope.{NamesInScope, outside}
use Rattle.program_reader.specs.Machine.{Pending, tell, codes_form, from_events, from_semaphores}
use Rattle.program_tree.specs.Numbers.{named_of, values_of, inside, codes_in, timer_of}
use Rattle.program_tree.specs.ProcessText.{code_of}
use Rattle.program_tree.specs.ShapeOf.{code_shape}
use Rattle.program_tree.specs.Shapes.{Name, CodeShape}
use Rattle.program_tree.specs.Tokens.{Token}
use Rattle.program_tree.specs.Tree.{an_event, a_semaphore}
use Rattle.program_reader.specs.declared.codes.Parts.{Parts}
use Rattle.program_reader.specs.declared.scope.Scope.{Scope as ScopeRead}
use Rattle.program_tree.specs.declared.timer.Timer.{Timer}

-- the names in scope after some codes
abbrev pub names_behind : NamesInScope → List CodeShape → NamesInScope
names_behind n [] = n
names_behind n (c ∷ cs) = names_behind (outside (inside n c)) cs

-- the codes of the first processes are read, and the codes of the processes `left` are not
pub record HasCodes (trees : List Code) (left : List Name) (s s' : Scope) (old rest : List Token) : Type 0 where
  pub shapes : List (Name × CodeShape)
  pub named : s.names.processes ≡ named_of shapes ++ left
  pub numbered : trees ≡ codes_in 0 s.names (values_of shapes)
  pub put_back : values_of shapes ≡ map (code_shape s.names) trees
  pub names : s'.names ≡ names_behind s.names (values_of shapes)
  pub spelled : (ms : List Mark) → tokens ms ≡ rest → old ≡ tokens (codes_marks shapes ms)
  pub goes_on : (f : Pending) → tell s (codes_form s.names.processes f) old ≡ tell s' (codes_form left f) rest

-- the text before the codes is read
pub record ReadsHead (counts autostart : List ℕ) (receiver : Option ℕ) (s s' : Scope) (old new : List Token) : Type 0
  where
    pub s1 : Scope
    pub s2 : Scope
    pub s3 : Scope
    pub m1 : List Token
    pub m2 : List Token
    pub m3 : List Token
    pub m4 : List Token
    pub events : ReadsNames an_event from_events from_semaphores event_marks s s1 old m1
    pub semaphores : ReadsValues a_semaphore from_semaphores from_semaphores semaphore_marks counts s1 s2 m1 m2
    pub processes : ReadsProcesses s2 s3 m2 m3
    pub starting : ReadsAutostart s3 s' autostart m3 m4
    pub receiving : ReadsReceiver s' receiver m4 new

-- the timers of a code, and the timers of all codes
abbrev pub timers_of_code : Code → List Timer
timers_of_code c = replicate (length c.etimers) (timer_of c.number false) ++ replicate (length c.ctimers)
    (timer_of c.number true)

abbrev pub all_timers : List Code → List Timer
all_timers [] = []
all_timers (c ∷ cs) = timers_of_code c ++ all_timers cs

-- the tree of a program with these names in scope at its end, and with these parts
abbrev pub tree_with : ScopeRead → Parts → Tree
tree_with s p = record {
  events = s.events;
  semaphores = s.semaphores;
  counts = p.head.counts.items;
  processes = s.processes;
  autostart = p.head.autostart.items;
  receiver = p.head.receiver;
  codes = map code_of p.codes.items;
  timers = p.timers.items;
}
