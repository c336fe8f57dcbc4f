-- The words of a report's lines.
use Rattle.std.specs.Prelude.{ℕ, ◌==◌, List, [], ◌∷◌, ◌++◌, if◌then◌else◌, Option, Some, None, codes, decimal}
use Rattle.std.specs.Prelude.{slice_get, unwrap_or}
use Rattle.std.specs.List.{flat_map}
use Rattle.program_tree.specs.Code.{Tree, declared_name}
use Rattle.program_tree.specs.declared.event.Proc.{Proc}
use Rattle.program_tree.specs.declared.event.Proc.TheVariants.{Own, Etimer, Ctimer, Radio}
use Rattle.program_tree.specs.declared.event.Target.{Target}
use Rattle.program_tree.specs.declared.event.Target.TheVariants.{One, All}
use Rattle.program_tree.specs.declared.event.SystemEvent.TheVariants as event
use Rattle.program_tree.specs.Events.{system_number, system_word}
use Rattle.trace_lines.specs.declared.line.What.{What}
use Rattle.trace_lines.specs.declared.line.What.TheVariants.{Start, Leave, Post, Full, Take, Drop, Print, Busy, Halt}
use Rattle.trace_lines.specs.declared.line.What.TheVariants.{Send, Recv, Lost, Deaf, Collide, Boots}
use Rattle.radio_packet.specs.declared.fate.Fate.{Fate}

-- a line: its first word, each other word after a space, and a line feed
abbrev pub line_of : (first : List ℕ) → (others : List (List ℕ)) → List ℕ
line_of first others = first ++ flat_map (λ w. 32 ∷ w) others ++ 10 ∷ []

-- The name of a process, or the empty word if the program doesn't have the process.
abbrev pub process_word : Tree → Proc → List ℕ
process_word t (Own p) = unwrap_or (slice_get t.processes p) []
process_word t Etimer = codes "etimer"
process_word t Ctimer = codes "ctimer"
process_word t Radio = codes "radio"

-- the receiver of an event
abbrev pub target_word : Tree → Target → List ℕ
target_word t (One p) = process_word t p
target_word t All = codes "all"

-- The system's word for an event, by the event's number, or the name under which the program declares the event. Any
-- other event has the empty word.
abbrev pub event_word : Tree → ℕ → List ℕ
event_word t e =
    if e == system_number event.Init then system_word event.Init
    else if e == system_number event.Poll then system_word event.Poll
    else if e == system_number event.Exit then system_word event.Exit
    else if e == system_number event.Continue then system_word event.Continue
    else if e == system_number event.Msg then system_word event.Msg
    else if e == system_number event.Exited then system_word event.Exited
    else if e == system_number event.Timer then system_word event.Timer
    else if e == system_number event.Com then system_word event.Com
    else if e == system_number event.Packet then system_word event.Packet
    else unwrap_or (declared_name t e) []

-- the words of a trace's line that follow its moment
abbrev pub words_of : Tree → What → List (List ℕ)
words_of t (Start p) = codes "start" ∷ process_word t p ∷ []
words_of t (Leave p) = codes "leave" ∷ process_word t p ∷ []
words_of t (Post serial to e w) = codes "post" ∷ decimal serial ∷ target_word t to ∷ event_word t e ∷ decimal w ∷ []
words_of t (Full to e w) = codes "full" ∷ target_word t to ∷ event_word t e ∷ decimal w ∷ []
words_of t (Take serial p) = codes "take" ∷ decimal serial ∷ process_word t p ∷ []
words_of t (Drop serial p) = codes "drop" ∷ decimal serial ∷ process_word t p ∷ []
words_of t (Print p v) = codes "print" ∷ process_word t p ∷ decimal v ∷ []
words_of t (Busy p) = codes "busy" ∷ process_word t p ∷ []
words_of t Halt = codes "halt" ∷ []
words_of t (Send number v) = codes "send" ∷ decimal number ∷ decimal v ∷ []
words_of t (Recv from number v) = codes "recv" ∷ decimal from ∷ decimal number ∷ decimal v ∷ []
words_of t (Lost from number) = codes "lost" ∷ decimal from ∷ decimal number ∷ []
words_of t (Deaf from number) = codes "deaf" ∷ decimal from ∷ decimal number ∷ []
words_of t (Collide from number) = codes "collide" ∷ decimal from ∷ decimal number ∷ []
words_of t Boots = codes "boots" ∷ []

-- the moment at which a copy arrives, or `lost`
abbrev pub arrival_word : Option ℕ → List ℕ
arrival_word (Some at) = decimal at
arrival_word None = codes "lost"

-- the receiver of a copy and the moment at which it arrives, joined by `@`
abbrev pub fate_word : Fate → List ℕ
fate_word f = decimal f.to ++ 64 ∷ arrival_word f.at
