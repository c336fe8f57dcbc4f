-- Events as programs name them: by a keyword, or by the name of a declaration. The types determine which events are
-- allowed in which place.
use Rattle.std.specs.Prelude.{ℕ, ◌+◌}
use Rattle.program_tree.specs.Events.{system_number}
use Rattle.program_tree.specs.declared.event.SystemEvent.TheVariants as event

-- an event that may be broadcast
pub data BroadcastEvent (Name : Type 0) : Type 0 where
  continue : BroadcastEvent Name
  msg : BroadcastEvent Name
  «com» : BroadcastEvent Name
  packet : BroadcastEvent Name
  declared : Name → BroadcastEvent Name

-- an event that may be posted to one process, or delivered to it at once
pub data PostedEvent (Name : Type 0) : Type 0 where
  cast : BroadcastEvent Name → PostedEvent Name
  exit : PostedEvent Name

-- an event that a program may test for
pub data TestedEvent (Name : Type 0) : Type 0 where
  sent : PostedEvent Name → TestedEvent Name
  init : TestedEvent Name
  poll : TestedEvent Name
  exited : TestedEvent Name
  timer : TestedEvent Name

-- the number of each event; declared events follow the packet, in the order of their declaration
abbrev pub cast_number : BroadcastEvent ℕ → ℕ
cast_number continue = system_number event.Continue
cast_number msg = system_number event.Msg
cast_number «com» = system_number event.Com
cast_number packet = system_number event.Packet
cast_number (declared i) = 0x8b + i

abbrev pub sent_number : PostedEvent ℕ → ℕ
sent_number (cast e) = cast_number e
sent_number exit = system_number event.Exit

abbrev pub any_number : TestedEvent ℕ → ℕ
any_number (sent e) = sent_number e
any_number init = system_number event.Init
any_number poll = system_number event.Poll
any_number exited = system_number event.Exited
any_number timer = system_number event.Timer

-- the same event with its name changed
abbrev pub cast_map : {A B : Type 0} → (A → B) → BroadcastEvent A → BroadcastEvent B
cast_map f continue = continue
cast_map f msg = msg
cast_map f «com» = «com»
cast_map f packet = packet
cast_map f (declared x) = declared (f x)

abbrev pub sent_map : {A B : Type 0} → (A → B) → PostedEvent A → PostedEvent B
sent_map f (cast e) = cast (cast_map f e)
sent_map f exit = exit

abbrev pub any_map : {A B : Type 0} → (A → B) → TestedEvent A → TestedEvent B
any_map f (sent e) = sent (sent_map f e)
any_map f init = init
any_map f poll = poll
any_map f exited = exited
any_map f timer = timer
