-- The events that every kernel knows: their numbers, and their names in programs and reports.
use Rattle.std.specs.Prelude.{ℕ, List, codes}
use Rattle.program_tree.specs.declared.event.SystemEvent.{SystemEvent}
use Rattle.program_tree.specs.declared.event.SystemEvent.TheVariants.{Init, Poll, Exit, Continue, Msg, Exited, Timer}
use Rattle.program_tree.specs.declared.event.SystemEvent.TheVariants.{Com, Packet}

-- the number of the event, as in `process.h`; the packet, which `process.h` doesn't have, has the next number
abbrev pub system_number : SystemEvent → ℕ
system_number Init = 0x81
system_number Poll = 0x82
system_number Exit = 0x83
system_number Continue = 0x85
system_number Msg = 0x86
system_number Exited = 0x87
system_number Timer = 0x88
system_number Com = 0x89
system_number Packet = 0x8a

-- the word for the event in programs and reports
abbrev pub system_word : SystemEvent → List ℕ
system_word Init = codes "init"
system_word Poll = codes "poll"
system_word Exit = codes "exit"
system_word Continue = codes "continue"
system_word Msg = codes "msg"
system_word Exited = codes "exited"
system_word Timer = codes "timer"
system_word Com = codes "com"
system_word Packet = codes "packet"
