-- The lines and the state of the process kernel in the terms of the delivery machine.
use Rattle.std.specs.Prelude.{List, map}
use Rattle.kernel_laws.specs.HandedOn as handed
use Rattle.kernel_laws.specs.HandedOn.{Incarnation, ToOne, ToAll}
use Rattle.kernel_laws.specs.Delivery.{Waiting}
use Rattle.kernel_laws.specs.View.{View}
use Rattle.program_tree.specs.declared.event.Target.{Target}
use Rattle.program_tree.specs.declared.event.Target.TheVariants.{One, All}
use Rattle.event_queue.specs.declared.queue.Posted.{Posted}
use Rattle.trace_lines.specs.declared.line.Line.{Line}
use Rattle.trace_lines.specs.declared.line.What.{What}
use Rattle.trace_lines.specs.declared.line.What.TheVariants as what
use Rattle.process_kernel.specs.declared.process.Member.{Member}
use Rattle.process_kernel.specs.ProcessList.{place_of}
use Rattle.process_kernel.specs.State.{KernelState}

abbrev pub seen_target : Target → handed.Target
seen_target (One p) = ToOne (place_of p)
seen_target All = ToAll

-- a line about a process or an event, with the process as its place; each other line is `Other`
abbrev pub seen_what : What → handed.Line
seen_what (what.Start p) = handed.Start (place_of p)
seen_what (what.Leave p) = handed.Leave (place_of p)
seen_what (what.Post n t e w) = handed.Post n (seen_target t)
seen_what (what.Take n p) = handed.Take n (place_of p)
seen_what (what.Drop n p) = handed.Drop n (place_of p)
seen_what what.Halt = handed.Halt
seen_what w = handed.Other

abbrev pub seen_line : Line → handed.Line
seen_line l = seen_what l.what

abbrev pub seen_lines : List Line → List handed.Line
seen_lines lines = map seen_line lines

abbrev pub seen_member : Member → Incarnation
seen_member m = record { process = place_of m.process; number = m.incarnation }

abbrev pub seen_posted : Posted → Waiting
seen_posted x = record { serial = x.serial; target = seen_target x.target }

-- the process list, the queue and the counts
abbrev pub view_of : KernelState → View
view_of s = record {
  list = map seen_member s.members;
  numbered = s.started;
  queue = map seen_posted s.queue.events;
  accepted = s.queue.accepted;
}
