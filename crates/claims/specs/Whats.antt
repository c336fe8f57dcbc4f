-- What a line of a trace says: its kind, and its numbers.
use Rattle.std.specs.Prelude.{ℕ, Bool, true, false, Some, None}
use Rattle.program_tree.specs.declared.event.Proc.{Proc}
use Rattle.program_tree.specs.declared.event.Target.TheVariants.{One}
use Rattle.claims.specs.declared.what.LineKind.{LineKind}
use Rattle.claims.specs.declared.what.LineKind.TheVariants as kind
use Rattle.claims.specs.declared.what.Said.{Said}
use Rattle.trace_lines.specs.declared.line.What.{What}
use Rattle.trace_lines.specs.declared.line.What.TheVariants.{Start, Leave, Post, Full, Take, Drop, Print, Busy, Halt}
use Rattle.trace_lines.specs.declared.line.What.TheVariants.{Send, Recv, Lost, Deaf, Collide, Boots}

abbrev pub is_of : LineKind → What → Bool
is_of kind.Start (Start p) = true
is_of kind.Leave (Leave p) = true
is_of kind.Post (Post n t e w) = true
is_of kind.Full (Full t e w) = true
is_of kind.Take (Take n p) = true
is_of kind.Drop (Drop n p) = true
is_of kind.Print (Print p v) = true
is_of kind.Busy (Busy p) = true
is_of kind.Halt Halt = true
is_of kind.Send (Send n v) = true
is_of kind.Recv (Recv f n v) = true
is_of kind.Lost (Lost f n) = true
is_of kind.Deaf (Deaf f n) = true
is_of kind.Collide (Collide f n) = true
is_of kind.Boots Boots = true
is_of k w = false

-- a line about nothing
abbrev pub nothing : Said
nothing = record { target = None; serial = None; event = None; sender = None; packet = None; value = None }

-- a line about a process
abbrev pub about : Proc → Said
about p = record nothing { target = Some (One p) }

-- a line about a packet of a mote
abbrev pub about_packet : (sender number : ℕ) → Said
about_packet f n = record nothing { sender = Some f; packet = Some n }

abbrev pub said_by : What → Said
said_by (Start p) = about p
said_by (Leave p) = about p
said_by (Post n t e w) = record nothing { target = Some t; serial = Some n; event = Some e; value = Some w }
said_by (Full t e w) = record nothing { target = Some t; event = Some e; value = Some w }
said_by (Take n p) = record (about p) { serial = Some n }
said_by (Drop n p) = record (about p) { serial = Some n }
said_by (Print p v) = record (about p) { value = Some v }
said_by (Busy p) = about p
said_by Halt = nothing
said_by (Send n v) = record nothing { packet = Some n; value = Some v }
said_by (Recv f n v) = record (about_packet f n) { value = Some v }
said_by (Lost f n) = about_packet f n
said_by (Deaf f n) = about_packet f n
said_by (Collide f n) = about_packet f n
said_by Boots = nothing
