-- The lines of a mote so far, and their agreement with the mote's state.
use Rattle.std.specs.Prelude.{Bool, true, false, ◌≡◌, List, [], ◌++◌}
use Rattle.std.specs.List.{All}
use Rattle.kernel_laws.specs.HandedOn.{HandedOn}
use Rattle.kernel_laws.specs.StartsAndHalts.{HaltIsLast, StartsTheUnlisted}
use Rattle.kernel_laws.specs.View as view
use Rattle.kernel_laws.specs.View.{HasHalted}
use Rattle.program_tree.specs.declared.event.Proc.TheVariants.{Etimer}
use Rattle.trace_lines.specs.declared.line.Line.{Line}
use Rattle.trace_lines.specs.declared.line.What.{What}
use Rattle.trace_lines.specs.declared.line.What.TheVariants as what
use Rattle.process_kernel.specs.State.{KernelState}
use Rattle.process_kernel.specs.ProcessList.{has_process, is_busy, is_listed}
use Rattle.process_kernel.specs.KernelModel.{KernelModel, Given}
use Rattle.kernel_laws.specs.Own.{FitsTarget}
use Rattle.kernel_laws.specs.Seen.{seen_lines, view_of}

-- the etimer process is on the list, and no waiting event can make a system process leave
pub record SystemStays (s : KernelState) : Type 0 where
  pub stays : is_listed s Etimer ≡ true
  pub fits : All (λ x. FitsTarget x.target x.event.number) s.queue.events

-- no process was started and no event posted, and the etimer process can start
pub record IsBlank (s : KernelState) : Type 0 where
  pub members : s.members ≡ []
  pub events : s.queue.events ≡ []
  pub idle : is_busy s Etimer ≡ false
  pub there : has_process s Etimer ≡ true

-- the lines are a run of the delivery machine to the mote's state, no walk is in progress, etimer is on the list,
-- and no waiting event can make a system process leave
pub record GoesAsBooted (lines : List Line) (s : KernelState) : Type 0 where
  pub matches : view.GoesWithView (seen_lines lines) (view_of s)
  pub sound : SystemStays s

-- the lines of a mote that was not booted
pub record GoesAsNew (lines : List Line) (s : KernelState) : Type 0 where
  pub matches : view.GoesWithView (seen_lines lines) (view_of s)
  pub blank : IsBlank s

abbrev pub GoesWithAs : (booted halted : Bool) → List Line → KernelState → Type 0
GoesWithAs false false lines s = GoesAsNew lines s
GoesWithAs false true lines s = ⊥
GoesWithAs true false lines s = GoesAsBooted lines s
GoesWithAs true true lines s = HasHalted (seen_lines lines)

-- The lines of a mote agree with it: they are a run of the delivery machine to the mote's state, or to its halt. No
-- mote halts before it is booted.
abbrev pub GoesWith : List Line → KernelModel → Type 0
GoesWith lines m = GoesWithAs m.booted m.halted lines m.state

-- A boot or a run appends some lines, and after that the mote's lines agree with the mote.
pub record AppendsLines (lines before : List Line) (g : Given) : Type 0 where
  pub added : List Line
  pub wrote : g.lines ≡ before ++ added
  pub goes : GoesWith (lines ++ added) g.mote

-- a line about an arriving packet, which is put into the ring or is lost
abbrev pub IsNote : What → Type 0
IsNote (what.Recv f n v) = Unit {0}
IsNote (what.Lost f n) = Unit {0}
IsNote (what.Collide f n) = Unit {0}
IsNote w = ⊥

-- events are delivered in the order in which they were accepted, nothing follows a halt, and only a process that isn't
-- listed starts
pub record IsInOrder (lines : List Line) : Type 0 where
  pub handed_on : HandedOn (seen_lines lines)
  pub halt_is_last : HaltIsLast (seen_lines lines)
  pub starts : StartsTheUnlisted (seen_lines lines)
