-- The window that an `OwnWindow` represents. An `OwnWindow` is the state of a mote's window in the code.
use Rattle.std.specs.Prelude.{◌≡◌, ℕ, ◌<◌, false, List, [], drop, Option, None, option_map, IfSome}
use Rattle.program_tree.specs.Code.{Tree}
use Rattle.trace_lines.specs.declared.line.Line.{Line}
use Rattle.radio_packet.specs.declared.sent.Sent.{Sent}
use Rattle.mote_node.specs.declared.mote.Mote.{Mote}
use Rattle.mote_node.specs.Turn.{Node}
use Rattle.mote_node.specs.Public.{node_in, wake_in}
use Rattle.radio_packet.specs.declared.copy.RadioCopy.{RadioCopy}
use Rattle.window_laws.specs.Windows.{IsQuiet}
use Rattle.worker_window.specs.declared.out.WindowOut.{WindowOut}
use Rattle.worker_window.specs.declared.own.OwnWindow.{OwnWindow}
use Rattle.worker_window.specs.MoteWindow.{Window, IsNextOf, IsOver}

-- the window of a mote with this node
abbrev pub window_over : Tree → (until : ℕ) → (copies : List RadioCopy) → (wake : Option ℕ) → (lines : List Line)
    → (sends : List Sent) → Node → Window
window_over program until copies wake lines sends n = record {
  program = program;
  until = until;
  copies = copies;
  mote = record { state = n; wake = wake; lines = lines; sends = sends };
}

-- the window up to a bound that an `OwnWindow` represents; there is no window if the mote has failed
unfoldable pub window_in : Tree → (until : ℕ) → OwnWindow → Option Window
window_in program until w =
    option_map (window_over program until (drop w.next w.copies.items) w.wake w.lines.items w.sends.items)
    (node_in program w.mote)

-- ---- for any mote, even one that has failed
-- the pending events of a window, and the mote's lines and packets in it so far
pub record WindowCourse : Type 0 where
  pub program : Tree
  pub until : ℕ
  pub copies : List RadioCopy
  pub wake : Option ℕ
  pub lines : List Line
  pub sends : List Sent

-- the course of the window of an `OwnWindow`, also if the mote has failed
unfoldable pub course_in : Tree → (until : ℕ) → OwnWindow → WindowCourse
course_in program until w = record {
  program = program;
  until = until;
  copies = drop w.next w.copies.items;
  wake = w.wake;
  lines = w.lines.items;
  sends = w.sends.items;
}

-- a window before its first turn, with the lines that its mote wrote earlier; if the mote has failed, the window has
-- only copies
abbrev pub course_of : Tree → (until : ℕ) → (copies : List RadioCopy) → (lines : List Line) → Option Node → WindowCourse
course_of program until copies lines mote = record {
  program = program;
  until = until;
  copies = copies;
  wake = wake_in mote;
  lines = lines;
  sends = [];
}

-- there are no more events before the bound
abbrev pub IsSpent : WindowCourse → Type 0
IsSpent c = IsQuiet c.until c.wake c.copies

-- the next event is at this moment, before the bound
pub record ComesNext (moment : ℕ) (c : WindowCourse) : Type 0 where
  pub next : IsNextOf moment c.wake c.copies
  pub in_window : moment < c.until

-- a mote that has failed, with its earlier lines and packets
pub record StaysFailed (c : WindowCourse) (out : WindowOut) : Type 0 where
  pub failed : node_in c.program out.mote ≡ None
  pub wake : out.wake ≡ c.wake
  pub lines : out.lines.items ≡ c.lines
  pub sends : out.sends.items ≡ c.sends

-- the result of a mote that had failed, if there is no further event for it
pub record GivesNoMore (c : WindowCourse) (out : WindowOut) : Type 0 where
  pub spent : IsSpent c
  pub left : StaysFailed c out

-- no turn is left in the window, whether or not the mote has failed
pub record IsFinished (program : Tree) (until : ℕ) (w : OwnWindow) : Type 0 where
  pub spent : IsSpent (course_in program until w)
  pub over : IfSome (window_in program until w) IsOver

-- all about the window is unchanged except its copies, and whether its mote is called
pub record KeepsMote (old new : OwnWindow) : Type 0 where
  pub mote : new.mote ≡ old.mote
  pub wake : new.wake ≡ old.wake
  pub pending : new.pending ≡ old.pending
  pub next : new.next ≡ old.next
  pub lines : new.lines ≡ old.lines
  pub sends : new.sends ≡ old.sends

-- the window at rest: its copies and packets are gone, and the next wake is the pending one
pub record Rests (old new : OwnWindow) : Type 0 where
  pub mote : new.mote ≡ old.mote
  pub wake : new.wake ≡ old.wake
  pub pending : new.pending ≡ old.wake
  pub called : new.called ≡ false
  pub copies : new.copies.items ≡ []
  pub next : new.next ≡ 0
  pub lines : new.lines ≡ old.lines
  pub sends : new.sends.items ≡ []

-- a window before its first turn, with these copies
pub record IsNewWindow (mote : Mote) (copies : List RadioCopy) (own : OwnWindow) : Type 0 where
  pub mote_is : own.mote ≡ mote
  pub wake : (program : Tree) → own.wake ≡ wake_in (node_in program mote)
  pub pending : own.pending ≡ own.wake
  pub called : own.called ≡ false
  pub copies_are : own.copies.items ≡ copies
  pub next : own.next ≡ 0
  pub lines : own.lines.items ≡ []
  pub sends : own.sends.items ≡ []
