-- Laws of windows.
use Rattle.std.specs.Prelude.{◌≡◌, ℕ, false, List, ◌++◌}
use Rattle.trace_lines.specs.declared.line.Line.{Line}
use Rattle.radio_packet.specs.declared.sent.Sent.{Sent}
use Rattle.mote_node.specs.Turn.{is_past, wake_of}
use Rattle.worker_window.specs.MoteWindow.{LoneNode, Window, WindowRun, EndsAs, HasTurn, IsNext}
use Rattle.worker_window.specs.MoteWindow.{node_number, window_after_turn}

-- a window has at most one end
abbrev pub EndIsOne : Type 0
EndIsOne = (window : Window) (a b : LoneNode) → EndsAs window a → EndsAs window b → b ≡ a

-- the mote with lines and packets from before the window
abbrev pub with_earlier : List Line → List Sent → LoneNode → LoneNode
with_earlier lines sends mote = record mote { lines = lines ++ mote.lines; sends = sends ++ mote.sends }

-- the lines and packets from before a window stay before those that the window's run appends
abbrev pub EarlierStaysInFront : Type 0
EarlierStaysInFront = (window : Window) (last : LoneNode) → EndsAs window last → (lines : List Line) (sends : List Sent)
    → WindowRun (node_number window.mote.state) window.until window.copies (with_earlier lines sends window.mote)
    (with_earlier lines sends last)

-- if the wake recorded in a window is the mote's next wake at the beginning, it is also the mote's next wake at the end
abbrev pub EndsWithItsWake : Type 0
EndsWithItsWake = (window : Window) (last : LoneNode) → window.mote.wake ≡ wake_of window.mote.state
    → EndsAs window last → last.wake ≡ wake_of last.state

-- the next event is after the mote's last turn
abbrev pub IsAhead : Window → Type 0
IsAhead window = (moment : ℕ) → IsNext moment window → is_past moment window.mote.state.last ≡ false

-- after each turn of a window, the next event is after the mote's last turn
abbrev pub NoTurnIsPast : Type 0
NoTurnIsPast = (window : Window) (moment : ℕ) → HasTurn moment window → IsAhead (window_after_turn moment window)
