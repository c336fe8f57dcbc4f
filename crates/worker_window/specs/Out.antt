-- The result of a window.
use Rattle.std.specs.Prelude.{◌≡◌, Option, Some, option_map}
use Rattle.program_tree.specs.Code.{Tree}
use Rattle.mote_node.specs.Public.{node_in}
use Rattle.worker_window.specs.declared.out.WindowOut.{WindowOut}
use Rattle.worker_window.specs.declared.own.OwnWindow.{OwnWindow}
use Rattle.worker_window.specs.MoteWindow.{LoneNode, Window, EndsAs}

-- the mote after a window, with the lines that it wrote and the packets that it sent in the window
abbrev pub shown : Tree → WindowOut → Option LoneNode
shown program out =
    option_map (λ n. record { state = n; wake = out.wake; lines = out.lines.items; sends = out.sends.items })
    (node_in program out.mote)

-- this is the result of the window's run
pub record Gives (window : Window) (out : WindowOut) : Type 0 where
  pub last : LoneNode
  pub run : EndsAs window last
  pub given : shown window.program out ≡ Some last

-- the result of a window in which no turn is left
abbrev pub out_of : OwnWindow → WindowOut
out_of own = record { mote = own.mote; lines = own.lines; sends = own.sends; wake = own.wake }
