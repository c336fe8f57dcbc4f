-- The promises of a `Mote`'s calls.
use Rattle.std.specs.Prelude.{ℕ, Bool, false, if◌then◌else◌, Option, Some, None, option_map}
use Rattle.program_tree.specs.Code.{Tree}
use Rattle.trace_lines.specs.declared.out.Out.{Out}
use Rattle.process_kernel.specs.KernelModel.{KernelModel}
use Rattle.process_kernel.specs.Public.{kernel_in}
use Rattle.mote_node.specs.declared.mote.Mote.{Mote}
use Rattle.mote_node.specs.declared.mote.TurnOut.{TurnOut}
use Rattle.mote_node.specs.Turn.{Node, is_past, wake_of, TurnGiven}

abbrev pub node_over : (last : Option ℕ) → (collides : Bool) → KernelModel → Node
node_over last collides m = record { mote = m; last = last; collides = collides }

-- The node that a `Mote` with this program represents, unless the `Mote` has failed.
unfoldable pub node_in : Tree → Mote → Option Node
node_in t m = if m.failed then None else option_map (node_over m.last m.collide) (kernel_in t m.kernel.value)

-- the next wake of the node; a mote that has failed has none
abbrev pub wake_in : Option Node → Option ℕ
wake_in None = None
wake_in (Some n) = wake_of n

-- there is a node, and this moment isn't later than the node's last turn
abbrev pub is_past_in : (moment : ℕ) → Option Node → Bool
is_past_in moment None = false
is_past_in moment (Some n) = is_past moment n.last

-- the lines and packets of a turn, with the next wake
abbrev pub turn_out_of : Out → (wake : Option ℕ) → TurnOut
turn_out_of out wake = record { lines = out.lines; sends = out.sends; wake = wake }

-- the outcome of a turn, with the node after the turn
abbrev pub turn_given : TurnOut → Node → TurnGiven
turn_given out n = record { node = n; lines = out.lines.items; sends = out.sends.items; wake = out.wake }
