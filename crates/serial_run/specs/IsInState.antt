-- The state of the engine during a run.
use Rattle.std.specs.Prelude.{ℕ, ◌≡◌, ◌<◌, List, length, map, Vec, Option, Some, option_map}
use Rattle.std.specs.Prelude.{slice_index_or, IfSome}
use Rattle.std.specs.List.{filter, AllByRecursion}
use Rattle.std.specs.declared.alloc.Global.{Global}
use Rattle.radio_packet.specs.declared.arrival.Arrival.{Arrival}
use Rattle.trace_lines.specs.declared.line.Line.{Line}
use Rattle.mote_node.specs.declared.mote.Mote.{Mote}
use Rattle.mote_node.specs.declared.mote.TurnOut.{TurnOut}
use Rattle.mote_node.specs.Turn.{Node, turn_of}
use Rattle.mote_node.specs.Public.{node_in, turn_given}
use Rattle.mote_net.specs.Net.{NetModel}
use Rattle.mote_net.specs.Report.{line_model}
use Rattle.serial_run.specs.declared.engine.Engine.{Engine}
use Rattle.window_laws.specs.Agenda.{mote_of, is_wake_of, wake_items}
use Rattle.net_agenda.specs.Buckets.{HoldsItems}
use Rattle.net_agenda.specs.NetSystem.{first_node_in, tree_at, turned_of}
use Rattle.radio_faults.specs.declared.fault.Fault.{Fault}
use Rattle.radio_faults.specs.WithFaults.{telling, turn_on, turn_with}
use Rattle.serial_run.specs.FaultRun.{boots_line, net_with, node_again, node_reboot, packet_with}
use Rattle.serial_run.specs.OnTime.{CanTurn}
use Rattle.window_laws.specs.NetStep.{NetState, turn_at}
use Rattle.window_laws.specs.System.{Turned}

-- the engine's mote with this number has not failed, and represents the mote's state in the net
abbrev pub OneNode : NetModel → List Mote → NetState Node Line → (mote : ℕ) → Type 0
OneNode n motes net k = (d : Mote) → node_in (tree_at n k) (slice_index_or motes k d) ≡ Some (net.states k)

abbrev pub OneTrace : List (Vec Line Global) → NetState Node Line → (mote : ℕ) → Type 0
OneTrace traces net k = (d : Vec Line Global) → (slice_index_or traces k d).items ≡ net.traces k

-- the agenda has exactly one wake of the mote, that which the engine keeps, or none if it keeps none
abbrev pub WakeIsKept : List (Option ℕ) → NetState Node Line → (mote : ℕ) → Type 0
WakeIsKept wakes net k = (d : Option ℕ) → filter (is_wake_of k) net.agenda ≡ wake_items k (slice_index_or wakes k d)

-- the engine's motes, wakes, traces, log and agenda represent this state of the net with these faults
pub record IsEngineAt (faults : List Fault) (n : NetModel) (engine : Engine) (net : NetState Node Line) : Type 0 where
  pub nodes : (k : ℕ) → k < length n.motes → OneNode n engine.motes.items net k
  pub wakes : (k : ℕ) → k < length n.motes → WakeIsKept engine.wakes.items net k
  pub traces : (k : ℕ) → k < length n.motes → OneTrace engine.traces.items net k
  pub log : map line_model engine.log.items ≡ map (packet_with faults n.radio) net.log
  pub agenda : HoldsItems engine.agenda.buckets net.agenda

-- there are as many motes, wakes and traces as the net has motes
pub record IsWhole (n : NetModel) (engine : Engine) : Type 0 where
  pub motes : length engine.motes.items ≡ length n.motes
  pub wakes : length engine.wakes.items ≡ length n.motes
  pub traces : length engine.traces.items ≡ length n.motes

-- the agenda has no event for a mote that doesn't exist
abbrev pub IsInside : NetModel → NetState Node Line → Type 0
IsInside n net = AllByRecursion (λ item. mote_of item < length n.motes) net.agenda

-- if the engine represents a state of the net before the turn, then after it the engine represents the net's next state
abbrev pub TurnLeads : List Fault → NetModel → (moment mote : ℕ) → Engine → Engine → Type 0
TurnLeads faults n moment mote old new = (state : NetState Node Line) → IsEngineAt faults n old state
    → IsEngineAt faults n new (turn_at (net_with faults n) moment mote state)

-- the mote at this index has not failed, and its last turn, if there was one, was before this moment
abbrev pub CanTurnAt : NetModel → (moment : ℕ) → List Mote → (mote : ℕ) → Type 0
CanTurnAt n moment motes k = (d : Mote) → CanTurn moment (node_in (tree_at n k) (slice_index_or motes k d))

-- the mote at this index has this index as its number
abbrev pub HasNumberAt : NetModel → List Mote → (mote : ℕ) → Type 0
HasNumberAt n motes k = (d : Mote) → IfSome (node_in (tree_at n k) (slice_index_or motes k d))
    (λ x. x.mote.state.mote ≡ k)

-- a mote took a turn with this output, which is the turn that a node takes
abbrev pub TookTurn : NetModel → (mote : ℕ) → (turn : Node → Turned Node Line) → (old new : Mote) → TurnOut → Type 0
TookTurn n k turn old new out = option_map (λ x. turned_of (turn_given out x)) (node_in (tree_at n k) new)
    ≡ option_map turn (node_in (tree_at n k) old)

-- the turn without faults of a node
abbrev pub own_turn : (moment : ℕ) → List Arrival → Node → Turned Node Line
own_turn moment packets x = turned_of (turn_of moment packets x)

-- the turn of the mote with this number if it boots again
abbrev pub turn_again : NetModel → (moment mote : ℕ) → List Arrival → Node → Turned Node Line
turn_again n moment k packets x =
    telling (boots_line moment) (own_turn moment packets (node_again (first_node_in n k) x))

-- the turn of the mote with this number if it is on
abbrev pub node_turn_on : NetModel → List Fault → (moment mote : ℕ) → List Arrival → Node → Turned Node Line
node_turn_on n faults moment k packets = turn_on node_reboot faults k moment (first_node_in n k) (own_turn moment packets)

-- the turn of the mote with this number
abbrev pub node_turn_with : NetModel → List Fault → (moment mote : ℕ) → List Arrival → Node → Turned Node Line
node_turn_with n faults moment k packets =
    turn_with node_reboot faults k moment (first_node_in n k) (own_turn moment packets)

-- the mote at index k, and no other mote, took a turn with this output
pub record OneTakesTurn (n : NetModel) (faults : List Fault) (moment : ℕ) (packets : List Arrival) (k : ℕ)
    (old new : List Mote) (out : TurnOut) : Type 0 where
  pub count : length new ≡ length old
  pub others : (j : ℕ) → (j ≡ k → ⊥) → (d : Mote) → slice_index_or new j d ≡ slice_index_or old j d
  pub turned : (d : Mote)
      → TookTurn n k (node_turn_with n faults moment k packets) (slice_index_or old k d) (slice_index_or new k d) out
