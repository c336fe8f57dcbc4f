-- The data of one worker of a net: its motes, their traces and packets so far, and their pending events.
use Rattle.std.specs.Prelude.{ℕ, ◌≡◌, Bool, true, not, ◌&&◌, nat_lt, if◌then◌else◌, false}
use Rattle.std.specs.Prelude.{List, [], length, Option, Some, None, slice_index_or, IsSomeAnd}
use Rattle.std.specs.List.{filter}
use Rattle.program_tree.specs.Code.{Tree}
use Rattle.trace_lines.specs.declared.line.Line.{Line}
use Rattle.mote_node.specs.Turn.{Node, is_past, wake_of}
use Rattle.mote_node.specs.Public.{node_in}
use Rattle.radio_packet.specs.declared.copy.RadioCopy.{RadioCopy}
use Rattle.mote_net.specs.Net.{NetModel}
use Rattle.window_laws.specs.Agenda.{Item, is_wake_of, packets, wake_items}
use Rattle.window_laws.specs.Windows.{LoneMote, NoneBefore, is_from_sender, is_sent_by}
use Rattle.net_agenda.specs.Buckets.{Buckets, HoldsItems}
use Rattle.net_agenda.specs.NetSystem.{first_node_in, tree_at, system_of}
use Rattle.copy_exchange.specs.Crossed.{is_own, copies_seen}
use Rattle.worker_window.specs.MoteWindow.{node_number}
use Rattle.worker_window.specs.Own.{IsNewWindow}
use Rattle.worker_window.specs.declared.own.OwnWindow.{OwnWindow}
use Rattle.worker_window.specs.declared.share.Share.{Share}
use Rattle.worker_window.specs.Log.{packets_in, HaveFates}

-- the motes of a net, by number
abbrev pub Motes : Type 0
Motes = (number : ℕ) → LoneMote Node Line

-- the mote with this number, if the share has it
abbrev pub mote_here : List (Option OwnWindow) → (number : ℕ) → Option OwnWindow
mote_here motes number = slice_index_or motes number None

-- a window of this mote: its node, its wake, which is in the agenda, and its trace; no copy was taken, and none of its
-- packets is left
pub record HoldsMote (tree : Tree) (mote : LoneMote Node Line) (own : OwnWindow) : Type 0 where
  pub node : node_in tree own.mote ≡ Some mote.state
  pub wake : own.wake ≡ mote.wake
  pub pending : own.pending ≡ mote.wake
  pub next : own.next ≡ 0
  pub lines : own.lines.items ≡ mote.lines
  pub sends : own.sends.items ≡ []

-- a mote of the share between two windows
pub record IsBetweenWindows (tree : Tree) (mote : LoneMote Node Line) (own : OwnWindow) : Type 0 where
  pub holds : HoldsMote tree mote own
  pub no_copies : own.copies.items ≡ []
  pub not_called : own.called ≡ false

-- a copy for one of the worker's motes that arrives at this moment or later
abbrev pub is_to_come : (own : ℕ → Bool) → (from : ℕ) → RadioCopy → Bool
is_to_come own from copy = own copy.to && not (nat_lt copy.at from)

-- a wake at this moment or later
abbrev pub wake_from : (from : ℕ) → Option ℕ → Option ℕ
wake_from from None = None
wake_from from (Some wake) = if nat_lt wake from then None else Some wake

-- the agenda has the next wake of each of the worker's motes, unless it is before the moment; and, for each sender,
-- all copies that the worker has seen and that arrive at these motes at the moment or later, in the order of sending
pub record HasToCome (model : NetModel) (own : ℕ → Bool) (from : ℕ) (motes : Motes) (taken : List RadioCopy)
    (buckets : Buckets) : Type 0 where
  pub items : List Item
  pub holds : HoldsItems buckets items
  pub wakes : (k : ℕ) → filter (is_wake_of k) items
      ≡ (if own k then wake_items k (wake_from from (motes k).wake) else [])
  pub copies : (s : ℕ) → filter (is_from_sender s) (packets items)
      ≡ filter (is_to_come own from) (copies_seen (system_of model) own motes taken s)

-- The share of a worker at a moment before which no event is pending. Some of the worker's motes are at rest. The share
-- has their nodes, wakes and lines so far, the packets of all the worker's motes so far, and the agenda. None of the
-- motes at rest has failed, and the last turn of each was before the moment. `taken` are all copies that ever arrived
-- from other workers.
pub record IsShare (model : NetModel) (owners : List ℕ) (worker : ℕ) (here : ℕ → Bool) (from : ℕ) (motes : Motes)
    (taken : List RadioCopy) (share : Share) : Type 0 where
  pub is_worker : share.worker ≡ worker
  pub places : length share.motes.items ≡ length model.motes
  pub numbers : (k : ℕ) → here k ≡ true → node_number (motes k).state ≡ k
  pub rests : (k : ℕ) → here k ≡ true
      → IsSomeAnd (mote_here share.motes.items k) (IsBetweenWindows (tree_at model k) (motes k))
  pub elsewhere : (k : ℕ) → is_own owners worker k ≡ false → mote_here share.motes.items k ≡ None
  pub wakes : (k : ℕ) → here k ≡ true → (motes k).wake ≡ wake_of (motes k).state
  pub quiet : (k : ℕ) → here k ≡ true → NoneBefore from (motes k).wake
  pub turned_before : (k : ℕ) → here k ≡ true → is_past from (motes k).state.last ≡ false
  pub log : (s : ℕ) → filter (is_sent_by s) (packets_in share.log.items)
      ≡ (if is_own owners worker s then (motes s).sends else [])
  pub fates : HaveFates model.radio share.log.items
  pub agenda : HasToCome model (is_own owners worker) from motes taken share.agenda.buckets

-- a share whose motes are all at rest, as between windows
abbrev pub IsWholeShare : NetModel → (owners : List ℕ) → (worker from : ℕ) → Motes → (taken : List RadioCopy) → Share
    → Type 0
IsWholeShare model owners worker from motes taken share = IsShare model owners worker
    (is_own owners worker) from motes taken share

-- a mote before its first turn
pub record IsBeforeFirstTurn (model : NetModel) (number : ℕ) (own : OwnWindow) : Type 0 where
  pub node : node_in (tree_at model number) own.mote ≡ Some (first_node_in model number)
  pub new : IsNewWindow own.mote [] own

-- the share has the worker's motes and no others
abbrev pub IfOwn : (own : Bool) → Option OwnWindow → (OwnWindow → Type 0) → Type 0
IfOwn true mote P = IsSomeAnd mote P
IfOwn false mote P = mote ≡ None

-- the trace of a mote; an empty one where there is no mote
abbrev pub trace_in : Option OwnWindow → List Line
trace_in None = []
trace_in (Some own) = own.lines.items
