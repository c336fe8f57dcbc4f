-- The copies on the agenda at the start of a window: each is held by a worker, or waits in an inbox.
use Rattle.std.specs.Prelude.{ℕ, suc, ◌<◌, List, ◌++◌, length, slice_index_or, IsPermutation}
use Rattle.std.specs.List.{flat_map}
use Rattle.trace_lines.specs.declared.line.Line.{Line}
use Rattle.mote_node.specs.Turn.{Node}
use Rattle.radio_packet.specs.declared.copy.RadioCopy.{RadioCopy}
use Rattle.mote_net.specs.Net.{NetModel}
use Rattle.window_laws.specs.Forward.{RunsForward}
use Rattle.window_laws.specs.Agenda.{Item, packets, up_to}
use Rattle.window_laws.specs.NetStep.{NetState, Run, boot}
use Rattle.net_agenda.specs.Buckets.{HoldsItems}
use Rattle.net_agenda.specs.NetSystem.{system_of}
use Rattle.copy_inbox.specs.Handles.{TakerView}
use Rattle.copy_exchange.specs.Takers.{taken_by, gathered_by}
use Rattle.worker_window.specs.declared.share.Share.{Share}
use Rattle.window_workers.specs.declared.group.WorkerGroup.{WorkerGroup}
use Rattle.window_workers.specs.WorkerGroup.{WorkersAreAt}

-- the copies that one worker holds, together with the copies in its inbox that are gathered and not taken yet
pub record AreWith (share : Share) (taker : TakerView) (copies : List RadioCopy) : Type 0 where
  pub items : List Item
  pub holds : HoldsItems share.agenda.buckets items
  pub waiting : List RadioCopy
  pub gathered : IsPermutation (gathered_by taker) (taken_by taker ++ waiting)
  pub both : IsPermutation copies (packets items ++ waiting)

-- Suppose that the net runs forward, and that the workers are ready before a moment above 0. Then the copies of the
-- net's agenda after all turns before this moment are those that the workers hold and those in the inboxes, each
-- exactly once.
abbrev pub AgendaIsHeld : Type 0
AgendaIsHeld = (model : NetModel) → RunsForward (system_of model) → (owners : List ℕ) (end : ℕ) (group : WorkerGroup)
    → WorkersAreAt model owners (suc end) group
    → (net : NetState Node Line) → Run (system_of model) end (boot (system_of model)) net
    → (parts : ℕ → List RadioCopy)
    × ((worker : ℕ) → worker < length group.inboxes.items → (share : Share) (taker : TakerView)
    → AreWith (slice_index_or group.shares.items worker share) (slice_index_or group.takers.items worker taker)
    (parts worker))
    × IsPermutation (packets net.agenda) (flat_map parts (up_to (length group.inboxes.items)))
