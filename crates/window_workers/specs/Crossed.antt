-- The copies that reached the workers through their inboxes.
use Rattle.std.specs.Prelude.{ℕ, ◌≡◌, List, map, IsPermutation, Some, slice_get}
use Rattle.std.specs.List.{filter}
use Rattle.radio_packet.specs.declared.sent.Sent.{Sent}
use Rattle.radio_medium.specs.Medium.{copies}
use Rattle.mote_net.specs.Net.{NetModel}
use Rattle.copy_inbox.specs.Handles.{InboxId, TakerView}
use Rattle.copy_exchange.specs.Takers.{taken_by, gathered_by}
use Rattle.copy_exchange.specs.CrossesTo.{AreThoseTo}
use Rattle.mote_net.specs.Report.{ReportModel}
use Rattle.serial_run.specs.Counted.{is_by}

-- an inbox with its taker, as contracts see them
abbrev pub Pair : Type 0
Pair = InboxId × TakerView

-- the packets of a report's log
abbrev pub logged_packets : ReportModel → List Sent
logged_packets r = map (λ packet. packet.sent) r.log

-- The gathered senders on this worker's inbox pushed exactly those copies of these packets that go from a mote of
-- another worker to a mote of this worker, each once; and the copies that arrive no later than the end were taken.
pub record CrossedTo (model : NetModel) (owners : List ℕ) (log : List Sent) (worker : ℕ)
    (taker : TakerView) : Type 0 where
  pub gathered : AreThoseTo (copies model.radio) owners worker log (gathered_by taker)
  pub taken : IsPermutation (filter (is_by model.end) (gathered_by taker)) (filter (is_by model.end) (taken_by taker))

-- for each worker, the copies for it in the report's log crossed to it; the inboxes are in the order of the workers
abbrev pub AllCrossed : NetModel → (owners : List ℕ) → ReportModel → List Pair → Type 0
AllCrossed model owners r pairs = (worker : ℕ) (pair : Pair) → slice_get pairs worker ≡ Some pair
    → CrossedTo model owners (logged_packets r) worker pair.1
