-- The workers of a net between two windows.
use Rattle.std.specs.Prelude.{ℕ, ◌≡◌, ◌<◌, ◌≤◌, ◌++◌, List, length, slice_index_or, Option, Some, None}
use Rattle.std.specs.List.{filter, AllByRecursion as Each}
use Rattle.radio_packet.specs.declared.copy.RadioCopy.{RadioCopy}
use Rattle.mote_net.specs.Net.{NetModel}
use Rattle.window_laws.specs.Windows.{first_mote, Windows, NoneBefore, is_from_sender}
use Rattle.net_agenda.specs.NetSystem.{system_of}
use Rattle.copy_exchange.specs.CutLaws.{GatheredCopies}
use Rattle.copy_inbox.specs.Handles.{TakerView}
use Rattle.copy_exchange.specs.Takers.{taken_by, gathered_by}
use Rattle.copy_exchange.specs.Inboxes.{Settled}
use Rattle.worker_window.specs.declared.share.Share.{Share}
use Rattle.worker_window.specs.Share.{Motes, IsWholeShare}
use Rattle.window_workers.specs.declared.group.WorkerGroup.{WorkerGroup}

-- each mote belongs to one of this many workers
pub record IsCut (motes workers : ℕ) (owners : List ℕ) : Type 0 where
  pub len : length owners ≡ motes
  pub there : Each (λ worker. worker < workers) owners

-- the copy arrives at this moment or later; if there is no moment, there is no such copy
abbrev pub IsNotBefore : (first : Option ℕ) → RadioCopy → Type 0
IsNotBefore None copy = ⊥
IsNotBefore (Some moment) copy = moment ≤ copy.at

-- the items that a worker took from one mote are a prefix of those that it gathered; the rest are in its inbox, and
-- arrive at this moment or later
pub record TakerWaits (first : Option ℕ) (sender : ℕ) (taker : TakerView) : Type 0 where
  pub rest : List RadioCopy
  pub all : filter (is_from_sender sender) (gathered_by taker) ≡ filter (is_from_sender sender) (taken_by taker) ++ rest
  pub later : Each (IsNotBefore first) rest

-- One worker and the motes before a moment: the worker's share keeps the state of its own motes, and the worker has
-- gathered all copies from the motes of other workers to its own.
pub record IsWorkerAt (model : NetModel) (owners : List ℕ) (from : ℕ) (motes : Motes) (first : Option ℕ) (worker : ℕ)
    (share : Share) (taker : TakerView) : Type 0 where
  pub keeps : IsWholeShare model owners worker from motes (taken_by taker) share
  pub gathered : GatheredCopies (system_of model) owners motes worker (gathered_by taker)
  pub waits : (sender : ℕ) → TakerWaits first sender taker

-- The workers are ready before the moment `from`: windows from 0 to `from` led to the state `motes`, and each worker's
-- share and taker hold its part of this state.
pub record WorkersAreAt (model : NetModel) (owners : List ℕ) (from : ℕ) (group : WorkerGroup) : Type 0 where
  pub motes : Motes
  pub led : Windows (system_of model) 0 from (first_mote (system_of model)) motes
  pub cut : IsCut (length model.motes) (length group.inboxes.items) owners
  pub shares : length group.shares.items ≡ length group.inboxes.items
  pub settled : Settled group.inboxes.items group.takers.items
  pub first : NoneBefore from group.first_out
  pub each : (worker : ℕ) → worker < length group.inboxes.items → (share : Share) (taker : TakerView)
      → IsWorkerAt model owners from motes group.first_out worker
      (slice_index_or group.shares.items worker share) (slice_index_or group.takers.items worker taker)
