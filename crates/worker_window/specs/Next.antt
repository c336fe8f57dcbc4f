-- The first pending event of a share.
use Rattle.std.specs.Prelude.{ℕ, ◌≤◌, List, Option}
use Rattle.std.specs.List.{filter, AllByRecursion as Each}
use Rattle.radio_packet.specs.declared.copy.RadioCopy.{RadioCopy}
use Rattle.mote_net.specs.Net.{NetModel}
use Rattle.window_laws.specs.Windows.{NoneBefore}
use Rattle.net_agenda.specs.NetSystem.{system_of}
use Rattle.copy_exchange.specs.Crossed.{is_own, copies_seen}
use Rattle.worker_window.specs.declared.share.Share.{Share}
use Rattle.worker_window.specs.Share.{Motes, IsWholeShare, is_to_come}

-- the copies from this sender that the worker has seen and that are still on their way to its motes
abbrev pub copies_to_come : NetModel → (owners : List ℕ) → (worker from : ℕ) → Motes → (taken : List RadioCopy)
    → (sender : ℕ) → List RadioCopy
copies_to_come model owners worker from motes taken sender =
    let own = is_own owners worker in filter (is_to_come own from)
    (copies_seen (system_of model) own motes taken sender)

-- For a share at the moment `from`, no event is pending before `next`. `next` isn't before `from`, the share is still
-- valid at each moment from `from` to `next`, and no copy arrives before `next`. Without a `next`, no event is pending.
pub record IsNextFrom (model : NetModel) (owners : List ℕ) (worker from : ℕ) (motes : Motes) (taken : List RadioCopy)
    (share : Share) (next : Option ℕ) : Type 0 where
  pub wakes : NoneBefore from next
  pub idle : (moment : ℕ) → from ≤ moment → NoneBefore moment next
      → IsWholeShare model owners worker moment motes taken share
  pub no_copies : (moment : ℕ) → NoneBefore moment next → (sender : ℕ)
      → Each (λ copy. moment ≤ copy.at) (copies_to_come model owners worker from motes taken sender)

-- this is the moment of the first pending event, for any worker and any moment of the share
abbrev pub TellsNext : Share → (next : Option ℕ) → Type 0
TellsNext share next = (model : NetModel) (owners : List ℕ) (worker from : ℕ) (motes : Motes) (taken : List RadioCopy)
    → IsWholeShare model owners worker from motes taken share
    → IsNextFrom model owners worker from motes taken share next
