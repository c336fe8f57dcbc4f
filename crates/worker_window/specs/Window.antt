-- The effect of a window on a worker's motes, and the copies that these motes send to other workers.
use Rattle.std.specs.Prelude.{ℕ, ◌≡◌, ◌+◌, ◌<◌, ◌≤◌, Bool, true, false, if◌then◌else◌, List, [], ◌++◌, length}
use Rattle.std.specs.List.{filter, AllByRecursion as Each}
use Rattle.radio_packet.specs.declared.copy.RadioCopy.{RadioCopy}
use Rattle.mote_net.specs.Net.{NetModel}
use Rattle.window_laws.specs.Windows.{Alone, copies_by, is_from_sender}
use Rattle.net_agenda.specs.NetSystem.{system_of}
use Rattle.copy_exchange.specs.Crossed.{is_for_others, is_own, IsExpected}
use Rattle.copy_exchange.specs.CutLaws.{IsFromSources}
use Rattle.worker_window.specs.declared.share.Share.{Share}
use Rattle.worker_window.specs.Share.{Motes, IsWholeShare}

-- A mote runs by itself on copies that the worker has seen. At each moment of the window, it gets the copies for it
-- from each sender, in the order of sending; it gets no other copies.
pub record RunsOwnMote (model : NetModel) (own : ℕ → Bool) (from until : ℕ) (motes next : Motes)
    (taken : List RadioCopy)
    (number : ℕ) : Type 0 where
  pub given : List RadioCopy
  pub is_given : IsFromSources (system_of model) own from until motes taken number given
  pub alone : Alone (system_of model) number until given (motes number) (next number)

-- the outgoing copies of the packets that a mote of this worker has sent so far, in the order of sending; none if the
-- mote belongs to another worker
abbrev pub outgoing_by : NetModel → (own : ℕ → Bool) → Motes → (sender : ℕ) → List RadioCopy
outgoing_by model own motes sender =
    if own sender then filter (is_for_others own) (copies_by (system_of model) motes sender) else []

-- A worker has run a window: each of its motes ran by itself, and all other motes are unchanged. The new share contains
-- the states of the motes at the window's end. The outgoing copies of each sender are the copies that it sent to other
-- workers in the window; none of them arrives before the window's end.
pub record RunsWindow (model : NetModel) (owners : List ℕ) (worker from until : ℕ) (motes : Motes)
    (taken : List RadioCopy)
    (new : Share) (outgoing : List RadioCopy) : Type 0 where
  pub next : Motes
  pub runs : (k : ℕ) → is_own owners worker k ≡ true
      → RunsOwnMote model (is_own owners worker) from until motes next taken k
  pub others : (k : ℕ) → is_own owners worker k ≡ false → next k ≡ motes k
  pub keeps : IsWholeShare model owners worker until next taken new
  pub out : (s : ℕ) → outgoing_by model (is_own owners worker) next s ≡ outgoing_by model (is_own owners worker) motes s
      ++ filter (is_from_sender s) outgoing
  pub late : Each (λ (copy : RadioCopy). until ≤ copy.at) outgoing

-- For each moment `from` <= `until` at which `old` was a whole share (`IsWholeShare`): if until - from <= lookahead
-- and each copy that arrived is expected, then `new` is the share after the window, and `outgoing` are the outgoing
-- copies.
abbrev pub RunsThrough : NetModel → (owners : List ℕ) → (until : ℕ) → (arrived : List RadioCopy) → (old new : Share)
    → (outgoing : List RadioCopy) → Type 0
RunsThrough model owners until arrived old new outgoing = (worker from : ℕ) (motes : Motes) (taken : List RadioCopy)
    → IsWholeShare model owners worker from motes taken old → from ≤ until → until ≤ from + (system_of model).lookahead
    → Each (IsExpected owners worker from) arrived
    → RunsWindow model owners worker from until motes (taken ++ arrived) new outgoing

-- for each moment `from` at which `old` was a whole share: if each copy that arrived is expected, then `new` is the
-- same as `old` at `from`, except that these copies are among those that it has taken
abbrev pub TakesIn : (arrived : List RadioCopy) → (old new : Share) → Type 0
TakesIn arrived old new = (model : NetModel) (owners : List ℕ) (worker from : ℕ) (motes : Motes)
    (taken : List RadioCopy)
    → IsWholeShare model owners worker from motes taken old → Each (IsExpected owners worker from) arrived
    → IsWholeShare model owners worker from motes (taken ++ arrived) new

-- the copy is from a mote of this worker to a mote of the net that belongs to another worker
pub record IsOutgoing (model : NetModel) (owners : List ℕ) (worker : ℕ) (copy : RadioCopy) : Type 0 where
  pub sender : is_own owners worker copy.sender ≡ true
  pub to : is_own owners worker copy.to ≡ false
  pub there : copy.to < length model.motes

-- The share can run through a window up to this bound: it is the share of some worker at some moment, which isn't
-- after the bound, and each copy that arrived is expected at that moment.
pub record CanRun (model : NetModel) (owners : List ℕ) (until : ℕ) (share : Share)
    (arrived : List RadioCopy) : Type 0 where
  pub worker : ℕ
  pub from : ℕ
  pub motes : Motes
  pub taken : List RadioCopy
  pub keeps : IsWholeShare model owners worker from motes taken share
  pub order : from ≤ until
  pub expected : Each (IsExpected owners worker from) arrived
