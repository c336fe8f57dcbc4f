-- The partition of the motes among workers, and the copies that cross from one worker to another.
use Rattle.std.specs.Prelude.{ℕ, ◌≡◌, ◌≤◌, Bool, true, false, not, ◌==◌, if◌then◌else◌, List, []}
use Rattle.std.specs.List.{filter, slice_get}
use Rattle.std.specs.Option.{option_map_or}
use Rattle.radio_packet.specs.declared.copy.RadioCopy.{RadioCopy}
use Rattle.window_laws.specs.System.{System}
use Rattle.window_laws.specs.Windows.{LoneMote, copies_by, is_from_sender}

-- this worker has this mote
abbrev pub is_own : (owners : List ℕ) → (worker mote : ℕ) → Bool
is_own owners worker mote = option_map_or (λ w. w == worker) (slice_get owners mote) false

-- the copy is for a mote of this worker
abbrev pub is_to : (owners : List ℕ) → (worker : ℕ) → RadioCopy → Bool
is_to owners worker copy = is_own owners worker copy.to

-- the copy isn't for a mote of this worker
abbrev pub is_for_others : (own : ℕ → Bool) → RadioCopy → Bool
is_for_others own copy = not (own copy.to)

-- the copy is for a mote of this worker, isn't from a mote of this worker, and arrives at this moment or later
pub record IsExpected (owners : List ℕ) (worker from : ℕ) (copy : RadioCopy) : Type 0 where
  pub to : is_own owners worker copy.to ≡ true
  pub sender : is_own owners worker copy.sender ≡ false
  pub later : from ≤ copy.at

-- the copies that this mote has sent to motes of this worker; none if the mote itself belongs to this worker
abbrev pub crossed : {S L : Type 0} → System S L → (owners : List ℕ) → (motes : (number : ℕ) → LoneMote S L)
    → (worker sender : ℕ) → List RadioCopy
crossed system owners motes worker sender =
    if is_own owners worker sender then [] else filter (is_to owners worker) (copies_by system motes sender)

-- the copies from this mote that a worker has seen: all copies if the mote belongs to the worker, otherwise the copies
-- that the worker took
abbrev pub copies_seen : {S L : Type 0} → System S L → (own : ℕ → Bool) → (motes : (number : ℕ) → LoneMote S L)
    → (taken : List RadioCopy) → (sender : ℕ) → List RadioCopy
copies_seen system own motes taken sender =
    if own sender then copies_by system motes sender else filter (is_from_sender sender) taken
