-- Laws of the copies that cross between workers.
use Rattle.std.specs.Prelude.{◌≡◌, ℕ, Bool, true, List}
use Rattle.std.specs.List.{filter}
use Rattle.radio_packet.specs.declared.sent.Sent.{Sent}
use Rattle.radio_packet.specs.declared.copy.RadioCopy.{RadioCopy}
use Rattle.window_laws.specs.System.{System}
use Rattle.window_laws.specs.Forward.{RunsForward}
use Rattle.window_laws.specs.Windows.{LoneMote, first_mote, Windows, is_at, is_from_sender, is_within, IsGiven}
use Rattle.window_laws.specs.Windows.{IsJoined, as_log}
use Rattle.copy_exchange.specs.Crossed.{is_own, crossed, copies_seen}
use Rattle.copy_exchange.specs.CrossesTo.{AreThoseTo}

-- this worker gathered, for each mote, the copies that the mote has sent to it across the partition
abbrev pub GatheredCopies : {S L : Type 0} → System S L → (owners : List ℕ) → (motes : (number : ℕ) → LoneMote S L)
    → (worker : ℕ) → List RadioCopy → Type 0
GatheredCopies system owners motes worker gathered =
    (sender : ℕ) → filter (is_from_sender sender) gathered ≡ crossed system owners motes worker sender

-- the copies taken are, for each mote, those that were gathered
abbrev pub HasTaken : (gathered taken : List RadioCopy) → Type 0
HasTaken gathered taken = (sender : ℕ) → filter (is_from_sender sender) taken ≡ filter (is_from_sender sender) gathered

-- at each moment of the window, the mote gets, from each sender, the copies for it that its worker has seen; there are
-- no copies at other moments
abbrev pub IsFromSources : {S L : Type 0} → System S L → (own : ℕ → Bool) → (from bound : ℕ)
    → (motes : (number : ℕ) → LoneMote S L) → (taken : List RadioCopy) → (number : ℕ)
    → (given : List RadioCopy) → Type 0
IsFromSources system own from bound motes taken number given = (moment sender : ℕ)
    → filter (is_from_sender sender) (filter (is_at moment) given)
    ≡ filter (is_at moment) (filter (is_within number from bound) (copies_seen system own motes taken sender))

-- Suppose that a worker has taken, from each mote, the copies that crossed to it. Then the copies that one of its
-- motes gets from the sources above are those that the law of windows requires.
abbrev pub WindowCopiesAreWhole : {S L : Type 0} → System S L → Type 0
WindowCopiesAreWhole {S} {L} system =
    (owners : List ℕ) (motes : (number : ℕ) → LoneMote S L) (gathered taken : List RadioCopy)
    (worker number from bound : ℕ)
    → is_own owners worker number ≡ true
    → GatheredCopies system owners motes worker gathered → HasTaken gathered taken
    → (given : List RadioCopy) → IsFromSources system (is_own owners worker) from bound motes taken number given
    → IsGiven system from bound motes number given

-- Suppose that a net runs forward and that its motes ran through windows from moment 0. Then a worker that gathered
-- the copies from each mote has gathered exactly the copies of the packets in the log that cross to it, each once.
abbrev pub CrossedOnce : {S L : Type 0} → System S L → Type 0
CrossedOnce {S} {L} system = RunsForward system → (owners : List ℕ) (from : ℕ) (motes : (number : ℕ) → LoneMote S L)
    → Windows system 0 from (first_mote system) motes
    → (worker : ℕ) (gathered : List RadioCopy) (joined : List Sent) → IsJoined system motes joined
    → GatheredCopies system owners motes worker gathered
    → AreThoseTo system.copies owners worker (as_log joined) gathered
