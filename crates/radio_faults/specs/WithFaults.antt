-- A net with faults, for any kind of mote.
use Rattle.std.specs.Prelude.{ℕ, if◌then◌else◌, List, [], ◌∷◌, Option}
use Rattle.radio_faults.specs.declared.fault.Fault.{Fault}
use Rattle.radio_faults.specs.Faults.{copies_with}
use Rattle.radio_faults.specs.Off.{boots, is_off, next_boot, sooner}
use Rattle.radio_packet.specs.declared.copy.RadioCopy.{RadioCopy}
use Rattle.window_laws.specs.System.{System, Turned}
use Rattle.window_laws.specs.NetStep.{NetState, Run, boot}

-- How a mote boots again: the state before the turn in which it does, which its first state and its last one tell; and the
-- line of the moment at which it does.
pub record Reboot (S L : Type 0) : Type 0 where
  pub again : (first last : S) → S
  pub line : (moment : ℕ) → L

-- a turn in which nothing happens: what was given vanishes
abbrev pub no_turn : {S L : Type 0} → S → (wake : Option ℕ) → Turned S L
no_turn state wake = record { state = state; lines = []; sends = []; wake = wake }

-- the turn, which asks for a wake at this moment too
abbrev pub waking_by : {S L : Type 0} → (moment : Option ℕ) → Turned S L → Turned S L
waking_by moment turned = record turned { wake = sooner turned.wake moment }

-- the turn, which begins with this line
abbrev pub telling : {S L : Type 0} → L → Turned S L → Turned S L
telling line turned = record turned { lines = line ∷ turned.lines }

-- the turn of a mote that is on, and that takes such turns without faults: where it boots again, it takes the turn of a mote
-- that boots
abbrev pub turn_on : {S L : Type 0} → Reboot S L → List Fault → (mote moment : ℕ) → (first : S) → (turn : S → Turned S L)
    → S → Turned S L
turn_on reboot faults mote moment first turn state =
    if boots faults mote moment then telling (reboot.line moment) (turn (reboot.again first state)) else turn state

-- The turn of a mote with faults. While it is off, nothing happens. Each turn asks for a wake at the next boot: else a mote
-- that asked for no wake would never boot again.
abbrev pub turn_with : {S L : Type 0} → Reboot S L → List Fault → (mote moment : ℕ) → (first : S) → (turn : S → Turned S L)
    → S → Turned S L
turn_with reboot faults mote moment first turn state =
    let next = next_boot faults mote moment in
    if is_off faults mote moment then no_turn state next
    else waking_by next (turn_on reboot faults mote moment first turn state)

-- a list of faults changes what becomes of the copies of a packet, and when a mote takes turns and boots, and nothing else
abbrev pub with_faults : {S L : Type 0} → Reboot S L → List Fault → System S L → System S L
with_faults reboot faults system = record system {
  turn = λ mote state moment given.
      turn_with reboot faults mote moment (system.first mote) (λ s. system.turn mote s moment given) state;
  copies = λ sent. copies_with faults (system.copies sent);
}

-- the run of the net with these faults, from the state before the first turns, ends in this state
abbrev pub RunsWith : {S L : Type 0} → Reboot S L → List Fault → System S L → (end : ℕ) → NetState S L → Type 0
RunsWith reboot faults system end last = Run (with_faults reboot faults system) end (boot system) last

-- the run with these faults up to the end passes through this state: it is there after all turns up to this moment
pub record PassesThrough {S L : Type 0} (reboot : Reboot S L) (faults : List Fault) (system : System S L) (moment : ℕ)
    (state : NetState S L) (end : ℕ) (last : NetState S L)
    : Type 0 where
  pub before : RunsWith reboot faults system moment state
  pub after : Run (with_faults reboot faults system) end state last
