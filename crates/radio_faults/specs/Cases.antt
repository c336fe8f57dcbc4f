-- Cases by hand. The faults are the examples of sentences about faults, one of each kind, and two sentences at once; each
-- is tried on copies that it speaks of and on those that differ in one thing.
use Rattle.std.specs.Prelude.{◌≡◌, ℕ, List, [], ◌∷◌, Some, None}
use Rattle.radio_packet.specs.declared.copy.RadioCopy.{RadioCopy}
use Rattle.radio_faults.specs.declared.fault.Fault.TheVariants.{Link, Silent, Lost, LostToAll, Late, Off}
use Rattle.radio_faults.specs.Faults.{copies_with}
use Rattle.window_laws.specs.System.{Turned}
use Rattle.radio_faults.specs.WithFaults.{Reboot, no_turn, telling, turn_with, waking_by}

-- the copy of packet n of mote s that arrives at mote r at moment 20
abbrev pub copy : (s n r : ℕ) → RadioCopy
copy s n r = record { at = 20; to = r; sender = s; number = n; value = 7 }

-- "link 1 to 2 is broken": nothing of mote 1 arrives at mote 2; the link back isn't broken
pub record LinkIsBroken : Type 0 where
  pub first : copies_with (Link 1 2 ∷ []) (copy 1 0 0 ∷ copy 1 0 2 ∷ copy 1 0 3 ∷ []) ≡ copy 1 0 0 ∷ copy 1 0 3 ∷ []
  pub later : copies_with (Link 1 2 ∷ []) (copy 1 9 2 ∷ []) ≡ []
  pub back : copies_with (Link 1 2 ∷ []) (copy 2 0 1 ∷ copy 2 0 3 ∷ []) ≡ copy 2 0 1 ∷ copy 2 0 3 ∷ []

-- "mote 3 is silent": nobody hears it, and it hears others
pub record MoteIsSilent : Type 0 where
  pub sends : copies_with (Silent 3 ∷ []) (copy 3 4 1 ∷ copy 3 4 2 ∷ []) ≡ []
  pub hears : copies_with (Silent 3 ∷ []) (copy 1 4 2 ∷ copy 1 4 3 ∷ []) ≡ copy 1 4 2 ∷ copy 1 4 3 ∷ []

-- "packet 3 of mote 2 is lost on the way to mote 5": its copies for others arrive, as do other packets of mote 2
pub record PacketIsLostOnOneWay : Type 0 where
  pub packet : copies_with (Lost 2 3 5 ∷ []) (copy 2 3 4 ∷ copy 2 3 5 ∷ copy 2 3 6 ∷ []) ≡ copy 2 3 4 ∷ copy 2 3 6 ∷ []
  pub next : copies_with (Lost 2 3 5 ∷ []) (copy 2 4 5 ∷ []) ≡ copy 2 4 5 ∷ []
  pub back : copies_with (Lost 2 3 5 ∷ []) (copy 5 3 2 ∷ []) ≡ copy 5 3 2 ∷ []

-- "packet 3 of mote 2 is lost": that for all who hear it
pub record PacketIsLost : Type 0 where
  pub packet : copies_with (LostToAll 2 3 ∷ []) (copy 2 3 1 ∷ copy 2 3 4 ∷ copy 2 3 5 ∷ []) ≡ []
  pub next : copies_with (LostToAll 2 3 ∷ []) (copy 2 4 1 ∷ []) ≡ copy 2 4 1 ∷ []
  pub of_other : copies_with (LostToAll 2 3 ∷ []) (copy 3 3 2 ∷ []) ≡ copy 3 3 2 ∷ []

-- "packet 3 of mote 2 is 4 late on the way to mote 5": there at 24, elsewhere at 20; two such faults make it 6 late; and
-- it doesn't arrive at all if another fault loses it
pub record PacketIsLate : Type 0 where
  pub packet : copies_with (Late 2 3 5 4 ∷ []) (copy 2 3 4 ∷ copy 2 3 5 ∷ [])
      ≡ copy 2 3 4 ∷ record { at = 24; to = 5; sender = 2; number = 3; value = 7 } ∷ []
  pub next : copies_with (Late 2 3 5 4 ∷ []) (copy 2 4 5 ∷ []) ≡ copy 2 4 5 ∷ []
  pub twice : copies_with (Late 2 3 5 4 ∷ Late 2 3 5 2 ∷ []) (copy 2 3 5 ∷ [])
      ≡ record { at = 26; to = 5; sender = 2; number = 3; value = 7 } ∷ []
  pub lost : copies_with (Late 2 3 5 4 ∷ LostToAll 2 3 ∷ []) (copy 2 3 5 ∷ []) ≡ []

-- "link 1 to 3 is broken and mote 2 is silent": of what motes 1, 2 and 3 send to one another, three copies arrive
pub record LinkIsBrokenAndMoteIsSilent : Type 0 where
  pub of_1 : copies_with (Link 1 3 ∷ Silent 2 ∷ []) (copy 1 0 2 ∷ copy 1 0 3 ∷ []) ≡ copy 1 0 2 ∷ []
  pub of_2 : copies_with (Link 1 3 ∷ Silent 2 ∷ []) (copy 2 0 1 ∷ copy 2 0 3 ∷ []) ≡ []
  pub of_3 : copies_with (Link 1 3 ∷ Silent 2 ∷ []) (copy 3 0 1 ∷ copy 3 0 2 ∷ []) ≡ copy 3 0 1 ∷ copy 3 0 2 ∷ []

-- The cases of a mote that is off are those of a mote with this first state, this state and these turns.

-- "mote 4 is off from 40 on": it takes its turn at 39, and none at 40 or later; mote 3 takes each turn
pub record MoteIsOffForever {S L : Type 0} (reboot : Reboot S L) (first state : S) (turn : S → Turned S L) : Type 0 where
  pub before : turn_with reboot (Off 4 40 None ∷ []) 4 39 first turn state ≡ turn state
  pub at : turn_with reboot (Off 4 40 None ∷ []) 4 40 first turn state ≡ no_turn state None
  pub later : turn_with reboot (Off 4 40 None ∷ []) 4 99 first turn state ≡ no_turn state None
  pub other : turn_with reboot (Off 4 40 None ∷ []) 3 40 first turn state ≡ turn state

-- the turn of a mote that boots again at this moment
abbrev pub boot_turn : {S L : Type 0} → Reboot S L → (moment : ℕ) → (first : S) → (turn : S → Turned S L) → S → Turned S L
boot_turn reboot moment first turn state = telling (reboot.line moment) (turn (reboot.again first state))

-- "mote 4 is off from 40 to 80": in its turns before 80 it asks for a wake at 80, from 40 on it does nothing else, at 80 it
-- boots again, and then it takes each turn; mote 3 takes each turn
pub record MoteIsOff {S L : Type 0} (reboot : Reboot S L) (first state : S) (turn : S → Turned S L) : Type 0 where
  pub before : turn_with reboot (Off 4 40 (Some 80) ∷ []) 4 39 first turn state ≡ waking_by (Some 80) (turn state)
  pub first_off : turn_with reboot (Off 4 40 (Some 80) ∷ []) 4 40 first turn state ≡ no_turn state (Some 80)
  pub last_off : turn_with reboot (Off 4 40 (Some 80) ∷ []) 4 79 first turn state ≡ no_turn state (Some 80)
  pub at : turn_with reboot (Off 4 40 (Some 80) ∷ []) 4 80 first turn state ≡ boot_turn reboot 80 first turn state
  pub later : turn_with reboot (Off 4 40 (Some 80) ∷ []) 4 81 first turn state ≡ turn state
  pub other : turn_with reboot (Off 4 40 (Some 80) ∷ []) 3 40 first turn state ≡ turn state

-- "mote 4 is off from 0 to 40": it waits for 40, and boots then
pub record MoteStartsLate {S L : Type 0} (reboot : Reboot S L) (first state : S) (turn : S → Turned S L) : Type 0 where
  pub first_off : turn_with reboot (Off 4 0 (Some 40) ∷ []) 4 0 first turn state ≡ no_turn state (Some 40)
  pub at : turn_with reboot (Off 4 0 (Some 40) ∷ []) 4 40 first turn state ≡ boot_turn reboot 40 first turn state

-- "mote 4 restarts at 40": it is never off, boots again at 40, and does so too if it asks for no wake itself
pub record MoteRestarts {S L : Type 0} (reboot : Reboot S L) (first state : S) (turn : S → Turned S L) : Type 0 where
  pub before : turn_with reboot (Off 4 40 (Some 40) ∷ []) 4 39 first turn state ≡ waking_by (Some 40) (turn state)
  pub without_wake : turn_with reboot (Off 4 40 (Some 40) ∷ []) 4 39 first (λ s. no_turn s None) state ≡ no_turn state (Some 40)
  pub at : turn_with reboot (Off 4 40 (Some 40) ∷ []) 4 40 first turn state ≡ boot_turn reboot 40 first turn state
  pub later : turn_with reboot (Off 4 40 (Some 40) ∷ []) 4 41 first turn state ≡ turn state

-- a mote that is off because of two faults boots at the end of the later one only; and after its death never
pub record OffWins {S L : Type 0} (reboot : Reboot S L) (first state : S) (turn : S → Turned S L) : Type 0 where
  pub still_off : turn_with reboot (Off 4 20 (Some 40) ∷ Off 4 30 (Some 60) ∷ []) 4 40 first turn state ≡ no_turn state (Some 60)
  pub at : turn_with reboot (Off 4 20 (Some 40) ∷ Off 4 30 (Some 60) ∷ []) 4 60 first turn state
      ≡ boot_turn reboot 60 first turn state
  pub dead : turn_with reboot (Off 4 40 (Some 40) ∷ Off 4 30 None ∷ []) 4 40 first turn state ≡ no_turn state None

-- a mote that restarts twice boots at both moments
pub record MoteBootsTwice {S L : Type 0} (reboot : Reboot S L) (first state : S) (turn : S → Turned S L) : Type 0 where
  pub before : turn_with reboot (Off 4 60 (Some 60) ∷ Off 4 40 (Some 40) ∷ []) 4 39 first turn state ≡ waking_by (Some 40) (turn state)
  pub once : turn_with reboot (Off 4 60 (Some 60) ∷ Off 4 40 (Some 40) ∷ []) 4 40 first turn state
      ≡ waking_by (Some 60) (boot_turn reboot 40 first turn state)
  pub twice : turn_with reboot (Off 4 60 (Some 60) ∷ Off 4 40 (Some 40) ∷ []) 4 60 first turn state
      ≡ boot_turn reboot 60 first turn state
