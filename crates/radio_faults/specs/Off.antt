-- Motes that are off, and boot again.
use Rattle.std.specs.Prelude.{ℕ, nat_le, nat_lt, min, ◌==◌, ◌&&◌, Bool, true, false, if◌then◌else◌, List, [], ◌∷◌, Option, Some, None}
use Rattle.std.specs.List.{list_any}
use Rattle.radio_faults.specs.declared.fault.Fault.{Fault}
use Rattle.radio_faults.specs.declared.fault.Fault.TheVariants.{Off}

-- there is no such moment, or it is later than this one
abbrev pub is_before : (moment : ℕ) → Option ℕ → Bool
is_before moment None = true
is_before moment (Some other) = nat_lt moment other

-- there is such a moment, and it is this one
abbrev pub is_at : (moment : ℕ) → Option ℕ → Bool
is_at moment None = false
is_at moment (Some other) = other == moment

-- the moment, if it is later than this one
abbrev pub if_later : (moment : ℕ) → Option ℕ → Option ℕ
if_later moment None = None
if_later moment (Some other) = if nat_lt moment other then Some other else None

-- the sooner of two moments that may be none
abbrev pub sooner : Option ℕ → Option ℕ → Option ℕ
sooner a None = a
sooner None (Some b) = Some b
sooner (Some a) (Some b) = Some (min a b)

-- the mote is off at this moment because of this fault
abbrev pub keeps_off : Fault → (mote moment : ℕ) → Bool
keeps_off (Off k from until) mote moment = (k == mote) && (nat_le from moment && is_before moment until)
keeps_off fault mote moment = false

-- the mote is off at this moment
abbrev pub is_off : List Fault → (mote moment : ℕ) → Bool
is_off faults mote moment = list_any (λ fault. keeps_off fault mote moment) faults

-- the moment at which the mote boots again because of this fault
abbrev pub boot_by : Fault → (mote : ℕ) → Option ℕ
boot_by (Off k from until) mote = if k == mote then until else None
boot_by fault mote = None

-- the mote boots again at this moment, unless it is off
abbrev pub boots : List Fault → (mote moment : ℕ) → Bool
boots faults mote moment = list_any (λ fault. is_at moment (boot_by fault mote)) faults

-- the next moment, later than this one, at which the mote may boot again
abbrev pub next_boot : List Fault → (mote moment : ℕ) → Option ℕ
next_boot [] mote moment = None
next_boot (fault ∷ faults) mote moment = sooner (next_boot faults mote moment) (if_later moment (boot_by fault mote))
