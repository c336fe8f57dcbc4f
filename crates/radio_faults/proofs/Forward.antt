-- With faults a net runs forward.
use Rattle.std.proofs.Common.{◌≡◌, ℕ, ◌≤◌, ◌+◌, nat_lt, Bool, true, false, List, [], ◌∷◌, Option, Some, None, option_map, if◌then◌else◌, refl, arith}
use Rattle.std.proofs.lemmas.Bool.{ltb-true}
use Rattle.std.specs.List.{AllByRecursion, filter_map, cons_option}
use Rattle.radio_packet.specs.declared.copy.RadioCopy.{RadioCopy}
use Rattle.radio_packet.specs.declared.sent.Sent.{Sent}
use Rattle.radio_faults.specs.declared.fault.Fault.{Fault}
use Rattle.radio_faults.specs.declared.fault.Fault.TheVariants.{Late}
use Rattle.radio_faults.specs.Faults.{names, named_arrival, copy_after, copies_with}
use Rattle.radio_faults.specs.Off.{boot_by, boots, if_later, is_off, next_boot, sooner}
use Rattle.window_laws.specs.System.{System, Turned, IsCopyOf}
use Rattle.window_laws.specs.Forward.{IsLater}
use Rattle.radio_faults.specs.WithFaults.{Reboot, no_turn, telling, turn_on, turn_with, waking_by, with_faults}
use Rattle.radio_faults.specs.NetLaws.{FaultsRunForward}

-- what is true of a copy, and of the same copy later, is true of each copy that is left of some copies
module _ (P : RadioCopy → Type 0) (later : (copy : RadioCopy) → P copy → (at : ℕ) → copy.at ≤ at → P (record copy { at = at })) where
  named_later : (fault : Fault) (copy : RadioCopy) → P copy → (rest : List RadioCopy) → AllByRecursion P rest
      → AllByRecursion P (cons_option (option_map (λ at. record copy { at = at }) (named_arrival fault copy.at)) rest)
  named_later (Late s n r by) copy is rest all = (later copy is (copy.at + by) (omega arith), all)
  named_later x copy is rest all = all

  one_later : (fault : Fault) (copy : RadioCopy) → P copy → (named : Bool) (rest : List RadioCopy) → AllByRecursion P rest
      → AllByRecursion P (cons_option (option_map (λ at. record copy { at = at }) (if named then named_arrival fault copy.at else Some copy.at)) rest)
  one_later fault copy is true rest all = named_later fault copy is rest all
  one_later fault copy is false rest all = (is, all)

  after_later : (fault : Fault) (copies : List RadioCopy) → AllByRecursion P copies → AllByRecursion P (filter_map (copy_after fault) copies)
  after_later fault [] all = tt
  after_later fault (copy ∷ copies) all =
      one_later fault copy all.0 (names fault copy.sender copy.number copy.to) (filter_map (copy_after fault) copies) (after_later fault copies all.1)

  pub with_later : (faults : List Fault) (copies : List RadioCopy) → AllByRecursion P copies → AllByRecursion P (copies_with faults copies)
  with_later [] copies all = all
  with_later (fault ∷ faults) copies all = after_later fault (copies_with faults copies) (with_later faults copies all)

-- being a copy asks only for the number of motes and the lookahead
same_copies : {S L : Type 0} (reboot : Reboot S L) (system : System S L) (faults : List Fault) (sent : Sent) (copies : List RadioCopy) → AllByRecursion (IsCopyOf system sent) copies
    → AllByRecursion (IsCopyOf (with_faults reboot faults system) sent) copies
same_copies reboot system faults sent [] all = tt
same_copies reboot system faults sent (copy ∷ copies) all =
    (record { sender = all.0.sender; to = all.0.to; later = all.0.later }, same_copies reboot system faults sent copies all.1)

pub sooner_is_later : (moment : ℕ) (a b : Option ℕ) → IsLater moment a → IsLater moment b → IsLater moment (sooner a b)
sooner_is_later moment a None h k = h
sooner_is_later moment None (Some b) h k = k
sooner_is_later moment (Some a) (Some b) h k = omega arith

-- the next boot is later
boots_later : (faults : List Fault) (mote moment : ℕ) → IsLater moment (next_boot faults mote moment)
boots_later [] mote moment = tt
boots_later (fault ∷ faults) mote moment = sooner_is_later moment (next_boot faults mote moment) (if_later moment (boot_by fault mote)) (boots_later faults mote moment) (one (boot_by fault mote))
  where
    when : (boot : ℕ) (is : Bool) → nat_lt moment boot ≡ is → IsLater moment (if is then Some boot else None)
    when boot true e = ltb-true moment boot e
    when boot false e = tt

    one : (boot : Option ℕ) → IsLater moment (if_later moment boot)
    one None = tt
    one (Some boot) = when boot (nat_lt moment boot) refl

-- what is true of a turn in which nothing happens, of the turn without faults, and of that of a mote that boots again, is
-- true of the turn with faults
pub turn_either : {S L : Type 0} (reboot : Reboot S L) (faults : List Fault) (mote moment : ℕ) (first : S) (turn : S → Turned S L) (state : S) (P : Turned S L → Type 0)
    → ((wake : Option ℕ) → IsLater moment wake → P (no_turn state wake))
    → ((wake : Option ℕ) → IsLater moment wake → P (waking_by wake (turn state)))
    → ((wake : Option ℕ) → IsLater moment wake → boots faults mote moment ≡ true → P (waking_by wake (telling (reboot.line moment) (turn (reboot.again first state)))))
    → P (turn_with reboot faults mote moment first turn state)
turn_either reboot faults mote moment first turn state P off on again = when (is_off faults mote moment)
  where
    is_on : (is : Bool) → boots faults mote moment ≡ is → P (waking_by (next_boot faults mote moment) (if is then telling (reboot.line moment) (turn (reboot.again first state)) else turn state))
    is_on true e = again (next_boot faults mote moment) (boots_later faults mote moment) e
    is_on false e = on (next_boot faults mote moment) (boots_later faults mote moment)

    when : (is : Bool) → P (if is then no_turn state (next_boot faults mote moment) else waking_by (next_boot faults mote moment) (turn_on reboot faults mote moment first turn state))
    when true = off (next_boot faults mote moment) (boots_later faults mote moment)
    when false = is_on (boots faults mote moment) refl

pub faults_run_forward : {S L : Type 0} (reboot : Reboot S L) (system : System S L) → FaultsRunForward reboot system
faults_run_forward reboot system faults fine = record {
  some_lookahead = fine.some_lookahead;
  wakes_later = λ mote state moment given. turn_either reboot faults mote moment (system.first mote) (λ s. system.turn mote s moment given) state (λ turned. IsLater moment turned.wake)
      (λ wake later. later)
      (λ wake later. sooner_is_later moment _ wake (fine.wakes_later mote state moment given) later)
      (λ wake later e. sooner_is_later moment _ wake (fine.wakes_later mote (reboot.again (system.first mote) state) moment given) later);
  copies_later = λ sent. same_copies reboot system faults sent _ (with_later (IsCopyOf system sent)
      (λ copy is at le. record { sender = is.sender; to = is.to; later = let h = is.later in omega arith }) faults (system.copies sent) (fine.copies_later sent));
}
