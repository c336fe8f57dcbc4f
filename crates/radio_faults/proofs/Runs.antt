-- Runs with the same turns and the same copies.
use Rattle.std.proofs.Common.{◌≡◌, ℕ, ◌≤◌, Bool, if◌then◌else◌, List, [], ◌∷◌, ◌++◌, map, Option, refl, sym, ap, ap₂, ◌∙◌, subst}
use Rattle.std.specs.List.{filter, filter_map, flat_map, AllByRecursion}
use Rattle.radio_packet.specs.declared.sent.Sent.{Sent}
use Rattle.radio_packet.specs.declared.copy.RadioCopy.{RadioCopy}
use Rattle.window_laws.specs.System.{System, Turned}
use Rattle.window_laws.specs.Agenda.{Packet, is_left, wake_items}
use Rattle.window_laws.specs.NetStep.{NetState, Run, Done, Turn, after_turn, put, sends_of, turned_at}
use Rattle.window_laws.proofs.Lists.{every_weaker}
use Rattle.radio_faults.specs.declared.fault.Fault.{Fault}
use Rattle.radio_faults.specs.Faults.{copies_with, copy_after}
use Rattle.radio_faults.specs.Off.{boots, if_later, is_off, next_boot, sooner}
use Rattle.radio_faults.specs.WithFaults.{Reboot, no_turn, telling, waking_by, with_faults}
use Rattle.radio_faults.specs.NetLaws.{AreOffTheSame, CopiesDecide, IsUnnamed, LeavesOn, UnsentIsNothing}

both_parts : {X : Type 0} (P : X → Type 0) (xs ys : List X) → AllByRecursion P (xs ++ ys) → AllByRecursion P xs × AllByRecursion P ys
both_parts P [] ys all = (tt, all)
both_parts P (x ∷ xs) ys all = let rest = both_parts P xs ys all.1 in ((all.0, rest.0), rest.1)

pub same_flat : {X Y : Type 0} (f g : X → List Y) (xs : List X) → AllByRecursion (λ x. f x ≡ g x) xs → flat_map f xs ≡ flat_map g xs
same_flat f g [] same = refl
same_flat f g (x ∷ xs) same = ap₂ (λ a b. a ++ b) same.0 (same_flat f g xs same.1)

module _ {S L : Type 0} (system : System S L) (end : ℕ) where
  -- what is true of each packet of a run is true of each packet of its beginning
  pub begins : (P : Sent → Type 0) {net last : NetState S L} → Run system end net last → AllByRecursion P last.log → AllByRecursion P net.log
  begins P (Done late) all = all
  begins P {net} (Turn moment mote least le rest) all = (both_parts P net.log (sends_of moment mote (turned_at system moment mote net)) (begins P rest all)).0

  -- another system makes the same of each turn up to the end
  abbrev pub TurnsAre : System S L → Type 0
  TurnsAre other = (mote : ℕ) (state : S) (moment : ℕ) (given : List RadioCopy) → moment ≤ end → system.turn mote state moment given ≡ other.turn mote state moment given

  pub run_with_same : (other : System S L) → TurnsAre other → {net last : NetState S L} → Run system end net last
      → AllByRecursion (λ sent. system.copies sent ≡ other.copies sent) last.log → Run other end net last
  run_with_same other turns (Done late) same = Done late
  run_with_same other turns {net} {last} (Turn moment mote least le rest) same =
      let turned = turned_at system moment mote net in
      let sent = (both_parts (λ sent. system.copies sent ≡ other.copies sent) net.log (sends_of moment mote turned) (begins (λ sent. system.copies sent ≡ other.copies sent) rest same)).1 in
      let next : Run other end (after_turn other moment mote net turned) last = subst
      (λ given. Run other end
      (record {
        states = put net.states mote turned.state;
        traces = put net.traces mote (net.traces mote ++ turned.lines);
        agenda = filter (is_left moment mote) net.agenda ++ (wake_items mote turned.wake ++ map Packet given);
        log = net.log ++ sends_of moment mote turned;
      }) last)
      (same_flat system.copies other.copies (sends_of moment mote turned) sent)
      (run_with_same other turns rest same) in
      Turn moment mote least le (subst (λ (t : Turned S L). Run other end (after_turn other moment mote net t) last) (turns mote (net.states mote) moment _ le) next)

-- a fault that names none of some copies leaves them
pub untouched : (fault : Fault) (copies : List RadioCopy) → AllByRecursion (IsUnnamed fault) copies → copies ≡ filter_map (copy_after fault) copies
untouched fault [] all = refl
untouched fault (copy ∷ copies) all = rw all.0 (ap (λ t. copy ∷ t) (untouched fault copies all.1))

pub still_on : (fault : Fault) (faults : List Fault) (end : ℕ) → LeavesOn fault end → AreOffTheSame faults (fault ∷ faults) end
still_on fault faults end leaves = record {
  off = λ mote moment le. rw (leaves.on mote moment le) refl;
  boot = λ mote moment le. rw (leaves.no_boot mote) refl;
  wakes = λ mote moment le. ap (λ boot. sooner (next_boot faults mote moment) (if_later moment boot)) (sym (leaves.no_boot mote));
}

module _ {S L : Type 0} (reboot : Reboot S L) (system : System S L) where
  pub turns_with_same : (some others : List Fault) (end : ℕ) → AreOffTheSame some others end → TurnsAre (with_faults reboot some system) end (with_faults reboot others system)
  turns_with_same some others end same mote state moment given le =
      let turn : (off boots : Bool) (wake : Option ℕ) → Turned S L = λ off boots wake.
      if off then no_turn state wake
      else waking_by wake
      (if boots then telling (reboot.line moment) (system.turn mote (reboot.again (system.first mote) state) moment given) else system.turn mote state moment given) in
      ap₂ (λ off boots. turn off boots (next_boot some mote moment)) (same.off mote moment le) (same.boot mote moment le)
      ∙ ap (turn (is_off others mote moment) (boots others mote moment)) (same.wakes mote moment le)

  pub copies_decide : CopiesDecide reboot system
  copies_decide some others end last run off same =
      run_with_same (with_faults reboot some system) end (with_faults reboot others system) (turns_with_same some others end off) run same

  pub unsent_is_nothing : UnsentIsNothing reboot system
  unsent_is_nothing faults fault end last run on none =
      copies_decide faults (fault ∷ faults) end last run (still_on fault faults end on)
      (every_weaker _ _ (λ sent all. untouched fault (copies_with faults (system.copies sent)) all) last.log none)
