-- Laws of nets with faults.
use Rattle.std.specs.Prelude.{◌≡◌, ℕ, ◌<◌, ◌≤◌, false, List, [], ◌∷◌, None, IsPermutation}
use Rattle.std.specs.List.{AllByRecursion}
use Rattle.radio_packet.specs.declared.copy.RadioCopy.{RadioCopy}
use Rattle.radio_packet.specs.declared.fate.Fate.{Fate}
use Rattle.radio_packet.specs.declared.sent.Sent.{Sent}
use Rattle.radio_faults.specs.declared.fault.Fault.{Fault}
use Rattle.radio_faults.specs.Faults.{copies_with, fates_with, names}
use Rattle.radio_faults.specs.Off.{boot_by, boots, is_off, next_boot, keeps_off}
use Rattle.window_laws.specs.System.{System}
use Rattle.window_laws.specs.Forward.{RunsForward}
use Rattle.window_laws.specs.NetStep.{NetState}
use Rattle.radio_faults.specs.WithFaults.{Reboot, with_faults, RunsWith, PassesThrough}

-- without faults the net is the same
abbrev pub NoFaults : {S L : Type 0} → Reboot S L → System S L → Type 0
NoFaults reboot system = with_faults reboot [] system ≡ system

-- with faults a net runs forward as before
abbrev pub FaultsRunForward : {S L : Type 0} → Reboot S L → System S L → Type 0
FaultsRunForward reboot system = (faults : List Fault) → RunsForward system → RunsForward (with_faults reboot faults system)

-- these faults make the same of the copies of this packet
abbrev pub MakeTheSame : {S L : Type 0} → System S L → (some others : List Fault) → Sent → Type 0
MakeTheSame system some others sent = copies_with some (system.copies sent) ≡ copies_with others (system.copies sent)

-- with these faults a mote is off and boots again at the same moments up to the end, and then asks for the same wakes
pub record AreOffTheSame (some others : List Fault) (end : ℕ) : Type 0 where
  pub off : (mote moment : ℕ) → moment ≤ end → is_off some mote moment ≡ is_off others mote moment
  pub boot : (mote moment : ℕ) → moment ≤ end → boots some mote moment ≡ boots others mote moment
  pub wakes : (mote moment : ℕ) → moment ≤ end → next_boot some mote moment ≡ next_boot others mote moment

-- the run with some faults is that with others if motes are off the same up to the end, and both make the same of the
-- copies of each packet that it sends
abbrev pub CopiesDecide : {S L : Type 0} → Reboot S L → System S L → Type 0
CopiesDecide {S} {L} reboot system = (some others : List Fault) (end : ℕ) (last : NetState S L)
    → RunsWith reboot some system end last
    → AreOffTheSame some others end → AllByRecursion (MakeTheSame system some others) last.log
    → RunsWith reboot others system end last

abbrev pub IsUnnamed : Fault → RadioCopy → Type 0
IsUnnamed fault copy = names fault copy.sender copy.number copy.to ≡ false

-- no mote is off because of this fault up to the end, and none boots again
pub record LeavesOn (fault : Fault) (end : ℕ) : Type 0 where
  pub on : (mote moment : ℕ) → moment ≤ end → keeps_off fault mote moment ≡ false
  pub no_boot : (mote : ℕ) → boot_by fault mote ≡ None

-- a fault may be added that leaves all motes on, and names no copy which the other faults leave of the packets of the run
abbrev pub UnsentIsNothing : {S L : Type 0} → Reboot S L → System S L → Type 0
UnsentIsNothing {S} {L} reboot system = (faults : List Fault) (fault : Fault) (end : ℕ) (last : NetState S L)
    → RunsWith reboot faults system end last → LeavesOn fault end
    → AllByRecursion (λ sent. AllByRecursion (IsUnnamed fault) (copies_with faults (system.copies sent))) last.log
    → RunsWith reboot (fault ∷ faults) system end last

-- faults in another order make the same of all copies, and of all fates, and motes are off at the same moments
pub record OrderMeansNothing : Type 0 where
  pub of_motes : (some others : List Fault) → IsPermutation some others → (end : ℕ) → AreOffTheSame some others end
  pub of_copies : (some others : List Fault) → IsPermutation some others → (copies : List RadioCopy)
      → copies_with some copies ≡ copies_with others copies
  pub of_fates : (some others : List Fault) → IsPermutation some others → (sent : Sent) (fates : List Fate)
      → fates_with some sent fates ≡ fates_with others sent fates

-- If two lists of faults make the same of each packet that the run with the first ones sends before a moment, and motes are
-- off the same before it, then both runs pass through the same state at each earlier moment.
abbrev pub PrefixLaw : {S L : Type 0} → Reboot S L → System S L → Type 0
PrefixLaw {S} {L} reboot system = (some others : List Fault) (end moment : ℕ) (one other : NetState S L)
    → RunsWith reboot some system end one → RunsWith reboot others system end other
    → AllByRecursion (λ sent. sent.at < moment → MakeTheSame system some others sent) one.log
    → (earlier : ℕ) → earlier < moment → earlier ≤ end → AreOffTheSame some others earlier
    → (state : NetState S L) × PassesThrough reboot some system earlier state end one
    × PassesThrough reboot others system earlier state end other
