-- The copies that a turn gets are for its mote, and arrive at its moment.
use Rattle.std.proofs.Common.{◌≡◌, ℕ, List, [], ◌∷◌, inl, inr}
use Rattle.std.specs.List.{filter, AllByRecursion}
use Rattle.std.proofs.lemmas.Bool.{cases_Bool}
use Rattle.std.proofs.lemmas.List.Elements.{All-from_recursion, recursion_from_All}
use Rattle.std.proofs.lemmas.List.Sorted.{All-permutation}
use Rattle.radio_packet.specs.declared.copy.RadioCopy.{RadioCopy}
use Rattle.window_laws.specs.System.{System}
use Rattle.window_laws.specs.Agenda.{Item, Wake, Packet, comes_at, packets}
use Rattle.window_laws.specs.Order.{in_order}
use Rattle.window_laws.proofs.Agenda.{same_place}
use Rattle.window_laws.proofs.Order.{sorted_permutes}
use Rattle.window_laws.specs.NetStep.{NetState, Run, Done, Turn}
use Rattle.serial_run.specs.Counted.{turns, IsGivenInTime, CopiesComeInTime}

abbrev IsInTime : (t m : ℕ) → RadioCopy → Type 0
IsInTime t m copy = (copy.at ≡ t) × (copy.to ≡ m)

in_time : (t m : ℕ) (items : List Item) → AllByRecursion (IsInTime t m) (packets (filter (comes_at t m) items))
in_time t m [] = tt
in_time t m (Wake u k ∷ items) =
    let ih = in_time t m items in
    elim (cases_Bool (comes_at t m (Wake u k))) [ inl e ↦ rw e ih | inr e ↦ rw e ih ]
in_time t m (Packet c ∷ items) =
    let ih = in_time t m items in
    elim (cases_Bool (comes_at t m (Packet c))) [ inl e ↦ rw e (same_place c.at c.to t m e, ih) | inr e ↦ rw e ih ]

run_in_time : {S L : Type 0} {system : System S L} {end : ℕ} {net last : NetState S L} (run : Run system end net last) → AllByRecursion IsGivenInTime (turns run)
run_in_time (Done h) = tt
run_in_time {net = net} (Turn t m least le run) =
    let cs = packets (filter (comes_at t m) net.agenda) in
    let given = All-permutation (IsInTime t m) cs (in_order cs) (sorted_permutes (λ copy. copy.sender) (λ copy. copy.number) cs) (All-from_recursion (IsInTime t m) cs (in_time t m net.agenda)) in
    (recursion_from_All (IsInTime t m) (in_order cs) given, run_in_time run)

pub copies_come_in_time : CopiesComeInTime
copies_come_in_time faults n r report = run_in_time report.run
