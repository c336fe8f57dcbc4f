-- A net has a report, and its run through windows leads to the same report.
use Rattle.std.proofs.Common.{◌≡◌, ℕ, ◌+◌, ◌<◌, ◌≤◌, Bool, true, eqb, List, [], ◌∷◌, length, map, refl, sym, ap, ◌∙◌, subst, inl, inr, arith}
use Rattle.std.specs.List.{filter, AllByRecursion}
use Rattle.std.specs.List.Sorted.{IsPermutation}
use Rattle.std.proofs.lemmas.Bool.{cases_Bool, eq-eqb, ne_eqb}
use Rattle.std.proofs.lemmas.List.Sorted.{IsPermutation-sym, IsPermutation-trans}
use Rattle.trace_lines.specs.declared.line.Line.{Line}
use Rattle.radio_packet.specs.declared.sent.Sent.{Sent}
use Rattle.kernel_laws.specs.Stamps.{AreNumberedFrom}
use Rattle.window_laws.specs.Agenda.{up_to}
use Rattle.window_laws.specs.NetStep.{put}
use Rattle.window_laws.specs.Sorts.{NumbersRise}
use Rattle.window_laws.specs.Report.{IsReport}
use Rattle.window_laws.specs.Windows.{as_log}
use Rattle.window_laws.proofs.Commute.{log_is_in_order, run_is_there, windows_report}
use Rattle.window_laws.proofs.Lists.{every_weaker}
use Rattle.window_laws.proofs.Order.{sorted_permutes}
use Rattle.window_laws.proofs.Puts.{put_each}
use Rattle.net_agenda.specs.NetSystem.{system_of}
use Rattle.mote_net.specs.Report.{Packet, ReportModel}
use Rattle.serial_run.specs.FaultRun.{net_with, node_reboot, packet_with}
use Rattle.serial_run.specs.NetRun.{report_at}
use Rattle.serial_run.specs.Laws.{NetsRunForward, ReportIsThere, WindowsCommuteInNets}
use Rattle.serial_run.specs.Stamps.{sent_by}
use Rattle.net_agenda.proofs.Systems.{system_is}
use Rattle.serial_run.proofs.Stamps.{run_counts_up}
use Rattle.radio_faults.proofs.Forward.{faults_run_forward}

pub nets_run_forward : NetsRunForward
nets_run_forward faults n fault placed = faults_run_forward node_reboot (system_of n) faults (system_is n fault placed)

pub report_is_there : ReportIsThere
report_is_there faults n fault placed =
    let r = run_is_there (net_with faults n) (nets_run_forward faults n fault placed) n.end in
    (report_at (packet_with faults n.radio) n r.0, record { last = r.0; run = r.1; matches = refl })

-- numbered packets: the first one has number k
number_first : (k : ℕ) (x : Sent) (xs : List Sent) → AreNumberedFrom k (x ∷ xs) → x.number ≡ k
number_first k x xs h = cc

number_rest : (k : ℕ) (x : Sent) (xs : List Sent) → AreNumberedFrom k (x ∷ xs) → AreNumberedFrom (k + 1) xs
number_rest k x xs h = cc

at_least : (k : ℕ) (xs : List Sent) → AreNumberedFrom k xs → AllByRecursion (λ (y : Sent). k ≤ y.number) xs
at_least k [] h = tt
at_least k (x ∷ xs) h =
    let e = number_first k x xs h in
    let le : k ≤ x.number = omega arith in
    (le, every_weaker _ _ (λ y g. omega arith) xs (at_least (k + 1) xs (number_rest k x xs h)))

-- a property of all elements that pass a test is a property of each such element
of_passed : (P : Sent → Type 0) (p : Sent → Bool) (xs : List Sent) → AllByRecursion P (filter p xs) → AllByRecursion (λ x. p x ≡ true → P x) xs
of_passed P p [] h = tt
of_passed P p (x ∷ xs) h =
    elim (cases_Bool (p x)) [
      | inl e ↦ (let k = rw e at h in ((λ t. k.0), of_passed P p xs k.1))
      | inr e ↦ (let k = rw e at h in ((λ t. cc), of_passed P p xs k))
    ]

numbers_rise : (next : ℕ → ℕ) (log : List Sent) → ((mote : ℕ) → AreNumberedFrom (next mote) (sent_by mote log)) → NumbersRise log
numbers_rise next [] h = tt
numbers_rise next (x ∷ xs) h = (later, numbers_rise (put next x.sender (next x.sender + 1)) xs on)
  where
    own : AreNumberedFrom (next x.sender) (x ∷ sent_by x.sender xs)
    own = let e = eq-eqb x.sender x.sender refl in rw e at (h x.sender)

    on : (mote : ℕ) → AreNumberedFrom (put next x.sender (next x.sender + 1) mote) (sent_by mote xs)
    on =
        put_each (λ mote k. AreNumberedFrom k (sent_by mote xs)) next x.sender (next x.sender + 1) (number_rest (next x.sender) x (sent_by x.sender xs) own)
        (λ mote ne. let g = ne_eqb x.sender mote (λ e. ne (sym e)) in let k = rw g at (h mote) in k)

    later : AllByRecursion (λ (y : Sent). x.sender ≡ y.sender → x.number < y.number) xs
    later =
        let first = number_first (next x.sender) x (sent_by x.sender xs) own in
        every_weaker (λ (y : Sent). eqb y.sender x.sender ≡ true → next x.sender + 1 ≤ y.number) (λ (y : Sent). x.sender ≡ y.sender → x.number < y.number) (λ (y : Sent) g e. let k = g (eq-eqb y.sender x.sender (sym e)) in omega arith) xs
        (of_passed (λ (y : Sent). next x.sender + 1 ≤ y.number) (λ (y : Sent). eqb y.sender x.sender) xs (at_least (next x.sender + 1) (sent_by x.sender xs) (number_rest (next x.sender) x (sent_by x.sender xs) own)))

abbrev reported_of : List (List Line) → List Packet → ℕ → ReportModel
reported_of traces log left = record { traces = traces; log = log; left = left }

pub windows_commute : WindowsCommuteInNets
unfolding system_of
windows_commute faults n fault placed motes windows log is rest left = record {
  last = r.net;
  run = r.run;
  matches =
      ap (λ traces. reported_of traces (map (packet_with faults n.radio) log) (length rest)) r.traces_are
      ∙ (ap (λ l. reported_of (map r.net.traces (up_to (length n.motes))) (map (packet_with faults n.radio) l) (length rest)) log_is
      ∙ ap (reported_of (map r.net.traces (up_to (length n.motes))) (map (packet_with faults n.radio) r.net.log)) r.left_is);
}
  where
    r : IsReport (net_with faults n) n.end (map (λ number. (motes number).lines) (up_to (net_with faults n).motes)) (as_log is.joined) (length rest)
    r = windows_report (net_with faults n) (nets_run_forward faults n fault placed) n.end motes windows is.joined is.is_joined rest left

    permuted : IsPermutation r.net.log log
    permuted =
        subst (λ l. IsPermutation l log) r.log_is
        (IsPermutation-trans _ _ _ (IsPermutation-sym _ _ (sorted_permutes (λ sent. sent.at) (λ sent. sent.sender) is.joined)) is.same)

    log_is : log ≡ r.net.log
    log_is = log_is_in_order (net_with faults n) (nets_run_forward faults n fault placed) n.end r.net r.run (numbers_rise (λ mote. 0) r.net.log (run_counts_up faults n r.run)) log permuted is.sorted
