-- The report of the workers is the report of the net, and the copies that went through their inboxes are those in its
-- log.
use Rattle.std.proofs.Common.{◌≡◌, ℕ, zero, suc, ◌+◌, ◌<◌, List, [], ◌∷◌, length, map, get_or, refl, sym, ap, ◌∙◌, subst, arith, Some, None, Vec, length-append}
use Rattle.std.proofs.lemmas.List.{length-map}
use Rattle.std.proofs.lemmas.List.Elements.{All-from_recursion}
use Rattle.std.specs.List.{zip, slice_get, sum_by, AllByRecursion as Each, AllZip}
use Rattle.std.specs.Prelude.{All}
use Rattle.std.specs.declared.alloc.Global.{Global}
use Rattle.copy_exchange.proofs.CutWindows.{coming, coming_pending, senders}
use Rattle.copy_exchange.specs.Takers.{taken_by, gathered_by}
use Rattle.copy_inbox.specs.Handles.{TakerView}
use Rattle.kernel_laws.specs.Going.{IsInOrder}
use Rattle.mote_net.specs.Net.{NetModel}
use Rattle.mote_net.specs.Report.{Packet, ReportModel, trace_lines_in, line_model, report_of}
use Rattle.mote_net.specs.declared.report.Report.{Report}
use Rattle.net_agenda.proofs.Systems.{system_is}
use Rattle.net_agenda.specs.NetSystem.{system_of}
use Rattle.radio_medium.specs.Medium.{medium_fault}
use Rattle.serial_run.specs.NetRun.{packet_with_fates, IsReportOf}
use Rattle.trace_lines.specs.declared.line.Line.{Line}
use Rattle.window_laws.proofs.Lists.{every_map, every_weaker}
use Rattle.window_laws.proofs.Unique.{run_is_one}
use Rattle.window_laws.specs.Agenda.{up_to}
use Rattle.window_laws.specs.Forward.{RunsForward}
use Rattle.window_laws.specs.Windows.{as_log}
use Rattle.window_workers.specs.Crossed.{Pair, logged_packets, CrossedTo, AllCrossed}
use Rattle.window_workers.specs.Over.{TellsWhatItKept, logs_of, IsLogOf, AreTracesOf}
use Rattle.window_workers.specs.WorkerGroup.{WorkersAreAt, IsWorkerAt}
use Rattle.window_workers.specs.declared.group.WorkerGroup.{WorkerGroup}
use Rattle.worker_window.specs.declared.share.EndedShare.{EndedShare}
use Rattle.window_laws.proofs.Agenda.{below_all}
use Rattle.window_laws.proofs.Pending.{pending_left}
use Rattle.copy_exchange.proofs.CrossesTo.{crossed_once}
use Rattle.window_workers.proofs.Lookups.{there, read, zip_inside, zip_long}
use Rattle.serial_run.proofs.ByWindows.{windows_commute}
use Rattle.serial_run.proofs.Handed.{one_life, traces_hand_on}
use Rattle.window_workers.proofs.AllTraces.{is_joined, is_report, left_is, takers_long, traces_are}
use Rattle.window_workers.proofs.Pairs.{each_mapped, second_at}
use Rattle.serial_run.proofs.Stamps.{sent_packets}
use Rattle.window_workers.proofs.Left.{taken_by_end}

abbrev reported_of : List (List Line) → List Packet → ℕ → ReportModel
reported_of traces log left = record { traces = traces; log = log; left = left }

module _ (n : NetModel) (fault : medium_fault n.radio ≡ None) (placed : length n.radio.places ≡ length n.motes) (owners : List ℕ) (group : WorkerGroup) (at : WorkersAreAt n owners (suc n.end) group) (ended : List EndedShare) (ends : AllZip TellsWhatItKept group.shares.items ended) where
  fine : RunsForward (system_of n)
  fine = system_is n fault placed

  -- the number of copies that the windows leave
  abbrev all_left : ℕ
  all_left = length (coming (system_of n) fine (suc n.end) at.motes)

  by_windows : (log : List Packet) (is : IsLogOf n (logs_of ended) log) → IsReportOf n (reported_of (map (λ number. (at.motes number).lines) (up_to (length n.motes))) (map (packet_with_fates n.radio) is.sorted) all_left)
  by_windows log is = windows_commute [] n fault placed at.motes at.led is.sorted (record {
    joined = logs_of ended;
    is_joined = is_joined n fine owners group at ended ends;
    same = is.same;
    sorted = is.in_order;
  }) (coming (system_of n) fine (suc n.end) at.motes) (pending_left (system_of n) at.motes (coming (system_of n) fine (suc n.end) at.motes) n.end (coming_pending (system_of n) fine (suc n.end) at.motes at.led))

  report_is : (r : ReportModel) → r.traces ≡ map (λ number. (at.motes number).lines) (up_to (length n.motes)) → IsLogOf n (logs_of ended) r.log → r.left ≡ all_left → IsReportOf n r
  report_is r traces is left =
      let w = by_windows r.log is in record {
        last = w.last;
        run = w.run;
        matches =
            ap (λ t. reported_of t r.log r.left) traces
            ∙ (ap (λ l. reported_of (map (λ number. (at.motes number).lines) (up_to (length n.motes))) l r.left) is.matches
            ∙ (ap (reported_of (map (λ number. (at.motes number).lines) (up_to (length n.motes))) (map (packet_with_fates n.radio) is.sorted)) left
            ∙ w.matches));
      }

  -- the joined results of the workers are the report of the net
  pub reported_equals : (r : Report) → AreTracesOf owners ended r.traces.items → IsLogOf n (logs_of ended) (map line_model r.medium.items)
      → sum_by (λ (one : EndedShare). one.left) ended + sum_by (λ (pair : Pair). length (gathered_by pair.1)) (zip group.inboxes.items group.takers.items)
      ≡ r.left + sum_by (λ (pair : Pair). length (taken_by pair.1)) (zip group.inboxes.items group.takers.items)
      → IsReportOf n (report_of r)
  reported_equals r traces log sums =
      report_is (report_of r) (traces_are n fine owners group at ended ends r.traces.items traces) log
      (left_is n fine owners group at ended ends r.left (zip group.inboxes.items group.takers.items) (zip_long group.inboxes.items group.takers.items (takers_long n fine owners group at ended ends))
      (λ v pair e. second_at group.inboxes.items group.takers.items v pair e) sums)

  -- the report's packets are those of the motes, in order
  packets_are : (r : ReportModel) → IsReportOf n r → logged_packets r ≡ as_log (logs_of ended)
  packets_are r report =
      let by = is_report n fine owners group at ended ends in
      ap logged_packets report.matches
      ∙ (sent_packets [] n report.last.log
      ∙ (ap (λ net. net.log) (run_is_one (system_of n) n.end by.run report.run) ∙ sym by.log_is))

  crossed_to : (r : ReportModel) → IsReportOf n r → (v : ℕ) → v < length group.inboxes.items → (taker : TakerView) → slice_get group.takers.items v ≡ Some taker → CrossedTo n owners (logged_packets r) v taker
  unfolding system_of
  crossed_to r report v h taker e =
      let s = there group.shares.items v (subst (λ l. v < l) (sym at.shares) h) in
      let here : IsWorkerAt n owners (suc n.end) at.motes group.first_out v (get_or group.shares.items v s.0) taker =
      subst (λ x. IsWorkerAt n owners (suc n.end) at.motes group.first_out v (get_or group.shares.items v s.0) x) (read group.takers.items v taker taker e) (at.each v h s.0 taker) in
      record {
        gathered = rw (packets_are r report) (crossed_once (system_of n) fine owners at.motes v _ (logs_of ended) (senders (system_of n) fine (suc n.end) at.motes at.led) (is_joined n fine owners group at ended ends) here.gathered);
        taken = taken_by_end n fine owners (suc n.end) at.motes at.led group.first_out at.first v (get_or group.shares.items v s.0) taker here n.end refl;
      }

  pub all_crossed : (r : ReportModel) → IsReportOf n r → AllCrossed n owners r (zip group.inboxes.items group.takers.items)
  all_crossed r report v pair e = crossed_to r report v (zip_inside group.inboxes.items group.takers.items v pair e) pair.1 (second_at group.inboxes.items group.takers.items v pair e)

-- ---- the properties of every report
pub one_trace_each : (n : NetModel) (r : Report) → IsReportOf n (report_of r) → length r.traces.items ≡ length n.motes
one_trace_each n r report =
    sym (length-map r.traces.items trace_lines_in) ∙ (ap (λ (t : ReportModel). length t.traces) report.matches ∙ (length-map (up_to (length n.motes)) report.last.traces ∙ counted (length n.motes)))
  where
    counted : (k : ℕ) → length (up_to k) ≡ k
    counted zero = refl
    counted (suc k) = let e = counted k in let a = length-append (up_to k) (k ∷ []) in omega arith

pub all_hand_on : (n : NetModel) (r : Report) → IsReportOf n (report_of r) → All (λ (v : Vec Line Global). IsInOrder v.items) r.traces.items
all_hand_on n r report =
    All-from_recursion (λ (v : Vec Line Global). IsInOrder v.items) r.traces.items
    (each_mapped IsInOrder trace_lines_in r.traces.items (subst (Each IsInOrder) (sym (ap (λ (t : ReportModel). t.traces) report.matches)) (every_map IsInOrder report.last.traces (up_to (length n.motes))
    (every_weaker (λ k. k < length n.motes) (λ k. IsInOrder (report.last.traces k)) (λ k h. one_life k _ (traces_hand_on [] n (report_of r) report k h)) (up_to (length n.motes)) (below_all (length n.motes))))))
