use Rattle.std.proofs.Common.{◌≡◌, ◌+◌, ◌∙◌, ◌<◌, ◌≤◌, sym, ap, subst, suc, arith}
use Rattle.copy_exchange.proofs.Marked.{marks_stay}
use Rattle.mote_net.specs.Meaning.{net_of}
use Rattle.window_workers.specs.MarkedBounds.{bound, windows_of}
use Rattle.window_workers.specs.MarkedThread.{WorkerRunsAllWindows}
use Rattle.window_workers.specs.WindowLength.{end_of_window}
use Rattle.window_workers.proofs.MarkedBounds.{at_first, are_windows, goes_on, over, next_bound}
use Rattle.window_workers.proofs.MarkedWindows.{no_window}
use Rattle.window_workers.proofs.marks.thread.MarkRunner.run_worker.Goals as goal

pub windows-init : goal.windows-init
windows-init g c =
    let n = net_of c.args.self.now.run.net.now in
    record {
      ran = no_window n c.args.self.now.run.owners.now c.args.self.now.run.width c.args.self.now.run.inboxes.now c.args.worker c.requires.first;
      counts = c.in_ok-marks.ensures.counts;
      at = sym (at_first c.args.self.now.run.width n.end);
      few = omega arith;
    }

-- the window that begins here is one of the windows
low : (g : _) (c : goal.In_ok-run_one g) → c.windows.window < windows_of c.args.self.now.run.width (net_of c.args.self.now.run.net.now).end
low g c =
    let n = net_of c.args.self.now.run.net.now in
    let width = c.args.self.now.run.width in
    goes_on width n.end (windows_of width n.end) (are_windows width n.end c.requires.width_positive) c.windows.window c.windows.invariant.few
    (subst (λ t. t ≤ n.end) c.windows.invariant.at (subst (λ e. c.windows.from ≤ e) c.end-end.ensures.value c.windows-test.true))

pub windows-preserved : goal.windows-preserved
windows-preserved g c =
    let n = net_of c.args.self.now.run.net.now in
    let width = c.args.self.now.run.width in
    let one : suc c.windows.window ≡ c.windows.window + 1 = omega arith in
    record {
      ran = subst (λ k. WorkerRunsAllWindows n c.args.self.now.run.owners.now width k c.args.self.now.run.inboxes.now c.args.worker c.run_one.new.worker) one
          (c.in_ok-run_one.ensures.leads_on c.requires.short c.args.worker c.windows.invariant.ran);
      counts = c.in_ok-run_one.ensures.counts;
      at = c.window_end-until.ensures.value
          ∙ (ap (λ e. end_of_window e width c.windows.from) c.end-end.ensures.value
          ∙ (ap (end_of_window n.end width) c.windows.invariant.at
          ∙ (next_bound width n.end (windows_of width n.end) (are_windows width n.end c.requires.width_positive) c.windows.window (low g c) ∙ ap (bound width n.end) one)));
      few = let l = low g c in omega arith;
    }

pub run_one-requires-clause-in_state : goal.run_one-requires-clause-in_state
run_one-requires-clause-in_state g c = (c.args.worker, c.windows.invariant.ran)

pub run_one-requires-clause-marked : goal.run_one-requires-clause-marked
run_one-requires-clause-marked g c =
    marks_stay c.args.worker.endpoint c.windows.worker.endpoint c.windows.invariant.ran.stays c.requires.first.marked

pub returns-clause-runs : goal.returns-clause-runs
returns-clause-runs g c =
    let n = net_of c.args.self.now.run.net.now in
    let width = c.args.self.now.run.width in
    let all = over width n.end (windows_of width n.end) (are_windows width n.end c.requires.width_positive) c.windows.window c.windows.invariant.few
    (subst (λ t. n.end < t) c.windows.invariant.at (subst (λ e. e < c.windows.from) c.end-end.ensures.value c.windows-test.false)) in
    subst (λ k. WorkerRunsAllWindows n c.args.self.now.run.owners.now width k c.args.self.now.run.inboxes.now c.args.worker c.windows.worker) all c.windows.invariant.ran
