use Rattle.std.proofs.Common.{◌≡◌, ◌+◌, ◌-◌, ◌≤◌}
use Rattle.mote_net.specs.Meaning.{net_of}
use Rattle.window_workers.specs.MarkedBounds.{bound, windows_of}
use Rattle.window_workers.specs.MarkedThread.{WorkerRunsAllWindows}
use Rattle.copy_exchange.specs.Marks.{AreTakersCounts}
use Rattle.window_workers.proofs.marks.thread.MarkRunner.run_worker.Given as goal

abbrev pub invariant-windows : goal.invariant-windows
invariant-windows g l = record {
  ran : WorkerRunsAllWindows (net_of l.self.run.net.now) l.self.run.owners.now l.self.run.width l.window
      l.self.run.inboxes.now l.fn.worker l.worker;
  counts : AreTakersCounts l.marks.counts.items l.worker.endpoint.taker.state;
  at : l.from ≡ bound l.self.run.width (net_of l.self.run.net.now).end l.window;
  few : l.window ≤ windows_of l.self.run.width (net_of l.self.run.net.now).end;
}

abbrev pub decreases-windows : goal.decreases-windows
decreases-windows g l = l.end + 1 - l.from
