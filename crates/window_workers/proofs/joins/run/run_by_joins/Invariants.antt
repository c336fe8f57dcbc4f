use Rattle.std.proofs.Common.{ℕ, ◌≡◌, ◌+◌, ◌-◌, ◌≤◌}
use Rattle.std.specs.List.{AllByRecursion as Each}
use Rattle.copy_exchange.specs.Inboxes.{HasNoMarks}
use Rattle.mote_net.specs.Meaning.{net_of}
use Rattle.net_agenda.specs.NetSystem.{system_of}
use Rattle.window_workers.specs.JoinedRun.{BeginsAt, GroupRunsWindows}
use Rattle.window_workers.specs.WindowLength.{length_of_window}
use Rattle.window_workers.specs.WorkerGroup.{WorkersAreAt}
use Rattle.window_workers.proofs.joins.run.run_by_joins.Given as goal

abbrev pub invariant-windows : goal.invariant-windows
invariant-windows g l = record {
  at : WorkersAreAt (net_of l.net) l.owners l.from l.group;
  plain : Each HasNoMarks l.group.takers.items;
  early : l.from ≤ l.end + 1;
  inboxes : l.group.inboxes.items ≡ l.fn.group.inboxes.items;
  windows : (k : ℕ) × GroupRunsWindows (net_of l.net) l.owners (length_of_window (system_of (net_of l.net)).lookahead l.longest) k l.fn.group l.group;
  begins : BeginsAt (net_of l.net).end l.group l.from;
}

abbrev pub decreases-windows : goal.decreases-windows
decreases-windows g l = l.end + 1 - l.from
