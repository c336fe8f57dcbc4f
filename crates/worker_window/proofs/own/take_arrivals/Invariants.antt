use Rattle.std.proofs.Common.{◌≡◌, map, take}
use Rattle.net_agenda.specs.Buckets.{arrival_of}
use Rattle.window_laws.specs.Windows.{is_at}
use Rattle.worker_window.proofs.Fronts.{Pass}
use Rattle.worker_window.proofs.own.take_arrivals.Given as goal

abbrev pub invariant-loop-copy : goal.invariant-loop-copy
invariant-loop-copy l = record {
  taken : l.arrivals.items ≡ map arrival_of (take l.copy-index l.copies);
  pass : Pass (is_at l.moment) (take l.copy-index l.copies);
}
