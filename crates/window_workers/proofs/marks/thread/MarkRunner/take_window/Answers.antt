use Rattle.std.proofs.Common.{refl}
use Rattle.window_workers.proofs.marks.thread.MarkRunner.take_window.Goals as goal

pub returns-clause-takes : goal.returns-clause-takes
returns-clause-takes g c = record {
  arrived = c.in_ok-arrived.arrived.items;
  took = c.in_ok-arrived.ensures.took;
  counts = c.in_ok-arrived.ensures.counts;
  past = c.in_ok-arrived.ensures.marked;
  worker = refl;
  senders = refl;
  keeps = rw c.deref.ensures.value at c.in_ok-take_in.ensures.takes_in;
}
