use Rattle.std.proofs.Common.{◌≡◌, ℕ, true, false, List, length}
use Rattle.net_agenda.proofs.Ranks.{turns_left}
use Rattle.net_agenda.specs.Buckets.{HoldsItems, first_key}
use Rattle.window_laws.specs.Agenda.{Item}
use Rattle.worker_window.specs.Events.{IsSameMote, are_different, copies_at, is_called, is_one_of}
use Rattle.worker_window.specs.Share.{mote_here}
use Rattle.worker_window.proofs.TakesEvents.{Part}
use Rattle.worker_window.proofs.events.take_events_before.Given as goal

abbrev pub invariant-loop-moment : goal.invariant-loop-moment
invariant-loop-moment l = record {
  places : length l.motes.items ≡ length l.fn.motes.items;
  same : (k : ℕ) → IsSameMote (mote_here l.fn.motes.items k) (mote_here l.motes.items k);
  calls : (k : ℕ) → is_called (mote_here l.motes.items k) ≡ is_one_of k l.called.items;
  different : are_different l.called.items ≡ true;
  others : (k : ℕ) → is_one_of k l.called.items ≡ false → mote_here l.motes.items k ≡ mote_here l.fn.motes.items k;
  part : (items : List Item) → HoldsItems l.fn.agenda.buckets items → Part l.until items (copies_at l.motes.items) (λ k. is_one_of k l.called.items) l.agenda.buckets;
}

abbrev pub decreases-loop-moment : goal.decreases-loop-moment
decreases-loop-moment l = turns_left 65536 l.until (first_key l.agenda.buckets)
