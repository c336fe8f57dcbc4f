use Rattle.std.proofs.Common.{◌≡◌, ◌≤◌, ◌+◌, ◌++◌, ℕ, true, List, length}
use Rattle.std.specs.List.{AllByRecursion}
use Rattle.std.specs.Prelude.{IsSomeAnd}
use Rattle.copy_exchange.specs.Crossed.{IsExpected}
use Rattle.mote_net.specs.Meaning.{net_of}
use Rattle.net_agenda.specs.NetSystem.{system_of}
use Rattle.radio_packet.specs.declared.copy.RadioCopy.{RadioCopy}
use Rattle.worker_window.specs.Events.{are_different, is_one_of}
use Rattle.worker_window.specs.Share.{Motes, IsWholeShare, mote_here}
use Rattle.worker_window.specs.Window.{IsOutgoing}
use Rattle.worker_window.proofs.Parts.{window_copies}
use Rattle.worker_window.proofs.Resting.{IsFitOwn, Resting}
use Rattle.worker_window.proofs.share.Share.run_window.Given as goal

abbrev pub invariant-loop-number : goal.invariant-loop-number
invariant-loop-number g l = let n = net_of l.net in record {
  motes : length l.self.motes.items ≡ length n.motes;
  worker : l.self.worker ≡ l.fn.self.worker;
  different : are_different l.called.items ≡ true;
  fits : (k : ℕ) → is_one_of k l.called.items ≡ true → IsSomeAnd (mote_here l.self.motes.items k) (IsFitOwn n l.owners l.fn.self.worker l.until k);
  go_out : AllByRecursion (IsOutgoing n l.owners l.fn.self.worker) l.outgoing.items;
  resting : (worker from : ℕ) (motes : Motes) (taken : List RadioCopy) (keeps : IsWholeShare n l.owners worker from motes taken l.fn.self) (le : from ≤ l.until) → l.until ≤ from + (system_of n).lookahead
      → (come : AllByRecursion (IsExpected l.owners worker from) l.fn.arrived.items)
      → Resting n l.owners worker from l.until motes (taken ++ l.fn.arrived.items) (window_copies n l.owners worker from l.until motes taken l.fn.arrived.items l.fn.self keeps le come) l.called.items l.self l.outgoing.items;
}

abbrev pub decreases-loop-number : goal.decreases-loop-number
decreases-loop-number g l = length l.called.items
