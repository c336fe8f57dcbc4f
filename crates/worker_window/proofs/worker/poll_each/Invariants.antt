use Rattle.std.proofs.Common.{◌≡◌, false, List, Option, length, take}
use Rattle.std.specs.List.{AllByRecursion}
use Rattle.mote_net.specs.Meaning.{net_of}
use Rattle.net_agenda.specs.NetSystem.{tree_at}
use Rattle.worker_window.specs.Share.{mote_here}
use Rattle.worker_window.specs.Worker.{CanAllGoOn, MayEnd, MayEndAs}
use Rattle.worker_window.specs.declared.own.OwnWindow.{OwnWindow}
use Rattle.futures.specs.Task.{Keeps}
use Rattle.worker_window.proofs.worker.poll_each.Given as goal

abbrev pub invariant-loop-number : goal.invariant-loop-number
invariant-loop-number g l = let n = net_of l.net in record {
  places : length l.motes.items ≡ length l.fn.motes.items;
  same : (ended : List (Option OwnWindow)) → MayEndAs n l.until l.called l.motes.items ended → MayEndAs n l.until l.called l.fn.motes.items ended;
  go_on : CanAllGoOn n l.until l.fn.motes.items → CanAllGoOn n l.until l.motes.items;
  over : l.left ≡ false → AllByRecursion (λ k. MayEnd (tree_at n k) l.until (mote_here l.motes.items k) (mote_here l.motes.items k)) (take l.number-index l.called);
  kept : Keeps l.fn.cx l.cx;
}
