use Rattle.std.proofs.Common.{◌≡◌, ◌<◌, ℕ, [], length, map, Option}
use Rattle.std.specs.List.{filter}
use Rattle.std.specs.Prelude.{slice_index_or}
use Rattle.copy_exchange.specs.Crossed.{is_own}
use Rattle.mote_net.specs.Meaning.{net_of}
use Rattle.net_agenda.specs.Buckets.{HoldsItems}
use Rattle.window_laws.specs.Agenda.{Wake, up_to}
use Rattle.worker_window.specs.Share.{IfOwn, IsBeforeFirstTurn}
use Rattle.worker_window.specs.declared.own.OwnWindow.{OwnWindow}
use Rattle.worker_window.proofs.share.Share.new.Given as goal

abbrev pub invariant-loop-number : goal.invariant-loop-number
invariant-loop-number l = let n = net_of l.net in record {
  is_worker : l.share.worker ≡ l.worker;
  motes : length l.share.motes.items ≡ l.number;
  firsts : (k : ℕ) (d : Option OwnWindow) → k < l.number → IfOwn (is_own l.owners l.worker k) (slice_index_or l.share.motes.items k d) (IsBeforeFirstTurn n k);
  log : l.share.log.items ≡ [];
  agenda : HoldsItems l.share.agenda.buckets (map (λ k. Wake 0 k) (filter (is_own l.owners l.worker) (up_to l.number)));
}
