-- The results of a worker at the end.
use Rattle.std.specs.Prelude.{ℕ, ◌≡◌, true, if◌then◌else◌, List, [], length, slice_index_or, Vec}
use Rattle.std.specs.List.{filter}
use Rattle.std.specs.declared.alloc.Global.{Global}
use Rattle.trace_lines.specs.declared.line.Line.{Line}
use Rattle.radio_packet.specs.declared.copy.RadioCopy.{RadioCopy}
use Rattle.mote_net.specs.Net.{NetModel}
use Rattle.window_laws.specs.Windows.{is_from_sender, is_sent_by}
use Rattle.net_agenda.specs.NetSystem.{system_of}
use Rattle.worker_window.specs.declared.share.EndedShare.{EndedShare}
use Rattle.copy_exchange.specs.Crossed.{is_own, copies_seen}
use Rattle.worker_window.specs.Log.{packets_in, HaveFates}
use Rattle.worker_window.specs.Share.{Motes, is_to_come}

-- the traces and the packets of the worker's motes, and, of the copies that the worker has seen, the number of those
-- that are still on their way to these motes
pub record TellsAtEnd (model : NetModel) (owners : List ℕ) (worker from : ℕ) (motes : Motes) (taken : List RadioCopy)
    (ended : EndedShare) : Type 0 where
  pub traces_kept : length ended.traces.items ≡ length model.motes
  pub traces : (k : ℕ) → is_own owners worker k ≡ true → (d : Vec Line Global)
      → (slice_index_or ended.traces.items k d).items ≡ (motes k).lines
  pub log : (s : ℕ) → filter (is_sent_by s) (packets_in ended.log.items)
      ≡ (if is_own owners worker s then (motes s).sends else [])
  pub fates : HaveFates model.radio ended.log.items
  pub rest : List RadioCopy
  pub rest_is : (s : ℕ) → filter (is_from_sender s) rest
      ≡ filter (is_to_come (is_own owners worker) from)
      (copies_seen (system_of model) (is_own owners worker) motes taken s)
  pub left : ended.left ≡ length rest
