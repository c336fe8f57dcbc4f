-- Between two windows, a share takes in copies that arrived.
use Rattle.std.proofs.Common.{◌∙◌, ℕ, ◌++◌, List, map, arith, sym}
use Rattle.std.specs.List.{AllByRecursion}
use Rattle.copy_exchange.specs.Crossed.{is_own, IsExpected}
use Rattle.mote_net.specs.Net.{NetModel}
use Rattle.net_agenda.specs.Buckets.{HoldsItems}
use Rattle.radio_packet.specs.declared.copy.RadioCopy.{RadioCopy}
use Rattle.window_laws.specs.Agenda.{Packet}
use Rattle.worker_window.specs.Share.{Motes, IsWholeShare}
use Rattle.worker_window.specs.declared.share.Share.{Share}
use Rattle.net_agenda.specs.declared.agenda.Agenda.{Agenda}
use Rattle.worker_window.proofs.Items.{all_wakes}
use Rattle.worker_window.proofs.Parts.{items, wakes_now, known_now}

pub takes_in : (n : NetModel) (owners : List ℕ) (worker from : ℕ) (motes : Motes) (taken arrived : List RadioCopy) (share : Share) (agenda : Agenda) (keeps : IsWholeShare n owners worker from motes taken share)
    → AllByRecursion (IsExpected owners worker from) arrived → HoldsItems agenda.buckets (keeps.agenda.items ++ map Packet arrived) → IsWholeShare n owners worker from motes (taken ++ arrived) (record share { agenda = agenda })
takes_in n owners worker from motes taken arrived share agenda keeps come holds = record {
  is_worker = keeps.is_worker;
  places = keeps.places;
  numbers = keeps.numbers;
  rests = keeps.rests;
  elsewhere = keeps.elsewhere;
  wakes = keeps.wakes;
  quiet = keeps.quiet;
  turned_before = keeps.turned_before;
  log = keeps.log;
  fates = keeps.fates;
  agenda = record {
    items = items n owners worker from from motes taken arrived share keeps (omega arith) come;
    holds = holds;
    wakes = λ k. wakes_now n owners worker from from motes taken arrived share keeps (omega arith) come k ∙ sym (all_wakes (is_own owners worker) from motes keeps.quiet k);
    copies = known_now n owners worker from from motes taken arrived share keeps (omega arith) come;
  };
}
