use Rattle.std.proofs.Common.{◌≡◌, ◌++◌, map, take}
use Rattle.std.specs.List.{filter, flat_map}
use Rattle.copy_exchange.specs.Crossed.{is_own, is_for_others}
use Rattle.net_agenda.specs.Changes.{AddsItems}
use Rattle.radio_medium.specs.Medium.{copies}
use Rattle.window_laws.specs.Agenda.{Packet}
use Rattle.worker_window.specs.Log.{HaveFates, packets_in}
use Rattle.worker_window.proofs.window.send_all.Given as goal

abbrev pub invariant-loop-sent : goal.invariant-loop-sent
invariant-loop-sent l = let before = take l.sent-index l.sends in record {
  own : AddsItems l.fn.agenda.buckets l.agenda.buckets (map Packet (filter (λ copy. is_own l.owners l.worker copy.to) (flat_map (copies l.medium) before)));
  outgoing : l.outgoing.items ≡ l.fn.outgoing.items ++ filter (is_for_others (is_own l.owners l.worker)) (flat_map (copies l.medium) before);
  log : packets_in l.log.items ≡ packets_in l.fn.log.items ++ before;
  fates : HaveFates l.medium l.fn.log.items → HaveFates l.medium l.log.items;
}
