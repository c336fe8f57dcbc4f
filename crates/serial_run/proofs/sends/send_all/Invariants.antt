use Rattle.std.proofs.Common.{◌≡◌, ◌++◌, map, take}
use Rattle.window_laws.specs.Agenda.{Packet}
use Rattle.net_agenda.specs.Changes.{AddsItems}
use Rattle.mote_net.specs.Report.{line_model}
use Rattle.serial_run.specs.FaultRun.{packet_with}
use Rattle.serial_run.specs.Counted.{all_copies}
use Rattle.serial_run.proofs.sends.send_all.Given as goal

abbrev pub invariant-loop-sent : goal.invariant-loop-sent
invariant-loop-sent l = let before = take l.sent-index l.sends in record {
  agenda : AddsItems l.fn.agenda.buckets l.agenda.buckets (map Packet (all_copies l.faults l.medium before));
  log : map line_model l.log.items ≡ map line_model l.fn.log.items ++ map (packet_with l.faults l.medium) before;
}
