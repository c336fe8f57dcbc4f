use Rattle.std.proofs.Common.{◌++◌, ◌-◌, ◌≤◌, List, length, map, take}
use Rattle.std.specs.List.{filter_map}
use Rattle.radio_medium.specs.Medium.{copy_of}
use Rattle.window_laws.specs.Agenda.{Item, Packet}
use Rattle.net_agenda.specs.Buckets.{HoldsItems}
use Rattle.net_agenda.proofs.agenda.Agenda.put_fates.Given as goal

abbrev pub invariant-loop-next : goal.invariant-loop-next
invariant-loop-next l = record {
  inside : l.next ≤ length l.fates;
  held : (items : List Item) → HoldsItems l.fn.self.buckets items → HoldsItems l.self.buckets (items ++ map Packet (filter_map (copy_of l.sent) (take l.next l.fates)));
}

abbrev pub decreases-loop-next : goal.decreases-loop-next
decreases-loop-next l = length l.fates - l.next
