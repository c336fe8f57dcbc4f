use Rattle.std.proofs.Common.{◌++◌, ◌-◌, ◌≤◌, List, length, map, take}
use Rattle.window_laws.specs.Agenda.{Item, Packet}
use Rattle.net_agenda.specs.Buckets.{HoldsItems}
use Rattle.net_agenda.proofs.agenda.Agenda.put_copies.Given as goal

abbrev pub invariant-loop-next : goal.invariant-loop-next
invariant-loop-next l = record {
  inside : l.next ≤ length l.copies;
  held : (items : List Item) → HoldsItems l.fn.self.buckets items → HoldsItems l.self.buckets (items ++ map Packet (take l.next l.copies));
}

abbrev pub decreases-loop-next : goal.decreases-loop-next
decreases-loop-next l = length l.copies - l.next
