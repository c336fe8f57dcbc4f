use Rattle.std.proofs.Common.{◌≡◌, ◌+◌, List, length}
use Rattle.window_laws.specs.Agenda.{Item, packets}
use Rattle.net_agenda.specs.Buckets.{HoldsItems}
use Rattle.net_agenda.proofs.Items.{items_among}
use Rattle.net_agenda.proofs.agenda.Agenda.left.Given as goal

abbrev pub invariant-loop-bucket : goal.invariant-loop-bucket
invariant-loop-bucket l = (items : List Item) → HoldsItems l.fn.self.buckets items → l.left + length (packets (items_among l.buckets.entries)) ≡ length (packets items)

abbrev pub decreases-loop-bucket : goal.decreases-loop-bucket
decreases-loop-bucket l = length l.buckets.entries
