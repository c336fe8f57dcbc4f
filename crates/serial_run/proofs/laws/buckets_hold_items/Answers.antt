use Rattle.net_agenda.proofs.Items.{items_held}
use Rattle.serial_run.proofs.laws.buckets_hold_items.Goals as goal

pub returns : goal.returns
returns c = record { buckets_hold_items = items_held c.args.agenda.now.buckets c.len-length.ensures.ordered }
