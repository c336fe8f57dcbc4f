use Rattle.copy_exchange.proofs.Marked.{marks_stay}
use Rattle.copy_exchange.proofs.endpoint.Endpoint.deliver_window.Goals as goal

pub push_marks-requires-clause-marked : goal.push_marks-requires-clause-marked
push_marks-requires-clause-marked g c = marks_stay c.args.self.now c.deliver.new.self c.in_ok-deliver.ensures.delivers.stays c.requires.marked
