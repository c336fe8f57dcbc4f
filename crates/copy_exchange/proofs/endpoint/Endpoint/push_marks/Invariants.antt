use Rattle.copy_exchange.specs.Endpoints.{IsOnInboxes, HasMarks}
use Rattle.copy_exchange.proofs.Marked.{MarkedTo}
use Rattle.copy_exchange.proofs.endpoint.Endpoint.push_marks.Given as goal

abbrev pub invariant-loop-to : goal.invariant-loop-to
invariant-loop-to g l = record {
  on_inboxes : IsOnInboxes l.inboxes l.self;
  marks : HasMarks l.self;
  marked : MarkedTo l.to l.window l.fn.self l.self;
}
