use Rattle.copy_exchange.specs.Steps.{AreTakersOf}
use Rattle.copy_exchange.proofs.AfterWindow.{GathersRows}
use Rattle.copy_exchange.proofs.window.gather_back.Given as goal

abbrev pub invariant-loop-senders : goal.invariant-loop-senders
invariant-loop-senders g l = record {
  gathered : GathersRows l.initial.takers.items l.takers.items l.yielded;
  takers : AreTakersOf l.inboxes l.takers.items;
}
