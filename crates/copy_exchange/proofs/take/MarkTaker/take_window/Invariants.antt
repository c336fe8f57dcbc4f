use Rattle.copy_exchange.specs.Expected.{TakesExpected, position_of}
use Rattle.copy_exchange.specs.Marks.{AreTakersCounts}
use Rattle.copy_exchange.proofs.take.MarkTaker.take_window.Given as goal

abbrev pub invariant-loop : goal.invariant-loop
invariant-loop g l = record {
  took : TakesExpected (position_of l.window_position) l.fn.taker l.taker l.arrived.items;
  counts : AreTakersCounts l.self.counts.items l.taker.state;
}
