use Rattle.std.proofs.Common.{length, ◌≤◌}
use Rattle.program_tree.specs.Grammar.{event_marks}
use Rattle.program_reader.specs.Head.{DeclaresNames}
use Rattle.program_reader.specs.Machine.{from_events}
use Rattle.program_reader.specs.Steps.{read_scope}
use Rattle.program_tree.specs.Tree.{an_event}
use Rattle.program_reader.proofs.reader.Reader.events.Given as goal

abbrev pub invariant-events : goal.invariant-events
invariant-events l = record {
  no_longer : length l.self.cursor ≤ length l.fn.self.cursor;
  reads : DeclaresNames an_event from_events event_marks (read_scope l.fn.self.scope) (read_scope l.self.scope) l.fn.self.cursor
      l.self.cursor;
}

abbrev pub decreases-events : goal.decreases-events
decreases-events l = length l.self.cursor
