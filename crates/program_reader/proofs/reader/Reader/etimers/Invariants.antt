use Rattle.std.proofs.Common.{length, ◌≤◌, ◌≡◌, []}
use Rattle.program_tree.specs.Grammar.{etimer_marks}
use Rattle.program_reader.specs.Head.{DeclaresNames}
use Rattle.program_reader.specs.Machine.{from_etimers}
use Rattle.program_reader.specs.Steps.{read_scope}
use Rattle.program_tree.specs.Tree.{a_timer}
use Rattle.program_reader.proofs.reader.Reader.etimers.Given as goal

abbrev pub invariant-etimers : goal.invariant-etimers
invariant-etimers l = record {
  no_longer : length l.self.cursor ≤ length l.fn.self.cursor;
  ctimers : l.self.scope.ctimers ≡ [];
  reads : DeclaresNames a_timer from_etimers etimer_marks (read_scope l.fn.self.scope) (read_scope l.self.scope)
      l.fn.self.cursor l.self.cursor;
}

abbrev pub decreases-etimers : goal.decreases-etimers
decreases-etimers l = length l.self.cursor
