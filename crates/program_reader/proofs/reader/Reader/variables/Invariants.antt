use Rattle.std.proofs.Common.{length, ◌≤◌, ◌≡◌}
use Rattle.program_tree.specs.Grammar.{variable_marks}
use Rattle.program_reader.specs.Head.{HasValues}
use Rattle.program_reader.specs.Machine.{from_variables}
use Rattle.program_reader.specs.Steps.{read_scope}
use Rattle.program_tree.specs.Tree.{a_variable}
use Rattle.program_reader.proofs.reader.Reader.variables.Given as goal

abbrev pub invariant-variables : goal.invariant-variables
invariant-variables l = record {
  no_longer : length l.self.cursor ≤ length l.fn.self.cursor;
  etimers : l.self.scope.etimers ≡ l.fn.self.scope.etimers;
  ctimers : l.self.scope.ctimers ≡ l.fn.self.scope.ctimers;
  reads : HasValues a_variable from_variables variable_marks l.values.items (read_scope l.fn.self.scope)
      (read_scope l.self.scope) l.fn.self.cursor l.self.cursor;
}

abbrev pub decreases-variables : goal.decreases-variables
decreases-variables l = length l.self.cursor
