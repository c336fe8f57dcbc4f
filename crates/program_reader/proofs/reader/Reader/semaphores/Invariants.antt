use Rattle.std.proofs.Common.{length, ◌≤◌}
use Rattle.program_tree.specs.Grammar.{semaphore_marks}
use Rattle.program_reader.specs.Head.{HasValues}
use Rattle.program_reader.specs.Machine.{from_semaphores}
use Rattle.program_reader.specs.Steps.{read_scope}
use Rattle.program_tree.specs.Tree.{a_semaphore}
use Rattle.program_reader.proofs.reader.Reader.semaphores.Given as goal

abbrev pub invariant-semaphores : goal.invariant-semaphores
invariant-semaphores l = record {
  no_longer : length l.self.cursor ≤ length l.fn.self.cursor;
  reads : HasValues a_semaphore from_semaphores semaphore_marks l.values.items (read_scope l.fn.self.scope)
      (read_scope l.self.scope) l.fn.self.cursor l.self.cursor;
}

abbrev pub decreases-semaphores : goal.decreases-semaphores
decreases-semaphores l = length l.self.cursor
