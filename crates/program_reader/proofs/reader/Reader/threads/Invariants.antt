use Rattle.std.proofs.Common.{◌≡◌, ◌≤◌, length, map, true}
use Rattle.std.specs.List.{All}
use Rattle.program_reader.specs.CodeParts.{HasBlocks}
use Rattle.program_tree.specs.Grammar.{thread_marks}
use Rattle.program_reader.specs.Machine.{from_threads}
use Rattle.program_tree.specs.Scope.{threads_fit, earlier_threads}
use Rattle.program_reader.specs.Steps.{read_scope}
use Rattle.program_tree.specs.FlatBlock.{tree_in}
use Rattle.program_tree.specs.Tree.{a_thread, IsWithinLimits}
use Rattle.program_reader.proofs.reader.Reader.threads.Given as goal

abbrev pub invariant-threads : goal.invariant-threads
invariant-threads l = record {
  no_longer : length l.self.cursor ≤ length l.fn.self.cursor;
  etimers : l.self.scope.etimers ≡ l.fn.self.scope.etimers;
  ctimers : l.self.scope.ctimers ≡ l.fn.self.scope.ctimers;
  counted : length l.self.scope.threads ≡ length l.blocks.items;
  earlier : threads_fit earlier_threads 0 (map tree_in l.blocks.items) ≡ true;
  within : All (λ b. IsWithinLimits (tree_in b)) l.blocks.items;
  reads : HasBlocks a_thread from_threads thread_marks (map tree_in l.blocks.items) (read_scope l.fn.self.scope)
      (read_scope l.self.scope) l.fn.self.cursor l.self.cursor;
}

abbrev pub decreases-threads : goal.decreases-threads
decreases-threads l = length l.self.cursor
