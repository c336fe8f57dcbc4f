use Rattle.std.proofs.Common.{◌≡◌, ◌≤◌, length, map}
use Rattle.std.specs.List.{All}
use Rattle.program_reader.specs.CodeParts.{HasBlocks}
use Rattle.program_tree.specs.Grammar.{ctimer_marks}
use Rattle.program_reader.specs.Machine.{from_ctimers}
use Rattle.program_reader.specs.Steps.{read_scope}
use Rattle.program_tree.specs.FlatBlock.{tree_in}
use Rattle.program_tree.specs.Tree.{a_timer, IsWithinLimits}
use Rattle.program_reader.proofs.reader.Reader.ctimers.Given as goal

abbrev pub invariant-ctimers : goal.invariant-ctimers
invariant-ctimers l = record {
  no_longer : length l.self.cursor ≤ length l.fn.self.cursor;
  etimers : l.self.scope.etimers ≡ l.fn.self.scope.etimers;
  within : All (λ b. IsWithinLimits (tree_in b)) l.blocks.items;
  reads : HasBlocks a_timer from_ctimers ctimer_marks (map tree_in l.blocks.items) (read_scope l.fn.self.scope)
      (read_scope l.self.scope) l.fn.self.cursor l.self.cursor;
}

abbrev pub decreases-ctimers : goal.decreases-ctimers
decreases-ctimers l = length l.self.cursor
