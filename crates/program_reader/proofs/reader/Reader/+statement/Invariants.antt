use Rattle.std.proofs.Common.{◌≡◌, ◌+◌, ◌-◌, ◌*◌, ◌≤◌, length, map}
use Rattle.program_reader.specs.Steps.{read_scope, context_of, fixed}
use Rattle.program_tree.specs.Meaning.{statement_of}
use Rattle.program_reader.proofs.Blocks.{HasFront}
use Rattle.program_reader.proofs.reader.Reader.+statement.Given as goal

abbrev pub decreases-statement : goal.decreases-statement
decreases-statement l = 5 * (32 - l.place.now.level) + 3

abbrev pub decreases-branch : goal.decreases-branch
decreases-branch l = 5 * (32 - l.place.now.level) + 2

abbrev pub decreases-repeat : goal.decreases-repeat
decreases-repeat l = 5 * (32 - l.place.now.level) + 2

abbrev pub decreases-otherwise : goal.decreases-otherwise
decreases-otherwise l = 5 * (32 - l.place.now.level) + 1

abbrev pub decreases-block : goal.decreases-block
decreases-block l = 5 * (32 - l.place.now.level)

abbrev pub invariant-block-statements : goal.invariant-block-statements
invariant-block-statements l = record {
  no_longer : length l.self.cursor ≤ length l.fn.self.cursor;
  names : fixed l.self.scope ≡ fixed l.fn.self.scope;
  front : HasFront (read_scope l.fn.self.scope) (read_scope l.self.scope) (context_of l.place).thread (context_of l.place)
      (map statement_of l.statements.items) l.fn.self.cursor l.self.cursor;
}

abbrev pub decreases-block-statements : goal.decreases-block-statements
decreases-block-statements l = length l.self.cursor
