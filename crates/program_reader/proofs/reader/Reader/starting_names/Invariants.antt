use Rattle.std.proofs.Common.{length}
use Rattle.program_reader.specs.Head.{HasStarting}
use Rattle.program_reader.specs.Steps.{read_scope}
use Rattle.program_reader.proofs.reader.Reader.starting_names.Given as goal

abbrev pub invariant-names : goal.invariant-names
invariant-names l = HasStarting (read_scope l.fn.self.scope) (read_scope l.self.scope) l.numbers.items l.fn.self.cursor
    l.self.cursor

abbrev pub decreases-names : goal.decreases-names
decreases-names l = length l.self.cursor
