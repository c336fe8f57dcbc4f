use Rattle.std.proofs.Common.{length}
use Rattle.program_reader.specs.Head.{HasProcesses}
use Rattle.program_reader.specs.Steps.{read_scope}
use Rattle.program_reader.proofs.reader.Reader.processes.Given as goal

abbrev pub invariant-processes : goal.invariant-processes
invariant-processes l = HasProcesses (read_scope l.fn.self.scope) (read_scope l.self.scope) l.fn.self.cursor l.self.cursor

abbrev pub decreases-processes : goal.decreases-processes
decreases-processes l = length l.self.cursor
