use Rattle.std.proofs.Common.{◌≤◌, ◌-◌, drop, length, map}
use Rattle.program_reader.specs.Codes.{HasCodes}
use Rattle.program_tree.specs.Program.{code_of}
use Rattle.program_reader.specs.Steps.{read_scope}
use Rattle.program_reader.proofs.reader.Reader.codes.Given as goal

abbrev pub invariant-codes : goal.invariant-codes
invariant-codes l = record {
  few : length l.codes.items ≤ length l.fn.self.scope.processes;
  read : HasCodes (map code_of l.codes.items) (drop (length l.codes.items) l.fn.self.scope.processes)
      (read_scope l.fn.self.scope) (read_scope l.self.scope) l.fn.self.cursor l.self.cursor;
}

abbrev pub decreases-codes : goal.decreases-codes
decreases-codes l = length l.fn.self.scope.processes - length l.codes.items
