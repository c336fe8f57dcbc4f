use Rattle.std.proofs.Common.{◌≡◌, ◌++◌, length, map}
use Rattle.program_reader.specs.Codes.{all_timers}
use Rattle.program_tree.specs.Program.{code_of}
use Rattle.program_reader.proofs.codes.timers.Given as goal

abbrev pub invariant-loop-codes : goal.invariant-loop-codes
invariant-loop-codes l = l.timers.items ++ all_timers (map code_of l.codes) ≡ all_timers (map code_of l.initial.codes)

abbrev pub decreases-loop-codes : goal.decreases-loop-codes
decreases-loop-codes l = length l.codes
