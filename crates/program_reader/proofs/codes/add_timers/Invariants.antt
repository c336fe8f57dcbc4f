use Rattle.std.proofs.Common.{◌≡◌, ◌++◌, replicate}
use Rattle.program_reader.proofs.codes.add_timers.Given as goal

abbrev pub invariant-loop-added : goal.invariant-loop-added
invariant-loop-added l = l.timers.items ≡ l.fn.timers.items ++ replicate l._added l.timer
