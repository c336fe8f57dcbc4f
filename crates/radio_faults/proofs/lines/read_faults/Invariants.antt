use Rattle.std.proofs.Common.{take}
use Rattle.radio_faults.specs.FaultLines.{AreFaults, lines_of}
use Rattle.radio_faults.proofs.lines.read_faults.Given as goal

-- the faults so far have the texts of the lines so far
abbrev pub invariant-loop-index : goal.invariant-loop-index
invariant-loop-index l = AreFaults (take l.index (lines_of l.text)) l.faults.items
