use Rattle.std.proofs.Common.{◌≡◌, take}
use Rattle.radio_faults.specs.FaultLines.{number_behind}
use Rattle.radio_faults.proofs.words.number_of.Given as goal

abbrev pub invariant-loop-byte : goal.invariant-loop-byte
invariant-loop-byte l = l.number ≡ number_behind 0 (take l.byte-index l.word)
