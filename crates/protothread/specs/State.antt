-- The states that a protothread returns (it waits, yields, exits or has ended), with their numbers in `pt.h`.
use Rattle.std.specs.Prelude.{ℕ}
use Rattle.protothread.specs.declared.answer.PtState.{PtState}
use Rattle.protothread.specs.declared.answer.PtState.TheVariants.{Waiting, Yielded, Exited, Ended}

abbrev pub state_number : PtState → ℕ
state_number Waiting = 0
state_number Yielded = 1
state_number Exited = 2
state_number Ended = 3
