use Rattle.std.specs.List.{AllZip}
use Rattle.window_workers.specs.Over.{TellsWhatItKept}
use Rattle.window_workers.proofs.ended.end_all.Given as goal

abbrev pub invariant-loop-share : goal.invariant-loop-share
invariant-loop-share l = AllZip TellsWhatItKept l.yielded l.all.items
