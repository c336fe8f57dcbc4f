use Rattle.std.proofs.Common.{length}
use Rattle.trace_printer.specs.Page.{Written}
use Rattle.simulation.proofs.fault_line.write_bytes.Given as goal

abbrev pub invariant-loop-rest : goal.invariant-loop-rest
invariant-loop-rest g l = Written (g.E.Write.contents l.fn.errors) (g.E.Write.contents l.errors) l.bytes l.rest

abbrev pub decreases-loop-rest : goal.decreases-loop-rest
decreases-loop-rest g l = length l.rest
