use Rattle.std.proofs.Common.{◌≡◌, map, Vec, Global}
use Rattle.trace_lines.specs.declared.line.Line.{Line}
use Rattle.worker_window.specs.Share.{trace_in}
use Rattle.worker_window.proofs.share.traces_of.Given as goal

abbrev pub invariant-loop-mote : goal.invariant-loop-mote
invariant-loop-mote l = map (λ (trace : Vec Line Global). trace.items) l.traces.items ≡ map trace_in l.yielded
