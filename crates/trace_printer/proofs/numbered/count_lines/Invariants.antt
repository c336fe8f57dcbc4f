use Rattle.std.proofs.Common.{◌≡◌, ◌+◌, length, drop}
use Rattle.std.specs.List.{sum_by}
use Rattle.trace_printer.proofs.numbered.count_lines.Given as goal

-- the count plus the number of lines of the remaining traces is the number of lines of all traces
abbrev pub invariant-loop-trace : goal.invariant-loop-trace
invariant-loop-trace l = l.count + sum_by (λ t. length t.items + 1) (drop l.trace-index l.traces) ≡ sum_by (λ t. length t.items + 1) l.traces
