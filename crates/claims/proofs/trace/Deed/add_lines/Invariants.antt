use Rattle.std.proofs.Common.{◌≡◌, ◌++◌, drop, map, filter}
use Rattle.std.specs.List.{enumerate_from}
use Rattle.claims.specs.Traces.{found_at, shows}
use Rattle.claims.proofs.trace.Deed.add_lines.Given as goal

abbrev pub invariant-loop-place : goal.invariant-loop-place
invariant-loop-place l =
    l.found.items ++ filter (λ f. shows l.self l.watch f.line) (map (found_at l.watch.mote) (enumerate_from l.place (drop l.place l.line-items)))
    ≡ l.initial.found.items ++ filter (λ f. shows l.self l.watch f.line) (map (found_at l.watch.mote) (enumerate_from 0 l.line-items))
