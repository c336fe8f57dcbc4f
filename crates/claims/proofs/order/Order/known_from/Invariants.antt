use Rattle.std.proofs.Common.{◌≡◌, drop}
use Rattle.std.specs.List.{enumerate_from}
use Rattle.claims.proofs.ScanLaws.{scan}
use Rattle.claims.proofs.order.Order.known_from.Given as goal

abbrev pub invariant-loop-place : goal.invariant-loop-place
invariant-loop-place l =
    scan l.self l.line l.watch (drop l.place (enumerate_from 0 l.lines)) l.known
    ≡ scan l.self l.line l.watch (drop l.first (enumerate_from 0 l.lines)) l.fn.start.event
