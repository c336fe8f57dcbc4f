use Rattle.std.proofs.Common.{take}
use Rattle.mote_net.specs.Report.{report_of}
use Rattle.claims.specs.Seen.{Extends}
use Rattle.claims.proofs.order.Order.known_after.Given as goal

abbrev pub invariant-loop-watch : goal.invariant-loop-watch
invariant-loop-watch l = Extends l.self (report_of l.report) l.line l.start.from (take l.watch-index l.self.event.watches.items) l.start.event l.known
