use Rattle.std.proofs.Common.{◌≡◌, take, filter}
use Rattle.std.specs.List.{flat_map}
use Rattle.mote_net.specs.Report.{report_of}
use Rattle.claims.specs.Traces.{lines_of_mote, shows}
use Rattle.claims.proofs.trace.Deed.lines.Given as goal

abbrev pub invariant-loop-watch : goal.invariant-loop-watch
invariant-loop-watch l =
    l.found.items ≡ flat_map (λ w. filter (λ f. shows l.self w f.line) (lines_of_mote (report_of l.report) w.mote)) (take l.watch-index l.self.watches.items)
