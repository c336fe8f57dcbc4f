use Rattle.std.proofs.Common.{sym, subst, ◌+◌, ◌∷◌, [], List, take, get_or}
use Rattle.std.proofs.lemmas.List.{take_more}
use Rattle.mote_net.specs.Report.{report_of}
use Rattle.claims.specs.declared.trace.Watched.{Watched}
use Rattle.claims.specs.Seen.{Extends}
use Rattle.claims.proofs.StandLaws.{extends_on}
use Rattle.claims.proofs.order.Order.known_after.Goals as goal

abbrev no_watch : Watched
no_watch = record { mote = 0; when = record { from = 0; to = 0 } }

pub loop-watch-preserved : goal.loop-watch-preserved
loop-watch-preserved c =
    let here = c.deref-watch-items.result.now in
    let i = c.loop-watch.watch-index in
    let so_far = subst (λ (ws : List Watched). Extends c.args.self.now (report_of c.args.report.now) c.args.line.now c.args.start.from (take i ws) c.args.start.event c.loop-watch.known) (sym c.deref-watch-items.ensures.value) c.loop-watch.invariant in
    let more = extends_on c.args.self.now (report_of c.args.report.now) c.args.line.now c.args.start.from (take i here) (get_or here i no_watch ∷ []) c.args.start.event c.loop-watch.known c.known_from-known.result so_far c.known_from-known.ensures.extends in
    let joined = subst (λ (ws : List Watched). Extends c.args.self.now (report_of c.args.report.now) c.args.line.now c.args.start.from ws c.args.start.event c.known_from-known.result) (sym (take_more here i no_watch c.loop-watch-test.true)) more in
    subst (λ (ws : List Watched). Extends c.args.self.now (report_of c.args.report.now) c.args.line.now c.args.start.from (take (i + 1) ws) c.args.start.event c.known_from-known.result) c.deref-watch-items.ensures.value joined
