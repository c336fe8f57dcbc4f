use Rattle.std.proofs.Common.{◌≡◌, subst, true}
use Rattle.mote_net.specs.Report.{report_of}
use Rattle.claims.specs.declared.trace.Found.{Found}
use Rattle.claims.specs.Seen.{Stands}
use Rattle.claims.proofs.StandLaws.{stands_then, stands_for_all}
use Rattle.claims.proofs.order.Order.see.Goals as goal

pub returns-clause-seen : goal.returns-clause-seen
returns-clause-seen c = record {
  sorted = c.requires.sorted;
  stands = λ l e.
      let same : c.args.line.now ≡ l = cc in
      subst (λ (v : Found). Stands c.args.self.now (report_of c.args.report.now) v (λ e. true) c.known_after.result) same
      (stands_then c.args.self.now (report_of c.args.report.now) c.args.line.now c.start.result.from c.start.result.event c.known_after.result
      (c.start.ensures.stands (report_of c.args.report.now) c.requires) c.known_after.ensures.extends);
}

pub returns-clause-some : goal.returns-clause-some
returns-clause-some c =
    stands_for_all c.args.self.now (report_of c.args.report.now) c.args.line.now c.known_after.result
    (stands_then c.args.self.now (report_of c.args.report.now) c.args.line.now c.start.result.from c.start.result.event c.known_after.result
    (c.start.ensures.stands (report_of c.args.report.now) c.requires) c.known_after.ensures.extends)
