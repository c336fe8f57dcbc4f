use Rattle.std.proofs.Common.{◌∙◌, sym}
use Rattle.mote_net.specs.Report.{line_model}
use Rattle.claims.specs.Medium.{is_such_packet}
use Rattle.claims.proofs.ListLaws.{count_by-map}
use Rattle.claims.proofs.medium.Packets.count.Goals as goal

pub returns : goal.returns
returns c = record { value = c.count_sent.ensures.value ∙ sym (count_by-map (λ l. is_such_packet c.args.self.now l.sent) line_model c.args.report.now.medium.items) }
