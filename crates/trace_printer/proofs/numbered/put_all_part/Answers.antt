use Rattle.std.proofs.Common.{◌≡◌, ◌++◌, ◌∙◌, List, ℕ, OnOk, Vec, Global, map, ap, subst, refl, arith}
use Rattle.mote_net.specs.Meaning.{net_of}
use Rattle.mote_net.specs.Report.{line_model, report_of, trace_lines_in}
use Rattle.mote_net.specs.declared.report.LogLine.{LogLine}
use Rattle.trace_lines.specs.declared.line.Line.{Line}
use Rattle.trace_printer.specs.Parts.{texts_of_lines}
use Rattle.trace_printer.specs.TraceLines.{medium_lines, net_lines, part_text}
use Rattle.trace_printer.proofs.TraceLines.{part_next}
use Rattle.trace_printer.proofs.numbered.put_all_part.Goals as goal

pub returns : goal.returns
returns c = record {
  appended =
      let net = net_of c.args.net.now in
      let r = c.args.report.now in
      let texts = texts_of_lines net r in
      let many = c.requires.has_traces.1 in
      subst (λ (l : List ℕ). OnOk c.put_medium_part.result (c.put_medium_part.new.page ≡ l))
      (part_next c.args.page.now c.put_part.new.page texts (net_lines net (report_of r).traces) (medium_lines (report_of r).log) (c.args.page.now ++ part_text texts c.args.skip c.args.count)
      c.args.skip c.args.count c.saturating_sub-before.result c.saturating_sub-left.result refl (c.in_ok-put_part.ensures.appended ∙ ap (λ (ts : List (Vec Line Global)). c.args.page.now ++ part_text (net_lines net (map trace_lines_in ts)) c.args.skip c.args.count) c.deref.ensures.value)
      (omega (arith, many, c.saturating_sub-before.ensures)) (omega (arith, many, c.saturating_sub.ensures, c.saturating_sub-left.ensures)) refl)
      (subst (λ (log : List LogLine). OnOk c.put_medium_part.result (c.put_medium_part.new.page ≡ c.put_part.new.page ++ part_text (medium_lines (map line_model log)) c.saturating_sub-before.result c.saturating_sub-left.result)) c.deref-2.ensures.value c.put_medium_part.ensures.appended);
}
