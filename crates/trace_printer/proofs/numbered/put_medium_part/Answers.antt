use Rattle.std.proofs.Common.{◌≡◌, ◌-◌, [], ◌++◌, List, ℕ, OnOk, map, codes, ap, subst, ◌∙◌, arith, append_assoc}
use Rattle.std.specs.List.{flat_map}
use Rattle.mote_net.specs.Report.{line_model}
use Rattle.trace_printer.specs.ReportText.{packet_text}
use Rattle.trace_printer.specs.TraceLines.{medium_lines, part_text}
use Rattle.trace_printer.specs.Words.{line_of}
use Rattle.trace_printer.proofs.TraceLines.{packets_some, part_first, part_later}
use Rattle.trace_printer.proofs.numbered.put_medium_part.Goals as goal

pub returns-then-skip-gt0 : goal.returns-then-skip-gt0
returns-then-skip-gt0 c = record {
  appended =
      let log = c.args.log.now in
      subst (λ (l : List ℕ). OnOk c.put_packets.result (c.put_packets.new.page ≡ c.args.page.now ++ l))
      (part_later packet_text (line_of (codes "medium") []) (map line_model log) (map line_model c.some_of.result.now) c.args.skip c.args.count (omega arith)
      (packets_some log c.some_of.result.now (c.args.skip - 1) c.args.count c.some_of.ensures.part))
      c.put_packets.ensures.appended;
}

pub returns : goal.returns
returns c = record {
  appended =
      let log = c.args.log.now in
      let head = line_of (codes "medium") [] in
      let some = c.some_of-2.result.now in
      let none : 0 ≡ c.args.skip = omega arith in
      let text : head ++ flat_map packet_text (map line_model some) ≡ part_text (medium_lines (map line_model log)) c.args.skip c.args.count =
      part_first packet_text head (map line_model log) (map line_model some) c.args.count (omega arith) (packets_some log some 0 (c.args.count - 1) c.some_of-2.ensures.part)
      ∙ ap (λ n. part_text (medium_lines (map line_model log)) n c.args.count) none in
      subst (λ (l : List ℕ). OnOk c.put_packets-2.result (c.put_packets-2.new.page ≡ l))
      (ap (λ (l : List ℕ). l ++ flat_map packet_text (map line_model some)) c.in_ok-put_medium.ensures.appended ∙ append_assoc c.args.page.now head (flat_map packet_text (map line_model some)) ∙ ap (λ (l : List ℕ). c.args.page.now ++ l) text)
      c.put_packets-2.ensures.appended;
}
