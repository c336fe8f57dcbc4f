use Rattle.std.proofs.Common.{◌≡◌, ◌∷◌, [], ◌+◌, List, ℕ, length, map, drop, get_or, codes, decimal, ap, ◌∙◌, arith}
use Rattle.std.proofs.lemmas.List.{length-map}
use Rattle.program_tree.specs.Program.{tree_of}
use Rattle.mote_net.specs.Meaning.{net_of}
use Rattle.mote_net.specs.Report.{trace_lines_in}
use Rattle.trace_printer.specs.ReportText.{line_text}
use Rattle.trace_printer.specs.TraceLines.{lines_from}
use Rattle.trace_printer.specs.Words.{line_of}
use Rattle.trace_printer.proofs.TraceLines.{lines_next, part_next}
use Rattle.trace_printer.proofs.numbered.put_part.Goals as goal

pub loop-mote-preserved : goal.loop-mote-preserved
loop-mote-preserved c =
    let i = c.loop-mote.mote in
    let ms = (net_of c.args.net.now).motes in
    let ts = c.args.traces.now in
    let trace = c.deref.result.now in
    let f = line_text (tree_of c.program-program.result.now) in
    let lines : List (List ℕ) = line_of (codes "mote") (decimal i ∷ c.program_name.result.now ∷ []) ∷ map f trace in
    let many : length lines ≡ c.len-lines.result + 1 = omega (arith, length-map trace f, c.deref.ensures.len, c.len-lines.ensures) in
    part_next c.loop-mote.page c.put_mote_part.new.page (lines_from i (drop i ms) (map trace_lines_in (drop i ts))) lines (lines_from (i + 1) (drop (i + 1) ms) (map trace_lines_in (drop (i + 1) ts))) _
    c.loop-mote.before c.loop-mote.left c.saturating_sub-before.result c.saturating_sub-left.result
    (lines_next i ms ts i c.index-traces-from.result c.program_name.result.now (tree_of c.program-program.result.now) trace (omega arith) c.requires.traces c.program_name.ensures.name c.program-program.ensures.tree
    (c.deref.ensures.value ∙ ap (λ t. t.items) c.index-traces-from.is ∙ ap (λ j. (get_or ts j c.index-traces-from.result).items) c.from.ensures))
    c.in_ok-put_mote_part.ensures.appended (omega (arith, many, c.saturating_sub-before.ensures)) (omega (arith, many, c.saturating_sub.ensures, c.saturating_sub-left.ensures)) c.loop-mote.invariant
