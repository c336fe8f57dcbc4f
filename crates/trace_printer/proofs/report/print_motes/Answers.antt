use Rattle.std.proofs.Common.{map, ◌∙◌, ◌++◌, ap, subst, arith, append-nil, get_or, List, ℕ}
use Rattle.std.proofs.lemmas.Result.{err_from_is_err_and}
use Rattle.program_tree.specs.Program.{tree_of}
use Rattle.mote_net.specs.Meaning.{net_of}
use Rattle.mote_net.specs.Report.{trace_lines_in}
use Rattle.trace_printer.specs.Page.{Written}
use Rattle.trace_printer.specs.ReportText.{motes_text}
use Rattle.trace_printer.proofs.Written.{printed_next, stopped_next}
use Rattle.trace_printer.proofs.Pieces.{mote_next, motes_end}
use Rattle.trace_printer.proofs.report.print_motes.Goals as goal

pub returns-in_err-print_mote : goal.returns-in_err-print_mote
returns-in_err-print_mote g c = record {
  prints =
      let p = err_from_is_err_and c.from_residual.result c.from_residual.ensures.1 in
      let i = c.loop-mote.mote in
      rw p.1 (stopped_next _ _ _ _ c.loop-mote.page _ _ _ c.loop-mote.invariant
      (mote_next i (net_of c.args.net.now).motes c.args.traces.now i c.index-traces-from.result c.program_name.result.now (tree_of c.program.result.now) c.deref.result.now (omega arith) c.requires.traces
      c.program_name.ensures.name c.program.ensures.tree (c.deref.ensures.value ∙ ap (λ t. t.items) c.index-traces-from.is ∙ ap (λ j. (get_or c.args.traces.now j c.index-traces-from.result).items) c.from.ensures)) c.in_err-print_mote.ensures.prints);
}

pub loop-mote-preserved : goal.loop-mote-preserved
loop-mote-preserved g c =
    let i = c.loop-mote.mote in
    printed_next _ _ _ _ c.loop-mote.page _ _ _ _ c.loop-mote.invariant
    (mote_next i (net_of c.args.net.now).motes c.args.traces.now i c.index-traces-from.result c.program_name.result.now (tree_of c.program.result.now) c.deref.result.now (omega arith) c.requires.traces
    c.program_name.ensures.name c.program.ensures.tree (c.deref.ensures.value ∙ ap (λ t. t.items) c.index-traces-from.is ∙ ap (λ j. (get_or c.args.traces.now j c.index-traces-from.result).items) c.from.ensures)) c.in_ok-print_mote.ensures.prints

pub returns : goal.returns
returns g c = record {
  prints =
      let i = c.loop-mote.mote in
      subst (λ (l : List ℕ). Written (g.W.Write.contents c.args.writer.now) (g.W.Write.contents c.loop-mote.writer) (c.args.page.now ++ motes_text 0 (net_of c.args.net.now).motes (map trace_lines_in c.args.traces.now)) l)
      (ap (λ (l : List ℕ). c.loop-mote.page ++ l) (motes_end i (net_of c.args.net.now).motes c.args.traces.now i (omega arith) c.requires.traces) ∙ append-nil c.loop-mote.page)
      c.loop-mote.invariant;
}
