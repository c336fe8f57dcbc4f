use Rattle.std.proofs.Common.{◌+◌, ◌-◌, ◌*◌, ◌++◌, ◌∙◌, [], length, ap, sym, arith}
use Rattle.std.proofs.lemmas.Result.{err_from_is_err_and}
use Rattle.trace_printer.specs.TraceLines.{part_text}
use Rattle.trace_printer.proofs.Written.{printed_next, stopped_next}
use Rattle.trace_printer.proofs.Rounds.{next_page, page_at, written_all, written_front_of}
use Rattle.trace_printer.proofs.round.write_pages.Goals as goal

pub returns-in_err-write-in-Ok : goal.returns-in_err-write-in-Ok
returns-in_err-write-in-Ok g c = record {
  prints = λ lines skip size are.
      let i = c.loop-page.page-index in
      let n = length c.args.pages.now in
      let p = err_from_is_err_and c.from_residual.result c.from_residual.ensures.1 in
      let page = page_at lines skip size c.args.pages.now i c.page-item.result c.in-Ok.page are (omega arith) (sym c.page-item.is) c.in-Ok.is in
      let left = part_text lines (skip + (i + 1) * size) ((n - (i + 1)) * size) in
      rw p.1 (stopped_next _ _ _ (part_text lines skip (n * size)) [] c.in-Ok.page left _ (c.loop-page.invariant lines skip size are)
      (next_page lines skip size n i (omega arith) ∙ ap (λ t. t ++ left) (sym page)) (written_front_of _ _ _ c.in_err-write-in-Ok.ensures.writes));
}

pub returns-in-Err : goal.returns-in-Err
returns-in-Err g c = record { prints = λ lines skip size are. (_, c.loop-page.invariant lines skip size are) }

pub loop-page-preserved : goal.loop-page-preserved
loop-page-preserved g c lines skip size are =
    let i = c.loop-page.page-index in
    let n = length c.args.pages.now in
    let page = page_at lines skip size c.args.pages.now i c.page-item.result c.in-Ok.page are (omega arith) (sym c.page-item.is) c.in-Ok.is in
    let left = part_text lines (skip + (i + 1) * size) ((n - (i + 1)) * size) in
    printed_next _ _ _ (part_text lines skip (n * size)) [] [] c.in-Ok.page left _ (c.loop-page.invariant lines skip size are)
    (next_page lines skip size n i (omega arith) ∙ ap (λ t. t ++ left) (sym page)) (written_all _ _ _ c.in_ok-write-in-Ok.ensures.writes)
