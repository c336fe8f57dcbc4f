use Rattle.std.proofs.lemmas.Result.{err_from_is_err_and}
use Rattle.trace_printer.proofs.Written.{written_none, written_front}
use Rattle.trace_printer.proofs.report.write_end.Goals as goal

pub returns-in_err-put_left : goal.returns-in_err-put_left
returns-in_err-put_left g c = record {
  writes =
      let p = err_from_is_err_and c.from_residual.result c.from_residual.ensures.1 in
      rw p.1 (written_front _ _ _ c.args.page.now 108 _ (written_none _ _));
}
