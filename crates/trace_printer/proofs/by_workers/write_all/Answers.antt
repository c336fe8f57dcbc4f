use Rattle.std.proofs.Common.{◌≡◌, ℕ, ◌+◌, ◌*◌, [], drop, subst, sym}
use Rattle.std.specs.List.{concat}
use Rattle.std.proofs.lemmas.Result.{err_from_is_err_and}
use Rattle.trace_printer.specs.Page.{Written}
use Rattle.trace_printer.specs.TraceLines.{part_text}
use Rattle.trace_printer.proofs.Written.{printed_next, stopped_next}
use Rattle.trace_printer.proofs.Rounds.{rest_next}
use Rattle.trace_printer.proofs.by_workers.write_all.Goals as goal

pub returns-in_err-write_round : goal.returns-in_err-write_round
returns-in_err-write_round g c = record {
  prints =
      let p = err_from_is_err_and c.from_residual.result c.from_residual.ensures.1 in
      let lines = g.T.Numbered.texts c.args.lines.now in
      rw p.1 (stopped_next _ _ _ _ [] (part_text lines c.rounds.skip (c.args.workers * 8192)) _ _ c.rounds.invariant.written (rest_next lines c.rounds.skip (c.args.workers * 8192)) c.in_err-write_round.ensures.prints);
}

pub rounds-preserved : goal.rounds-preserved
rounds-preserved g c =
    let lines = g.T.Numbered.texts c.args.lines.now in
    let workers : c.args.workers ≡ c.from.result = sym c.from.ensures in
    record {
      written =
          subst (λ (n : ℕ). Written (g.W.Write.contents c.args.writer.now) (g.W.Write.contents c.write_round.new.writer) (concat lines) (concat (drop (c.rounds.skip + n * 8192) lines))) workers
          (printed_next _ _ _ _ [] [] (part_text lines c.rounds.skip (c.args.workers * 8192)) _ _ c.rounds.invariant.written (rest_next lines c.rounds.skip (c.args.workers * 8192)) c.in_ok-write_round.ensures.prints);
    }
