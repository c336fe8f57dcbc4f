use Rattle.std.proofs.Common.{◌∙◌, ap, sym, subst, codes}
use Rattle.clap.specs.Words.{found_of, one_of, rows_of}
use Rattle.clap.proofs.WalkLemmas.{first_value-rows, one_text-rows}
use Rattle.simulation.specs.Words.{ReadsWorkers, cut_of, sync_of}
use Rattle.simulation.proofs.WordFacts.{workers_read}
use Rattle.simulation.proofs.command_line.asked_of.Goals as goal

pub returns : goal.returns
returns c = record {
  asked_in =
      let found = found_of c.args.matches.now in
      record {
        file = c.get_str-file.ensures ∙ first_value-rows found (codes "FILE");
        workers = subst (ReadsWorkers (one_of (codes "workers") (rows_of found))) (sym c.options_for-options.ensures.workers)
            (workers_read _ _ (λ none. c.get_one-workers.ensures.none (one_text-rows found (codes "workers") ∙ none))
            (λ text some. c.get_one-workers.ensures.value text (one_text-rows found (codes "workers") ∙ some)));
        cut = c.options_for-options.ensures.cut ∙ ap cut_of (c.get_str.ensures ∙ first_value-rows found (codes "cut"));
        sync = c.options_for-options.ensures.sync ∙ ap sync_of (c.get_str-2.ensures ∙ first_value-rows found (codes "sync"));
      };
}
