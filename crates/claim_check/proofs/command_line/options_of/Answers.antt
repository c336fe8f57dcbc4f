use Rattle.std.proofs.Common.{◌∙◌, [], ap, codes, unwrap_or}
use Rattle.std.specs.List.{flat_map}
use Rattle.clap.specs.Words.{found_of}
use Rattle.clap.proofs.WalkLemmas.{one_text-rows, raw_values-rows}
use Rattle.claim_check.specs.Words.{line_of}
use Rattle.claim_check.proofs.WordFacts.{number_read, workers_read}
use Rattle.claim_check.proofs.command_line.options_of.Goals as goal

pub returns : goal.returns
returns c = record {
  options_in =
      let found = found_of c.args.matches.now in
      record {
        faults = c.in_ok-faults.ensures.value ∙ ap (λ all. flat_map line_of (unwrap_or all [])) (c.get_strs.ensures ∙ raw_values-rows found (codes "fault"));
        report = c.flag_of.ensures.reads;
        workers = workers_read _ _ (λ none. c.get_one-workers.ensures.none (one_text-rows found (codes "workers") ∙ none))
            (λ text some. c.get_one-workers.ensures.value text (one_text-rows found (codes "workers") ∙ some));
        links = c.flag_of-2.ensures.reads;
        silent = c.flag_of-3.ensures.reads;
        lost = c.flag_of-4.ensures.reads;
        late = c.in_ok-late.ensures.reads;
        off = c.in_ok-off.ensures.reads;
        restarts = c.in_ok-restarts.ensures.reads;
        starts = c.in_ok-starts.ensures.reads;
        at_most = number_read 8 _ _ (λ none. c.get_one.ensures.none (one_text-rows found (codes "at-most") ∙ none))
            (λ text some. c.get_one.ensures.value text (one_text-rows found (codes "at-most") ∙ some));
        runs = number_read 64 _ _ (λ none. c.get_one-2.ensures.none (one_text-rows found (codes "runs") ∙ none))
            (λ text some. c.get_one-2.ensures.value text (one_text-rows found (codes "runs") ∙ some));
      };
}
