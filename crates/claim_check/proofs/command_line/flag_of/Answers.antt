use Rattle.std.proofs.Common.{◌∙◌}
use Rattle.clap.specs.Words.{found_of}
use Rattle.clap.proofs.WalkLemmas.{one_text-rows}
use Rattle.claim_check.proofs.command_line.flag_of.Goals as goal

pub returns : goal.returns
returns c =
    let same = one_text-rows (found_of c.args.matches.now) c.args.name.now in
    record {
      reads = (λ none. c.get_flag.ensures.none (same ∙ none), λ some. c.get_flag.ensures.value (same ∙ some), λ some. c.get_flag.ensures.other (same ∙ some));
    }
