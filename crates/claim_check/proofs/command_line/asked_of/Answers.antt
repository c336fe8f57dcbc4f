use Rattle.std.proofs.Common.{◌∙◌, ap, codes, unwrap_or, []}
use Rattle.clap.specs.Words.{found_of}
use Rattle.clap.proofs.WalkLemmas.{first_value-rows}
use Rattle.claim_check.proofs.command_line.asked_of.Goals as goal

pub returns : goal.returns
returns c = record {
  asked_in =
      let found = found_of c.args.matches.now in
      record {
        options = c.in_ok-options.ensures.options_in;
        scenario = c.text_of.ensures.value ∙ ap (λ o. unwrap_or o []) (c.get_str.ensures ∙ first_value-rows found (codes "SCENARIO"));
        claims = c.get_str-2.ensures ∙ first_value-rows found (codes "CLAIMS");
        faults = c.get_str-3.ensures ∙ first_value-rows found (codes "faults");
      };
}
