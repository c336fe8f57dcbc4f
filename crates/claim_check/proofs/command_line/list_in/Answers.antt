use Rattle.std.proofs.Common.{◌∙◌, IfOk, subst}
use Rattle.clap.specs.Words.{found_of}
use Rattle.clap.proofs.WalkLemmas.{first_value-rows}
use Rattle.claim_check.specs.Words.{ReadsList}
use Rattle.claim_check.proofs.command_line.list_in.Goals as goal

pub returns : goal.returns
returns c = record {
  reads = subst (λ text. IfOk c.list_of.result (ReadsList text)) (c.get_str.ensures ∙ first_value-rows (found_of c.args.matches.now) c.args.name.now) c.list_of.ensures.reads;
}
