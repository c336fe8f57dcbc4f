use Rattle.std.proofs.Common.{◌≡◌, [], ap, inl, inr, rules, subst}
use Rattle.clap.specs.Words.{IsAmong, fault_of, kind_of, matches_of}
use Rattle.clap.specs.Faults.{is_simple_and_free}
use Rattle.clap.specs.Simple.{is_simple}
use Rattle.clap.proofs.TakesLemmas.{passed_up}
use Rattle.simulation.specs.Words.{texts_of}
use Rattle.claim_check.specs.Words.{OptionsIn, FaultOf, options_app}
use Rattle.claim_check.proofs.command_line.options_by.Goals as goal

pub returns-in_err-options_command-clause-refuses : goal.returns-in_err-options_command-clause-refuses
returns-in_err-options_command-clause-refuses c = search rules

pub returns-in_err-matches-clause-refuses : goal.returns-in_err-matches-clause-refuses
returns-in_err-matches-clause-refuses c =
    let kinds = c.in_err-matches.ensures.kinds (ap is_simple_and_free c.in_ok-options_command.ensures.has_options) in
    passed_up _ c.in_err-matches.field-0.0 (λ e. FaultOf options_app (texts_of c.args.words.now) (kind_of e)) c.from_residual-in_err-matches.ensures.1
    (elim kinds [
      | inl memory ↦ inl memory
      | inr among ↦ inr (subst (λ app. IsAmong (kind_of c.in_err-matches.field-0.0) (fault_of app (texts_of c.args.words.now))) c.in_ok-options_command.ensures.has_options among)
    ])

pub returns-clause-asks : goal.returns-clause-asks
returns-clause-asks c =
    let is = c.in_ok-options_command.ensures.has_options in
    let words = texts_of c.args.words.now in
    record {
      accepted = subst (λ app. fault_of app words ≡ []) is (c.in_ok-matches.ensures.kinds (ap is_simple_and_free is));
      values = subst (λ app. OptionsIn (matches_of app words) c.in_ok-options_of.field-0) is
          (subst (λ rows. OptionsIn rows c.in_ok-options_of.field-0) (c.in_ok-matches.ensures.matches (ap is_simple is)).0 c.in_ok-options_of.ensures.options_in);
    }
