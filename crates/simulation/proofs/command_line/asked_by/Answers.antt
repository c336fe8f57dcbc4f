use Rattle.std.proofs.Common.{inl, inr, rules, subst}
use Rattle.clap.specs.Words.{app_of, kind_of}
use Rattle.clap.proofs.TakesLemmas.{passed_up}
use Rattle.simulation.specs.Words.{AskedIn, FaultOf, texts_of}
use Rattle.simulation.proofs.WordFacts.{simple, simple_and_free}
use Rattle.simulation.proofs.command_line.asked_by.Goals as goal

pub returns-in_err-command-clause-refuses : goal.returns-in_err-command-clause-refuses
returns-in_err-command-clause-refuses c = search rules

pub returns-in_err-matches-clause-refuses : goal.returns-in_err-matches-clause-refuses
returns-in_err-matches-clause-refuses c =
    let is = c.in_ok-command.ensures.is_motesim in
    let kinds = c.in_err-matches.ensures.kinds (simple_and_free _ is) in
    passed_up _ c.in_err-matches.field-0.0 (λ e. FaultOf (texts_of c.args.words.now) (kind_of e)) c.from_residual-in_err-matches.ensures.1
    (elim kinds [ inl memory ↦ inl memory | inr among ↦ inr (record { app = app_of c.in_ok-command.field-0; is = is; among = among }) ])

pub returns-clause-asks : goal.returns-clause-asks
returns-clause-asks c =
    let is = c.in_ok-command.ensures.is_motesim in
    record {
      app = app_of c.in_ok-command.field-0;
      is = is;
      accepted = c.in_ok-matches.ensures.kinds (simple_and_free _ is);
      values = subst (λ rows. AskedIn rows c.asked_of.result) (c.in_ok-matches.ensures.matches (simple _ is)).0 c.asked_of.ensures.asked_in;
    }
