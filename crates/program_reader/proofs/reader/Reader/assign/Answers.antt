use Rattle.std.proofs.Common.{refl, rules}
use Rattle.program_tree.specs.Tree.{assign}
use Rattle.program_tree.specs.Meaning.{expression_of}
use Rattle.program_reader.proofs.Runs.{targeted, with_part, with_sign, action_read}
use Rattle.program_reader.proofs.reader.Reader.assign.Goals as goal

pub returns : goal.returns
returns c = record {
  answers_action =
      let r = action_read {a = assign c.in_ok-variable.variable (expression_of c.in_ok-value.value)}
      (with_sign (with_part c.in_ok-value.ensures.answers_expression.same (with_sign
      (targeted c.args.self.now.scope c.target.new.self.scope c.in_ok-variable.ensures.names c.in_ok-variable.ensures.ok
      c.in_ok-variable.ensures.numbered c.in_ok-variable.ensures.fits)
      c.in_ok-sign.ensures.ok)
      c.in_ok-value.ensures.answers_expression.ok c.in_ok-value.ensures.answers_expression.numbered c.in_ok-value.ensures.answers_expression.fits) c.in_ok-sign-2.ensures.ok)
      (record { spelled = λ n ms. refl; numbered = λ n p. cc; fit = λ w. refl }) in
      record {
        names = search rules;
        shorter = search rules;
        counts = search rules;
        ok = r.ok;
        numbered = r.numbered;
        fits = r.fits;
        err = search rules;
      };
}
