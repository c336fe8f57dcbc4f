use Rattle.std.proofs.Common.{refl, rules}
use Rattle.program_tree.specs.Tree.{set}
use Rattle.program_tree.specs.Meaning.{expression_of}
use Rattle.program_reader.proofs.Runs.{begun, with_part, with_sign, action_read}
use Rattle.program_reader.proofs.reader.Reader.set.Goals as goal

pub returns : goal.returns
returns c = record {
  answers_action =
      let r = action_read {a = set c.in_ok-timer.timer (expression_of c.in_ok-interval.interval)}
      (with_sign (with_part c.in_ok-interval.ensures.answers_expression.same (with_part c.in_ok-timer.ensures.same
      (begun c.args.self.now.scope c.begin.new.self.scope c.in_ok-begin.ensures.names c.in_ok-begin.ensures.ok
      refl)
      c.in_ok-timer.ensures.ok c.in_ok-timer.ensures.numbered c.in_ok-timer.ensures.fits)
      c.in_ok-interval.ensures.answers_expression.ok c.in_ok-interval.ensures.answers_expression.numbered c.in_ok-interval.ensures.answers_expression.fits)
      c.in_ok-sign.ensures.ok)
      (record { spelled = λ n ms. refl; numbered = λ n p. cc; fit = λ w. refl }) in
      record {
        names = search rules;
        shorter = search rules;
        counts = search rules;
        ok = r.ok;
        numbered = r.numbered;
        fits = r.fits;
        err = search rules;
      };
}
