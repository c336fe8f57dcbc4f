use Rattle.std.proofs.Common.{refl, rules}
use Rattle.program_tree.specs.Meaning.{sent_of}
use Rattle.program_tree.specs.Tree.{post}
use Rattle.program_tree.specs.Meaning.{expression_of}
use Rattle.program_reader.proofs.Runs.{begun, with_part, action_read}
use Rattle.program_reader.proofs.reader.Reader.post.Goals as goal

pub returns : goal.returns
returns c = record {
  answers_action =
      let r = action_read {a = post c.in_ok-process.process (sent_of c.in_ok-event.event)
      (expression_of c.in_ok-word.word)
      c.in_ok-into.into}
      (with_part c.in_ok-into.ensures.same (with_part c.in_ok-word.ensures.answers_expression.same
      (with_part c.in_ok-event.ensures.same (with_part c.in_ok-process.ensures.same
      (begun c.args.self.now.scope c.begin.new.self.scope c.in_ok-begin.ensures.names c.in_ok-begin.ensures.ok
      refl)
      c.in_ok-process.ensures.ok c.in_ok-process.ensures.numbered c.in_ok-process.ensures.fits)
      c.in_ok-event.ensures.ok c.in_ok-event.ensures.numbered c.in_ok-event.ensures.fits)
      c.in_ok-word.ensures.answers_expression.ok c.in_ok-word.ensures.answers_expression.numbered c.in_ok-word.ensures.answers_expression.fits)
      c.in_ok-into.ensures.ok c.in_ok-into.ensures.numbered c.in_ok-into.ensures.fits)
      (record { spelled = λ n ms. refl; numbered = λ n p. cc; fit = λ w. refl }) in
      record {
        names = search rules;
        shorter = search rules;
        counts = search rules;
        ok = r.ok;
        numbered = r.numbered;
        fits = r.fits;
        err = search rules;
      };
}
