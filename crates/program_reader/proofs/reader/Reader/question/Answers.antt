use Rattle.std.proofs.Common.{rules}
use Rattle.program_reader.proofs.ExpressionSteps.{answer_reads}
use Rattle.program_reader.proofs.ValueLaws.{telling_read}
use Rattle.program_reader.proofs.reader.Reader.question.Goals as goal

pub returns : goal.returns
returns c = record {
  answers_expression =
      let r = telling_read c.args.telling c.class-class.ensures.class c.value.ensures.expression
      (answer_reads _ _ _ _ _ _ _ _ _ _ c.requires.at_keyword c.class-class.ensures.form c.advance.ensures.after
      c.in_ok-sign.ensures.ok c.in_ok-number.ensures.ok c.in_ok-sign-2.ensures.ok) c.in_ok-number.ensures.numbered
      c.in_ok-number.ensures.fits in
      record {
        no_longer = search rules;
        same = search rules;
        ok = r.ok;
        numbered = r.numbered;
        fits = r.fits;
        err = search rules;
      };
}
