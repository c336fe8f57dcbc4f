use Rattle.std.proofs.Common.{◌<◌, ap, arith, rules}
use Rattle.program_reader.specs.Steps.{read_scope}
use Rattle.program_tree.specs.Meaning.{expression_of}
use Rattle.program_tree.specs.Tree.{negation}
use Rattle.program_reader.proofs.Runs.{same_names, renumbered, refitted}
use Rattle.program_reader.proofs.ValueLaws.{negation_reads, negation_numbered, sides_read, binary_reads}
use Rattle.program_reader.proofs.ValueLaws.{binary_numbered}
use Rattle.program_reader.proofs.reader.Reader.+expression.Goals as goal

pub negation-returns : goal.negation-returns
negation-returns t c = record {
  answers_expression = record {
    no_longer = search rules;
    same = search rules;
    ok =
        let low : c.args.place.now.level < 32 = omega (arith, c.requires.shallow, c.if-place-eq-LEVELS.false) in
        negation_reads _ _ _ (negation (expression_of c.in_ok-new.field-0.value)) _ _ _ _ c.inner.ensures.context
        (ap (λ e. negation (expression_of e)) c.in_ok-new.ensures.ok) c.requires.at_bang low c.advance.ensures.after
        c.in_ok-operand.ensures.answers_expression.ok;
    numbered =
        negation_numbered _ (negation (expression_of c.in_ok-new.field-0.value)) _
        (ap (λ e. negation (expression_of e)) c.in_ok-new.ensures.ok) c.in_ok-operand.ensures.answers_expression.numbered;
    fits = search rules;
    err = search rules;
  };
}

pub sides-returns-clause-ok : goal.sides-returns-clause-ok
sides-returns-clause-ok t c =
    sides_read _ _ _ _ _ _ _ _ _ _ _ (ap read_scope c.in_ok-left.ensures.answers_expression.same) c.in_ok-left.ensures.answers_expression.ok
    c.in_ok-operator.ensures.ok c.in_ok-right.ensures.answers_expression.ok c.in_ok-sign.ensures.ok

pub sides-returns-clause-right_numbered : goal.sides-returns-clause-right_numbered
sides-returns-clause-right_numbered t c = renumbered _ _ _ _ (same_names _ _ c.in_ok-left.ensures.answers_expression.same)
    c.in_ok-right.ensures.answers_expression.numbered

pub sides-returns-clause-right_fits : goal.sides-returns-clause-right_fits
sides-returns-clause-right_fits t c = refitted _ _ _ _ (same_names _ _ c.in_ok-left.ensures.answers_expression.same)
    c.in_ok-right.ensures.answers_expression.fits

pub binary-returns : goal.binary-returns
binary-returns t c = record {
  answers_expression = record {
    no_longer = search rules;
    same = search rules;
    ok =
        let low : c.args.place.now.level < 32 = omega (arith, c.requires.shallow, c.if-place-eq-LEVELS.false) in
        binary_reads _ _ _ _ _ _ _ _ _ _ c.inner.ensures.context c.in_ok-into_expression.ensures.expression c.requires.at_open low
        c.advance.ensures.after c.in_ok-sides.ensures.ok;
    numbered = binary_numbered _ _ _ _ _ c.in_ok-into_expression.ensures.expression c.in_ok-sides.ensures.left_numbered
        c.in_ok-sides.ensures.right_numbered;
    fits = search rules;
    err = search rules;
  };
}
