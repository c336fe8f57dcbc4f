use Rattle.std.proofs.Common.{◌≡◌, ◌∙◌, ◌+◌, ◌<◌, ◌≤◌, ap, sym, subst, refl, arith, Some, option_map, rules}
use Rattle.program_reader.specs.Machine.{first}
use Rattle.program_reader.specs.Steps.{context_of}
use Rattle.program_tree.specs.TokenMeaning.{token_of}
use Rattle.program_tree.specs.Tree.{does, otherwise, inner_height, inner_size}
use Rattle.program_tree.specs.Tokens as token
use Rattle.program_tree.specs.declared.keyword.Keyword.TheVariants as word
use Rattle.program_reader.proofs.Blocks.{else_reads, one_read, all_read}
use Rattle.program_reader.proofs.ExtendLaws.{fixed_names}
use Rattle.program_reader.proofs.Runs.{begun, with_part, with_block, with_else, statement_read}
use Rattle.program_tree.proofs.TreeLaws.{branch_of-If, while_of-While, does_of-Do}
use Rattle.program_reader.proofs.reader.Reader.+statement.Goals as goal

pub block-returns-in-Some-CloseBrace : goal.block-returns-in-Some-CloseBrace
block-returns-in-Some-CloseBrace t c =
    let is : first c.statements.self.cursor ≡ Some token.CloseBrace =
    sym c.peek.ensures.first_token ∙ ap (option_map token_of)
    (c.in-Some-CloseBrace.is ∙ ap Some c.in-Some-CloseBrace.field-0-is) in
    let r = all_read _ _ _ (context_of c.args.place.now) _ _ _ _ _ c.statements.invariant.front is c.advance.ensures.after
    c.new.ensures.statements in
    record {
      names = search rules;
      no_longer = search rules;
      ok = r.ok;
      numbered = r.numbered;
      fits = r.fits;
      shallow = r.shallow;
      counts = r.counts;
      err = search rules;
    }

pub block-statements-preserved : goal.block-statements-preserved
block-statements-preserved t c =
    let i = c.statements.invariant in
    let k = c.in_ok-statement-in_default.ensures.answers_statement in
    record {
      no_longer = omega arith;
      names = k.names ∙ i.names;
      front = one_read _ _ _ (context_of c.args.place.now) _ _ _ c.in_ok-statement-in_default.statement _ _ _
          c.inner-within.ensures.context c.in_ok-push-in_default.ensures.items i.front
          (fixed_names c.statements.self.scope c.args.self.now.scope i.names) k.ok k.numbered k.fits k.shallow k.counts;
    }

pub branch-returns : goal.branch-returns
branch-returns t c = record {
  answers_statement =
      let e = branch_of-If c.in_ok-test.test c.in_ok-then.then c.in_ok-otherwise.otherwise in
      let r = statement_read e
      (with_else c.block.new.self.scope c.otherwise.new.self.scope c.in_ok-otherwise.ensures.names
      (with_block c.expression.new.self.scope c.block.new.self.scope c.in_ok-then.ensures.names
      (with_part c.in_ok-test.ensures.answers_expression.same
      (begun c.args.self.now.scope c.begin.new.self.scope c.in_ok-begin.ensures.names c.in_ok-begin.ensures.ok refl)
      c.in_ok-test.ensures.answers_expression.ok c.in_ok-test.ensures.answers_expression.numbered c.in_ok-test.ensures.answers_expression.fits)
      c.in_ok-then.ensures.ok c.in_ok-then.ensures.numbered c.in_ok-then.ensures.fits)
      c.in_ok-otherwise.ensures.ok c.in_ok-otherwise.ensures.numbered c.in_ok-otherwise.ensures.fits)
      (λ n ms. refl) (λ n p. cc) (λ w. refl) in
      record {
        names = search rules;
        shorter = search rules;
        ok = r.ok;
        numbered = r.numbered;
        fits = r.fits;
        shallow = subst (λ z. c.args.place.now.level + inner_height z ≤ 32) (sym e)
            (omega (arith, c.in_ok-then.ensures.shallow, c.in_ok-otherwise.ensures.shallow));
        counts =
            let same : c.expression.new.self.scope.statements ≡ c.begin.new.self.scope.statements =
            ap (λ z. z.statements) c.in_ok-test.ensures.answers_expression.same in
            subst (λ z. inner_size z + c.args.self.now.scope.statements < c.otherwise.new.self.scope.statements) (sym e)
            (omega (
              arith,
              same,
              c.in_ok-begin.ensures.counts,
              c.in_ok-then.ensures.counts,
              c.in_ok-otherwise.ensures.counts,
            ));
        err = search rules;
      };
}

pub repeat-returns : goal.repeat-returns
repeat-returns t c = record {
  answers_statement =
      let e = while_of-While c.in_ok-test.test c.in_ok-block.block in
      let r = statement_read e
      (with_block c.expression.new.self.scope c.block.new.self.scope c.in_ok-block.ensures.names
      (with_part c.in_ok-test.ensures.answers_expression.same
      (begun c.args.self.now.scope c.begin.new.self.scope c.in_ok-begin.ensures.names c.in_ok-begin.ensures.ok refl)
      c.in_ok-test.ensures.answers_expression.ok c.in_ok-test.ensures.answers_expression.numbered c.in_ok-test.ensures.answers_expression.fits)
      c.in_ok-block.ensures.ok c.in_ok-block.ensures.numbered c.in_ok-block.ensures.fits)
      (λ n ms. refl) (λ n p. cc) (λ w. refl) in
      record {
        names = search rules;
        shorter = search rules;
        ok = r.ok;
        numbered = r.numbered;
        fits = r.fits;
        shallow = subst (λ z. c.args.place.now.level + inner_height z ≤ 32) (sym e) c.in_ok-block.ensures.shallow;
        counts =
            let same : c.expression.new.self.scope.statements ≡ c.begin.new.self.scope.statements =
            ap (λ z. z.statements) c.in_ok-test.ensures.answers_expression.same in
            subst (λ z. inner_size z + c.args.self.now.scope.statements < c.block.new.self.scope.statements) (sym e)
            (omega (arith, same, c.in_ok-begin.ensures.counts, c.in_ok-block.ensures.counts));
        err = search rules;
      };
}

pub otherwise-returns-in_ok-block-in-Some-Keyword-Else-clause-ok :
    goal.otherwise-returns-in_ok-block-in-Some-Keyword-Else-clause-ok
otherwise-returns-in_ok-block-in-Some-Keyword-Else-clause-ok t c =
    let here : first c.args.self.now.cursor ≡ Some (token.Keyword word.Else) =
    sym c.peek.ensures.first_token ∙ ap (option_map token_of)
    (c.in-Some-Keyword-Else.is ∙ ap Some c.in-Some-Keyword-Else.field-0-is) ∙ ap (λ k. Some (token.Keyword k))
    c.in-Some-Keyword-Else.field-0-0-is in
    else_reads _ _ _ _ _ _ _ here c.advance.ensures.after c.in_ok-block-in-Some-Keyword-Else.ensures.ok

pub otherwise-returns-in_ok-block-in-Some-Keyword-Else-clause-numbered :
    goal.otherwise-returns-in_ok-block-in-Some-Keyword-Else-clause-numbered
otherwise-returns-in_ok-block-in-Some-Keyword-Else-clause-numbered t c =
    λ n h. ap otherwise (c.in_ok-block-in-Some-Keyword-Else.ensures.numbered n h)

pub statement-returns-in_ok-plain-in_default : goal.statement-returns-in_ok-plain-in_default
statement-returns-in_ok-plain-in_default t c = record {
  answers_statement = record {
    names = search rules;
    shorter = search rules;
    ok =
        rw (does_of-Do c.in_ok-plain-in_default.field-0) (record {
          spelled = c.in_ok-plain-in_default.ensures.answers_action.ok.spelled;
          goes_on = c.in_ok-plain-in_default.ensures.answers_action.ok.goes_on;
        });
    numbered = λ n h. rw (does_of-Do c.in_ok-plain-in_default.field-0)
        (ap does (c.in_ok-plain-in_default.ensures.answers_action.numbered n h));
    fits = rw (does_of-Do c.in_ok-plain-in_default.field-0) c.in_ok-plain-in_default.ensures.answers_action.fits;
    shallow =
        subst (λ z. c.args.place.now.level + inner_height z ≤ 32)
        (sym (does_of-Do c.in_ok-plain-in_default.field-0)) (omega (arith, c.requires.level_bounded));
    counts =
        subst (λ z. inner_size z + c.args.self.now.scope.statements < c.plain.new.self.scope.statements)
        (sym (does_of-Do c.in_ok-plain-in_default.field-0)) (omega (arith, c.in_ok-plain-in_default.ensures.answers_action.counts));
    err = search rules;
  };
}
