use Rattle.std.proofs.Common.{ap, length, arith}
use Rattle.program_tree.specs.InScope.{name_in}
use Rattle.std.proofs.lemmas.Result.{on_ok_weaker}
use Rattle.mote_program.specs.Spelled.{names_in}
use Rattle.mote_program.proofs.Adding.{block_begun, block_more, block_added, action_added}
use Rattle.mote_program.proofs.Adding.{if_added, else_added, while_added}
use Rattle.mote_program.proofs.unparse.Scoped.+unparse.Goals as goal

pub block-returns : goal.block-returns
block-returns t c = record {
  appended =
      on_ok_weaker c.add-2.result
      (λ m. block_added (name_in (names_in c.args.self.now)) c.args.block.now.statements.items
      c.statements.statement-index _ _ _ (omega (
        arith,
        c.statements-test.false,
        ap length
            c.deref-statement-items.ensures.value,
      )) c.statements.invariant m)
      c.add-2.ensures.appended;
}

pub statement-returns-in-None : goal.statement-returns-in-None
statement-returns-in-None t c = record {
  appended =
      if_added (name_in (names_in c.args.self.now)) c.in-If.test c.in-If.then _ _ _ _ c.in-If.otherwise c.in-If.is
      c.in-None.is c.in_ok-with_value-in-If.ensures.appended c.in_ok-block-in-If.ensures.appended;
}

pub statement-returns-in_ok-add-in-Some : goal.statement-returns-in_ok-add-in-Some
statement-returns-in_ok-add-in-Some t c = record {
  appended =
      on_ok_weaker c.block-in-Some.result
      (λ m. else_added (name_in (names_in c.args.self.now)) c.in-If.test c.in-If.then _ _ _ _ c.in-If.otherwise
      c.in-Some.block _ _ c.in-If.is c.in-Some.is c.in_ok-with_value-in-If.ensures.appended c.in_ok-block-in-If.ensures.appended
      c.in_ok-add-in-Some.ensures.appended m)
      c.block-in-Some.ensures.appended;
}

pub statement-returns-in_ok-with_value-in-While : goal.statement-returns-in_ok-with_value-in-While
statement-returns-in_ok-with_value-in-While t c = record {
  appended =
      on_ok_weaker c.block-in-While.result (λ m. while_added (name_in (names_in c.args.self.now)) c.in-While.test
      c.in-While.block _ _ _ _ c.in-While.is c.in_ok-with_value-in-While.ensures.appended m) c.block-in-While.ensures.appended;
}

pub block-statements-init : goal.block-statements-init
block-statements-init t c =
    block_begun (name_in (names_in c.args.self.now)) c.args.block.now.statements.items _ _ c.in_ok-add.ensures.appended

pub block-statements-preserved : goal.block-statements-preserved
block-statements-preserved t c =
    block_more (name_in (names_in c.args.self.now)) c.args.block.now.statements.items
    c.deref-statement-items.result.now c.statements.statement-index c.statement-item.result _ _ _
    c.deref-statement-items.ensures.value c.statements-test.true c.statement-item.is c.statements.invariant
    c.in_ok-statement.ensures.appended

pub statement-returns-in-Do : goal.statement-returns-in-Do
statement-returns-in-Do t c = record {
  appended =
      on_ok_weaker c.action.result
      (λ m. action_added (name_in (names_in c.args.self.now)) c.in-Do.action c.args.statement.now _ _ c.in-Do.is m)
      c.action.ensures.appended;
}
