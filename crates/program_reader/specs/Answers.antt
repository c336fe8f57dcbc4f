-- The result of a call of the reader: the part of a program that it has read, or the first error.
use Rattle.std.specs.Prelude.{◌≡◌, ◌+◌, ◌<◌, ◌≤◌, length, Result, IfOk, OnOk}
use Rattle.program_tree.specs.Grammar.{expression_marks, action_marks, statement_marks}
use Rattle.program_tree.specs.InScope.{name_in, number_in}
use Rattle.program_tree.specs.Scope.{expression_fits, action_fits, statement_fits}
use Rattle.program_tree.specs.Meaning.{expression_of, action_of, statement_of}
use Rattle.program_tree.specs.Tree.{expression_map, action_map, statement_map}
use Rattle.program_tree.specs.Tree.{inner_height, inner_size}
use Rattle.program_tree.specs.declared.tree.Action.{Action}
use Rattle.program_tree.specs.declared.tree.Expr.{Expr}
use Rattle.program_tree.specs.declared.tree.Stmt.{Stmt}
use Rattle.program_reader.specs.Machine.{expression, items}
use Rattle.program_reader.specs.Steps.{read_scope, context_of, fixed, Reads, ReadsStatement, Numbered, Fits, Fails}
use Rattle.program_reader.specs.declared.fault.ReadFailure.{ReadFailure}
use Rattle.program_reader.specs.declared.reader.Reader.{Reader}
use Rattle.program_reader.specs.declared.scope.Context.{Context}

-- the result of reading an expression
pub record AnswersExpression (old new : Reader) (place : Context) (result : Result Expr ReadFailure) : Type 0 where
  pub no_longer : length new.cursor ≤ length old.cursor
  pub same : new.scope ≡ old.scope
  pub ok : IfOk result (λ e. Reads (read_scope old.scope) (read_scope old.scope) (expression (context_of place))
      (λ n ms. expression_marks (context_of place) (expression_map (name_in n) (expression_of e)) ms) old.cursor
      new.cursor)
  pub numbered : IfOk result (λ e. Numbered (read_scope old.scope).names
      (λ n. expression_map (number_in n) (expression_map (name_in n) (expression_of e))) (expression_of e))
  pub fits : IfOk result (λ e. Fits (read_scope old.scope).names (context_of place).thread
      (λ w. expression_fits w (expression_of e)))
  pub err : Fails (read_scope old.scope) (expression (context_of place)) old.cursor result

-- the result of reading a statement without a block
pub record AnswersAction (old new : Reader) (place : Context) (result : Result Action ReadFailure) : Type 0 where
  pub names : fixed new.scope ≡ fixed old.scope
  pub shorter : OnOk result (length new.cursor < length old.cursor)
  pub counts : OnOk result (old.scope.statements < new.scope.statements)
  pub ok : IfOk result (λ a. ReadsStatement (read_scope old.scope) (read_scope new.scope) (context_of place)
      (λ n ms. action_marks (context_of place) (action_map (name_in n) (action_of a)) ms) old.cursor new.cursor)
  pub numbered : IfOk result (λ a. Numbered (read_scope old.scope).names
      (λ n. action_map (number_in n) (action_map (name_in n) (action_of a))) (action_of a))
  pub fits : IfOk result (λ a. Fits (read_scope old.scope).names (context_of place).thread
      (λ w. action_fits w (action_of a)))
  pub err : Fails (read_scope old.scope) (items (context_of place)) old.cursor result

-- the result of reading a statement; the reader counts it, and the statements in its blocks
pub record AnswersStatement (old new : Reader) (place : Context) (result : Result Stmt ReadFailure) : Type 0 where
  pub names : fixed new.scope ≡ fixed old.scope
  pub shorter : OnOk result (length new.cursor < length old.cursor)
  pub ok : IfOk result (λ s. ReadsStatement (read_scope old.scope) (read_scope new.scope) (context_of place)
      (λ n ms. statement_marks (context_of place) (statement_map (name_in n) (statement_of s)) ms) old.cursor
      new.cursor)
  pub numbered : IfOk result (λ s. Numbered (read_scope old.scope).names
      (λ n. statement_map (number_in n) (statement_map (name_in n) (statement_of s))) (statement_of s))
  pub fits : IfOk result (λ s. Fits (read_scope old.scope).names (context_of place).thread
      (λ w. statement_fits w (statement_of s)))
  pub shallow : IfOk result (λ s. place.level + inner_height (statement_of s) ≤ 32)
  pub counts : IfOk result (λ s. inner_size (statement_of s) + old.scope.statements < new.scope.statements)
  pub err : Fails (read_scope old.scope) (items (context_of place)) old.cursor result
