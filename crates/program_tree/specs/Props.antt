-- Each proposition in a ghost field of a program has at most one proof.
use Rattle.std.specs.Prelude.{ℕ, List, [], ◌∷◌}
use Rattle.std.proofs.Props.{props}
use Rattle.program_tree.specs.EventNames.{BroadcastEvent, PostedEvent, TestedEvent}
use Rattle.program_tree.specs.declared.tree.Operator.{Operator}
use Rattle.program_tree.specs.declared.instruction.Instruction.{Instruction}
use Rattle.program_tree.specs.Tree.{Expression, Action, Statement, Body, does, branch, while, Expression-set}
use Rattle.program_tree.specs.Tree.{Statement-set}
use Rattle.program_tree.specs.Flat.{Task, acts, tests, task_of, Tests, LeadsBy, Leads, IsFlat}

cast_set : IsSet (BroadcastEvent ℕ)
cast_set = hlevel props

sent_set : IsSet (PostedEvent ℕ)
sent_set = hlevel (props, cast_set)

any_set : IsSet (TestedEvent ℕ)
any_set = hlevel (props, sent_set)

operator_set : IsSet Operator
operator_set = hlevel props

expression_set : IsSet (Expression ℕ)
expression_set = hlevel (props, Expression-set, any_set, operator_set)

action_set : IsSet (Action ℕ)
action_set = hlevel (props, expression_set, cast_set, sent_set)

statement_set : IsSet (Statement ℕ)
statement_set = hlevel (props, Statement-set, expression_set, action_set)

Tests-prop : (at : ℕ → List (Statement ℕ)) (c : Expression ℕ) (held failed : ℕ) (here : List (Statement ℕ))
    → IsProp (Tests at c held failed here)
Tests-prop at c held failed [] = hlevel props
Tests-prop at c held failed (does a ∷ rest) = hlevel props
Tests-prop at c held failed (branch d a o ∷ rest) = hlevel (props, expression_set, statement_set)
Tests-prop at c held failed (while d a ∷ rest) = hlevel (props, expression_set, statement_set)

LeadsBy-prop : (at : ℕ → List (Statement ℕ)) (t : Task) (here : List (Statement ℕ)) → IsProp (LeadsBy at t here)
LeadsBy-prop at (acts a after) here = hlevel (props, statement_set)
LeadsBy-prop at (tests c held failed) here = Tests-prop at c held failed here

Leads-prop : (at : ℕ → List (Statement ℕ)) (i : Instruction) (here : List (Statement ℕ)) → IsProp (Leads at i here)
Leads-prop at i here = LeadsBy-prop at (task_of i) here

pub IsFlat-prop : (b : Body ℕ) (code : List Instruction) → IsProp (IsFlat b code)
IsFlat-prop b code = hlevel (props, Leads-prop, statement_set)
