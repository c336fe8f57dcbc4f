-- The statements that follow each place of a block's flat code.
use Rattle.std.specs.Prelude.{◌≡◌, ℕ, ◌≤◌, List, [], ◌∷◌, ◌++◌, length, Some, slice_get, slice_index_or}
use Rattle.program_tree.specs.declared.instruction.Instruction.{Instruction}
use Rattle.program_tree.specs.declared.instruction.Instruction.TheVariants.{Act, Assign, AssignTerm, AssignNumber}
use Rattle.program_tree.specs.declared.instruction.Instruction.TheVariants.{Test, TestTerm, TestNumber}
use Rattle.program_tree.specs.Tree.{Expression, number, variable, binary, Action, assign, Statement, does, branch}
use Rattle.program_tree.specs.Tree.{while, Body, end, next, Otherwise, nothing, otherwise, listed, other_block}
use Rattle.program_tree.specs.Meaning.{action_of}
use Rattle.program_tree.specs.Formula.{term_of, formula_of}

-- Each statement has a place, in the order of the text: the statements of an inner block are after the statement that
-- has the block. The rest at a place is all that remains there: the statement, the statements after it in its block,
-- and the statements that follow that block.
abbrev mutual
  pub rests : Body ℕ → (after : List (Statement ℕ)) → List (List (Statement ℕ))
  rests end after = []
  rests (next s b) after = statement_rests s (listed b ++ after) ++ rests b after

  pub statement_rests : Statement ℕ → (after : List (Statement ℕ)) → List (List (Statement ℕ))
  statement_rests (does a) after = (does a ∷ after) ∷ []
  statement_rests (branch c a o) after = (branch c a o ∷ after) ∷ (rests a after ++ other_rests o after)
  statement_rests (while c a) after = (while c a ∷ after) ∷ rests a (while c a ∷ after)

  pub other_rests : Otherwise ℕ → (after : List (Statement ℕ)) → List (List (Statement ℕ))
  other_rests nothing after = []
  other_rests (otherwise b) after = rests b after

-- the rest at a place, given all rests; at any other place nothing is left
abbrev pub rest_in : List (List (Statement ℕ)) → (place : ℕ) → List (Statement ℕ)
rest_in all place = slice_index_or all place []

-- the rest at a place of a block's flat code
unfoldable pub rest_at : Body ℕ → (place : ℕ) → List (Statement ℕ)
rest_at b place = rest_in (rests b []) place

-- the work of an instruction: an action, with the place after it; or a test, with the places of its two outcomes
pub data Task : Type 0 where
  acts : Action ℕ → (after : ℕ) → Task
  tests : Expression ℕ → (held failed : ℕ) → Task

abbrev pub task_of : Instruction → Task
task_of (Act a after) = acts (action_of a) after
task_of (Assign i f after) = acts (assign i (formula_of f)) after
task_of (AssignTerm i t after) = acts (assign i (term_of t)) after
task_of (AssignNumber i o j n after) = acts (assign i (binary o (variable j) (number n))) after
task_of (Test f held failed) = tests (formula_of f) held failed
task_of (TestTerm t held failed) = tests (term_of t) held failed
task_of (TestNumber o j n held failed) = tests (binary o (variable j) (number n)) held failed

-- the rest here begins with an `if` or a `while` with this test; the two places have the rests of the test's outcomes
abbrev pub Tests : (at : ℕ → List (Statement ℕ)) → Expression ℕ → (held failed : ℕ) → (here : List (Statement ℕ))
    → Type 0
Tests at c held failed (branch d inner else ∷ after) =
    (d ≡ c) × (at held ≡ listed inner ++ after) × (at failed ≡ other_block else ++ after)
Tests at c held failed (while d inner ∷ after) =
    (d ≡ c) × (at held ≡ listed inner ++ while d inner ∷ after) × (at failed ≡ after)
Tests at c held failed here = ⊥

-- the task is that of the first statement of the rest here, and its places have the rests that remain after this
-- statement
abbrev pub LeadsBy : (at : ℕ → List (Statement ℕ)) → Task → (here : List (Statement ℕ)) → Type 0
LeadsBy at (acts a after) here = here ≡ does a ∷ at after
LeadsBy at (tests c held failed) here = Tests at c held failed here

-- the local property of an instruction
abbrev pub Leads : (at : ℕ → List (Statement ℕ)) → Instruction → (here : List (Statement ℕ)) → Type 0
Leads at i here = LeadsBy at (task_of i) here

-- Flat code of a block: each instruction has the local property, and there is one instruction for each rest.
pub record IsFlat (b : Body ℕ) (code : List Instruction) : Type 0 where
  pub each : (k : ℕ) (i : Instruction) → slice_get code k ≡ Some i → Leads (rest_at b) i (rest_at b k)
  pub outside : (k : ℕ) → length code ≤ k → rest_at b k ≡ []
