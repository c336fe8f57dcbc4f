-- The tree of a text, or the reported error of a text that has no tree.
use Rattle.std.specs.Prelude.{◌≡◌, ℕ, List, ◌++◌, length, slice_get, Some}
use Rattle.program_tree.specs.Code.{Tree}
use Rattle.program_tree.specs.Faults.{IsProgram, IsFirstFault}
use Rattle.program_tree.specs.Numbers.{tree_of_shape}
use Rattle.program_tree.specs.Shapes.{ProgramShape}
use Rattle.program_tree.specs.Text.{IsLexed}
use Rattle.program_tree.specs.Tokens.{Token}
use Rattle.program_tree.specs.declared.error.ReadErrorKind.{ReadErrorKind}

-- the tokens are the tokens of a program, and the program has this tree
pub record IsTreeOfTokens (tokens : List Token) (tree : Tree) : Type 0 where
  pub shape : ProgramShape
  pub program : IsProgram shape tokens
  pub numbered : tree ≡ tree_of_shape shape

-- the text is the text of a program, and the program has this tree
pub record IsTreeOf (text : List ℕ) (tree : Tree) : Type 0 where
  pub tokens : List Token
  pub lines : List ℕ
  pub lexed : IsLexed text tokens lines
  pub spelled : IsTreeOfTokens tokens tree

-- the reported error of the text is of this kind, and its token, or the end of the text, is on this line
pub record IsErrorOf (text : List ℕ) (kind : ReadErrorKind) (line : ℕ) : Type 0 where
  pub tokens : List Token
  pub lines : List ℕ
  pub lexed : IsLexed text tokens lines
  pub before : List Token
  pub rest : List Token
  pub split : tokens ≡ before ++ rest
  pub matches : IsFirstFault kind before rest
  pub in_state : slice_get lines (length before) ≡ Some line
